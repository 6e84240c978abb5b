-- What edits of a leaf leave.
use Rattle.std.proofs.Common.{true, ◌≡◌, ℕ, Option, Some, None, IfSome, IfNone, ◌+◌, ◌<◌, ◌≤◌, List, [], ◌∷◌, ◌++◌, length, take, drop, insert, slice_set, slice_index_or, unwrap_or, All, Contains, arith, refl, sym, ap, ◌∙◌, subst, take-append-drop, append_assoc}
use Rattle.std.proofs.lemmas.List.{drop_more, take_more, take_more_set, drop-set-lt}
use Rattle.std.proofs.lemmas.List.Elements.{All-weaker, All-append, All-cons, All-nil}
use Rattle.ew_model.specs.declared.run.Run.{Ghosts}
use Rattle.order_tree.specs.declared.summary.Sums.{Sums}
use Rattle.order_tree.specs.declared.edit.Edit.TheVariants.{Insert, Split}
use Rattle.order_tree.specs.Pairs.{IsRising, total, first_label, ArePartsOf}
use Rattle.order_tree.specs.Parts.{all_pairs, one_pair, sums_of}
use Rattle.order_tree.specs.Edits.{IsFree, IsEdited}
use Rattle.order_tree.proofs.PairLaws.{total-cons, total-one}
use Rattle.order_tree.proofs.PartLists.{entries_are}
use Rattle.order_tree.proofs.EntryLaws.{entry_is, next_is}

module _ {R : Type 0} (G : Ghosts R) where
  pub same_sums : (s t : Sums) → s.known ≡ t.known → s.prepared ≡ t.prepared → s.effect ≡ t.effect → s ≡ t
  same_sums s t a b c =
      let first : s ≡ record { known = t.known; prepared = s.prepared; effect = s.effect } = ap (λ (n : ℕ). let u : Sums = record { known = n; prepared = s.prepared; effect = s.effect } in u) a in
      let second : record { known = t.known; prepared = s.prepared; effect = s.effect } ≡ record { known = t.known; prepared = t.prepared; effect = s.effect } = ap (λ (n : ℕ). let u : Sums = record { known = t.known; prepared = n; effect = s.effect } in u) b in
      let third : record { known = t.known; prepared = t.prepared; effect = s.effect } ≡ t = ap (λ (n : ℕ). let u : Sums = record { known = t.known; prepared = t.prepared; effect = n } in u) c in
      first ∙ second ∙ third

  -- the sums of one run, and of two
  pub sums_one : (s : Sums) (x : ℕ × R) → s.known ≡ G.known x.1 → s.prepared ≡ G.prepared x.1 → s.effect ≡ G.effect x.1 → s ≡ sums_of G (x ∷ [])
  sums_one s x a b c = same_sums s (sums_of G (x ∷ [])) (a ∙ sym (total-one G.known x)) (b ∙ sym (total-one G.prepared x)) (c ∙ sym (total-one G.effect x))

  total-two : (count : R → ℕ) (x y : ℕ × R) (n : ℕ) → n ≡ count x.1 + count y.1 → n ≡ total count (x ∷ y ∷ [])
  total-two count x y n e = omega (arith, e, total-cons count x (y ∷ []), total-one count y)

  pub sums_two : (s : Sums) (x y : ℕ × R) → s.known ≡ G.known x.1 + G.known y.1 → s.prepared ≡ G.prepared x.1 + G.prepared y.1 → s.effect ≡ G.effect x.1 + G.effect y.1 → s ≡ sums_of G (x ∷ y ∷ [])
  sums_two s x y a b c = same_sums s (sums_of G (x ∷ y ∷ [])) (total-two G.known x y s.known a) (total-two G.prepared x y s.prepared b) (total-two G.effect x y s.effect c)

  -- a run is put behind a label
  pub inserted_is : (ps new : List (ℕ × R)) (k label bound own most : ℕ) (run : R) (lost gained : Sums) → All (λ q. q.0 ≤ label) (take k ps) → All (λ q. label < q.0) (drop k ps)
      → new ≡ insert ps k (own, run) → label < own → own ≤ most → most + 1 ≡ unwrap_or (first_label (all_pairs one_pair (drop k ps))) bound
      → lost ≡ sums_of G [] → gained.known ≡ G.known run → gained.prepared ≡ G.prepared run → gained.effect ≡ G.effect run → IsEdited G (Insert run) bound label ps new own lost gained
  inserted_is ps new k label bound own most run lost gained below above e more less next none a b c =
      record {
        was = [];
        is = (own, run) ∷ [];
        replaces = record { front = take k ps; back = drop k ps; old_is = sym (take-append-drop k ps); new_is = e; below = below; above = above };
        puts = (refl, refl);
        between = (more, omega (arith, less, next, next_is ps k label bound below above));
        lost_is = none;
        gained_is = sums_one gained (own, run) a b c;
      }

module _ {R : Type 0} (G : Ghosts R) (ps : List (ℕ × R)) (k label : ℕ) (p : ℕ × R) (r : R) (lt : k < length ps) (is : p ≡ slice_index_or ps k p) (rising : IsRising ps)
    (below : All (λ q. q.0 < label) (all_pairs one_pair (take k ps))) (above : All (λ q. label < q.0) (all_pairs one_pair (drop (k + 1) ps))) (held : Contains ps (label, r)) where
  here : p ≡ (label, r)
  here = entry_is ps k label p r lt is rising below above held

  front_le : All (λ q. q.0 ≤ label) (take k ps)
  front_le = All-weaker (λ q. q.0 < label) (λ q. q.0 ≤ label) (λ q h. omega (arith, h)) (take k ps) (subst (λ (qs : List (ℕ × R)). All (λ q. q.0 < label) qs) (entries_are (take k ps)) below)

  back_gt : All (λ q. label < q.0) (drop (k + 1) ps)
  back_gt = subst (λ (qs : List (ℕ × R)). All (λ q. label < q.0) qs) (entries_are (drop (k + 1) ps)) above

  old_is : ps ≡ take k ps ++ ((label, r) ∷ drop (k + 1) ps)
  old_is = sym (take-append-drop k ps) ∙ ap (λ (qs : List (ℕ × R)). take k ps ++ qs) (drop_more ps k p lt ∙ ap (λ (q : ℕ × R). q ∷ drop (k + 1) ps) (sym is ∙ here))

  up_to_here : All (λ q. q.0 ≤ label) (take (k + 1) ps)
  up_to_here =
      let own : All (λ (q : ℕ × R). q.0 ≤ label) ((label, r) ∷ []) = All-cons (λ q. q.0 ≤ label) (label, r) [] (omega arith) (All-nil (λ q. q.0 ≤ label)) in
      let more : take (k + 1) ps ≡ take k ps ++ ((label, r) ∷ []) = take_more' in
      subst (λ (qs : List (ℕ × R)). All (λ q. q.0 ≤ label) qs) (sym more) (All-append (λ q. q.0 ≤ label) (take k ps) ((label, r) ∷ []) front_le own)
    where
      take_more' : take (k + 1) ps ≡ take k ps ++ ((label, r) ∷ [])
      take_more' = take_more ps k p lt ∙ ap (λ (q : ℕ × R). take k ps ++ (q ∷ [])) (sym is ∙ here)

  -- it is cut in two
  pub split_is : (new : List (ℕ × R)) (at : ℕ) (given : Option ℕ) (bound own most : ℕ) (first second : R) (lost gained : Sums) → new ≡ insert (slice_set ps k (label, first)) (k + 1) (own, second) → ArePartsOf G r at first second
      → label < own → own ≤ most → most + 1 ≡ unwrap_or (first_label (all_pairs one_pair (drop (k + 1) ps))) bound
      → lost.known ≡ G.known p.1 → lost.prepared ≡ G.prepared p.1 → lost.effect ≡ G.effect p.1
      → gained.known ≡ G.known first + G.known second → gained.prepared ≡ G.prepared first + G.prepared second → gained.effect ≡ G.effect first + G.effect second
      → IfSome given (λ n. own ≡ n) → IsEdited G (Split at given) bound label ps new own lost gained
  split_is new at given bound own most first second lost gained e parts more less next x y z a b c asked =
      let front : take (k + 1) (slice_set ps k (label, first)) ≡ take k ps ++ ((label, first) ∷ []) = take_more_set ps k (label, first) lt in
      let back : drop (k + 1) (slice_set ps k (label, first)) ≡ drop (k + 1) ps = drop-set-lt (k + 1) ps k (label, first) (omega arith) in
      let set : new ≡ take k ps ++ ((label, first) ∷ (own, second) ∷ drop (k + 1) ps) =
      e ∙ ap (λ (qs : List (ℕ × R)). qs ++ ((own, second) ∷ drop (k + 1) (slice_set ps k (label, first)))) front
      ∙ ap (λ (qs : List (ℕ × R)). (take k ps ++ ((label, first) ∷ [])) ++ ((own, second) ∷ qs)) back
      ∙ append_assoc (take k ps) ((label, first) ∷ []) ((own, second) ∷ drop (k + 1) ps) in
      record {
        was = (label, r) ∷ [];
        is = (label, first) ∷ (own, second) ∷ [];
        replaces = record { front = take k ps; back = drop (k + 1) ps; old_is = old_is; new_is = set; below = front_le; above = back_gt };
        puts = (r, first, second, refl, refl, parts, asked);
        between = (more, omega (arith, less, next, next_is ps (k + 1) label bound up_to_here back_gt));
        lost_is = sums_one G lost p x y z ∙ ap (λ (q : ℕ × R). sums_of G (q ∷ [])) here;
        gained_is = sums_two G gained (label, first) (own, second) a b c;
      }

  -- a label is free between it and the next, where none is given, and one that is given is
  pub free_here : (at : ℕ) (given : Option ℕ) (bound most : ℕ) → most + 1 ≡ unwrap_or (first_label (all_pairs one_pair (drop (k + 1) ps))) bound → IsFree (Split at given) bound ps label → IfNone given (label < most)
  free_here at None bound most e room = omega (arith, e, room, next_is ps (k + 1) label bound up_to_here back_gt)
  free_here at (Some own) bound most e between = tt

  pub between_here : (at : ℕ) (given : Option ℕ) (bound most : ℕ) → most + 1 ≡ unwrap_or (first_label (all_pairs one_pair (drop (k + 1) ps))) bound → IsFree (Split at given) bound ps label → IfSome given (λ own. (label < own) × (own ≤ most))
  between_here at None bound most e room = tt
  between_here at (Some own) bound most e between = (between.0, omega (arith, e, between.1, next_is ps (k + 1) label bound up_to_here back_gt))

-- what a run was cut into is what the run that is held was cut into
pub parts_are : {R : Type 0} (G : Ghosts R) (x r : R) (at : ℕ) (first second : R) → x ≡ r → G.chars first ≡ take at (G.chars x) → G.chars second ≡ drop at (G.chars x) → G.fits first second ≡ true → G.joined first second ≡ x → ArePartsOf G r at first second
parts_are G x r at first second same a b c d =
    record { first_chars = a ∙ ap (λ (y : _). take at (G.chars y)) same; second_chars = b ∙ ap (λ (y : _). drop at (G.chars y)) same; fits = c; back = d ∙ same }
