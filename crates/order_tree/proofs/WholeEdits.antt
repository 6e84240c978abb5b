-- What an edit of a whole tree leaves.
use Rattle.std.proofs.Common.{◌≡◌, ℕ, ◌+◌, ◌*◌, ◌<◌, ◌≤◌, ◌^◌, Bool, true, false, List, [], ◌∷◌, ◌++◌, Option, Some, None, length, unwrap_or, All, Contains, nat_lt, if◌then◌else◌, arith, refl, sym, ap, ◌∙◌, subst, append-nil, length-append}
use Rattle.std.proofs.lemmas.List.Elements.{All-nil, All-cons, All-head, All-tail, All-append, Contains-append_right}
use Rattle.std.proofs.Math.Nat.{pow-le-pow_right}
use Rattle.std.proofs.lemmas.Nat.{pow_pos}
use Rattle.std.specs.Prelude.{is_some}
use Rattle.ew_model.specs.declared.run.Run.{Ghosts}
use Rattle.order_tree.specs.declared.summary.Sums.{Sums}
use Rattle.order_tree.specs.declared.edit.Edit.{Edit}
use Rattle.order_tree.specs.declared.edit.Edit.TheVariants.{Insert, Split}
use Rattle.order_tree.specs.Pairs.{Tree, labels, IsRising, lower, greater, first_label, next_label, total, SumsFit, IsCut}
use Rattle.order_tree.specs.Parts.{sums_of}
use Rattle.order_tree.specs.Edits.{Replaces, IsEdited, StaysFit}
use Rattle.order_tree.specs.Whole.{tree_of, IsWhole, IsTreeEdit}
use Rattle.order_tree.proofs.PairLaws.{All_right, front_below, lower_none, greater_none, total-cons, total-one}
use Rattle.order_tree.proofs.Around.{greater_around, lower_around}
use Rattle.order_tree.proofs.InnerEdits.{replaced_total, edited_fits}
use Rattle.order_tree.proofs.TreeEdits.{rising_after}

pow_small : (d n : ℕ) → 2 ^ d ≤ 2 * n → n < 2 ^ 32 → (34 ≤ d → 2 ^ 34 ≤ 2 ^ d) → d + 1 < 2 ^ 32
pow_small d n enough few big = grind arith

module _ {R : Type 0} where
  -- what stands before the label of a run has lower labels
  before_run : (label : ℕ) (r : R) (front back : List (ℕ × R)) → IsRising (front ++ ((label, r) ∷ back)) → All (λ p. p.0 < label) front
  before_run label r front back rising = front_below 0 label front ((label, r) ∷ back) rising (omega arith) (omega arith)

  -- CUT
  cut_total : (G : Ghosts R) (count : R → ℕ) (label own : ℕ) (r first second : R) (old new was put : List (ℕ × R)) → Replaces label old new was put → was ≡ (label, r) ∷ [] → put ≡ (label, first) ∷ (own, second) ∷ [] → count r ≡ count first + count second → total count new ≡ total count old
  cut_total G count label own r first second old new was put h gone here same =
      omega (arith, replaced_total G count label old new was put h, ap (total count) gone, ap (total count) here, total-one count (label, r), total-cons count (label, first) ((own, second) ∷ []), total-one count (own, second), same)

  pub split_fits : (G : Ghosts R) (at : ℕ) (given : Option ℕ) (label : ℕ) (old : List (ℕ × R)) → ((x y : R) → G.fits x y ≡ true → G.known (G.joined x y) ≡ G.known x + G.known y)
      → ((x y : R) → G.fits x y ≡ true → G.prepared (G.joined x y) ≡ G.prepared x + G.prepared y) → ((x y : R) → G.fits x y ≡ true → G.effect (G.joined x y) ≡ G.effect x + G.effect y) → SumsFit G old → StaysFit G (Split at given) label old
  split_fits G at given label old joined_known joined_prepared joined_effect fit = λ own was put new rep puts.
      let r = puts.0 in
      let first = puts.1 in
      let second = puts.2 in
      let parts = puts.5 in
      record {
        known = omega (arith, fit.known, cut_total G G.known label own r first second old new was put rep puts.3 puts.4 (sym (ap G.known parts.back) ∙ joined_known first second parts.fits));
        prepared = omega (arith, fit.prepared, cut_total G G.prepared label own r first second old new was put rep puts.3 puts.4 (sym (ap G.prepared parts.back) ∙ joined_prepared first second parts.fits));
        effect = omega (arith, fit.effect, cut_total G G.effect label own r first second old new was put rep puts.3 puts.4 (sym (ap G.effect parts.back) ∙ joined_effect first second parts.fits));
      }

  pub cut_after : (G : Ghosts R) (at : ℕ) (given : Option ℕ) (bound label : ℕ) (old new : List (ℕ × R)) (own : ℕ) (lost gained : Sums) → IsRising old → IsEdited G (Split at given) bound label old new own lost gained → IsCut G old new label at own
  cut_after G at given bound label old new own lost gained rising h =
      let front = h.replaces.front in
      let back = h.replaces.back in
      let r = h.puts.0 in
      let first = h.puts.1 in
      let second = h.puts.2 in
      let old_is : old ≡ front ++ (((label, r) ∷ []) ++ back) = h.replaces.old_is ∙ ap (λ (xs : List (ℕ × R)). front ++ (xs ++ back)) h.puts.3 in
      let new_is : new ≡ front ++ ((label, first) ∷ (own, second) ∷ back) = h.replaces.new_is ∙ ap (λ (xs : List (ℕ × R)). front ++ (xs ++ back)) h.puts.4 in
      let below = before_run label r front back (subst (λ (ps : List (ℕ × R)). IsRising ps) old_is rising) in
      let not_less : All (λ (p : ℕ × R). label ≤ p.0) ((label, r) ∷ []) = All-cons (λ p. label ≤ p.0) (label, r) [] (omega arith) (All-nil (λ p. label ≤ p.0)) in
      let not_more : All (λ (p : ℕ × R). p.0 ≤ label) ((label, r) ∷ []) = All-cons (λ p. p.0 ≤ label) (label, r) [] (omega arith) (All-nil (λ p. p.0 ≤ label)) in
      let f : lower old label ≡ front = ap (λ (ps : List (ℕ × R)). lower ps label) old_is ∙ lower_around front ((label, r) ∷ []) back label below h.replaces.above ∙ ap (λ (xs : List (ℕ × R)). front ++ xs) (lower_none label ((label, r) ∷ []) not_less) ∙ append-nil front in
      let b : greater old label ≡ back = ap (λ (ps : List (ℕ × R)). greater ps label) old_is ∙ greater_around front ((label, r) ∷ []) back label h.replaces.below h.replaces.above ∙ ap (λ (xs : List (ℕ × R)). xs ++ back) (greater_none label ((label, r) ∷ []) not_more) in
      record {
        run = r;
        first = first;
        second = second;
        held = subst (λ (ps : List (ℕ × R)). Contains ps (label, r)) (sym old_is) (Contains-append_right front ((label, r) ∷ back) (label, r) (0, omega arith, refl));
        parts = h.puts.5;
        pairs = new_is ∙ sym (ap (λ (xs : List (ℕ × R)). xs ++ ((label, first) ∷ (own, second) ∷ greater old label)) f ∙ ap (λ (xs : List (ℕ × R)). front ++ ((label, first) ∷ (own, second) ∷ xs)) b);
      }

  -- THE WHOLE
  replaced_length : (label : ℕ) (old new was put : List (ℕ × R)) → Replaces label old new was put → length old + length put ≡ length new + length was
  replaced_length label old new was put h =
      omega (arith, ap length h.old_is, ap length h.new_is, length-append h.front (was ++ h.back), length-append was h.back, length-append h.front (put ++ h.back), length-append put h.back)

  length_after : (G : Ghosts R) (edit : Edit R) (bound label : ℕ) (old new : List (ℕ × R)) (own : ℕ) (lost gained : Sums) → IsEdited G edit bound label old new own lost gained → length new ≡ length old + 1
  length_after G (Insert run) bound label old new own lost gained h = omega (arith, replaced_length label old new h.was h.is h.replaces, ap length h.puts.0, ap length h.puts.1)
  length_after G (Split at given) bound label old new own lost gained h = omega (arith, replaced_length label old new h.was h.is h.replaces, ap length h.puts.3, ap length h.puts.4)

  pub All_front : (P : ℕ × R → Type 0) (xs ys : List (ℕ × R)) → All P (xs ++ ys) → All P xs
  All_front P [] ys h = All-nil P
  All_front P (x ∷ xs) ys h = All-cons P x xs (All-head P x (xs ++ ys) h) (All_front P xs ys (All-tail P x (xs ++ ys) h))

  replaced_all : (P : ℕ × R → Type 0) (label : ℕ) (old new was put : List (ℕ × R)) → Replaces label old new was put → All P old → All P put → All P new
  replaced_all P label old new was put h all more =
      let there = subst (λ (ps : List (ℕ × R)). All P ps) h.old_is all in
      let back = All_right P was h.back (All_right P h.front (was ++ h.back) there) in
      subst (λ (ps : List (ℕ × R)). All P ps) (sym h.new_is) (All-append P h.front (put ++ h.back) (All_front P h.front (was ++ h.back) there) (All-append P put h.back more back))

  next_within : (bound label : ℕ) (ps : List (ℕ × R)) → All (λ p. p.0 < bound) ps → next_label bound ps label ≤ bound
  next_within bound label [] h = omega arith
  next_within bound label (p ∷ ps) h = by_test (nat_lt label p.0) (All-head (λ q. q.0 < bound) p ps h) (next_within bound label ps (All-tail (λ q. q.0 < bound) p ps h))
    where
      by_test : (b : Bool) → p.0 < bound → next_label bound ps label ≤ bound → unwrap_or (first_label (if b then p ∷ greater ps label else greater ps label)) bound ≤ bound
      by_test true here rest = omega (arith, here)
      by_test false here rest = rest

  one_below : (bound label : ℕ) (run : R) → label < bound → All (λ (p : ℕ × R). p.0 < bound) ((label, run) ∷ [])
  one_below bound label run lt = All-cons (λ p. p.0 < bound) (label, run) [] lt (All-nil (λ p. p.0 < bound))

  below_after : (G : Ghosts R) (edit : Edit R) (bound label : ℕ) (old new : List (ℕ × R)) (own : ℕ) (lost gained : Sums) → label < bound → All (λ p. p.0 < bound) old → IsEdited G edit bound label old new own lost gained → All (λ p. p.0 < bound) new
  below_after G (Insert run) bound label old new own lost gained less all h =
      let lt : own < bound = omega (arith, h.between.1, next_within bound label old all) in
      let put : All (λ (p : ℕ × R). p.0 < bound) h.is = subst (λ (ps : List (ℕ × R)). All (λ p. p.0 < bound) ps) (sym h.puts.1) (one_below bound own run lt) in
      replaced_all (λ p. p.0 < bound) label old new h.was h.is h.replaces all put
  below_after G (Split at given) bound label old new own lost gained less all h =
      let lt : own < bound = omega (arith, h.between.1, next_within bound label old all) in
      let put : All (λ (p : ℕ × R). p.0 < bound) h.is = subst (λ (ps : List (ℕ × R)). All (λ p. p.0 < bound) ps) (sym h.puts.4) (All-cons (λ p. p.0 < bound) (label, h.puts.1) ((own, h.puts.2) ∷ []) less (one_below bound own h.puts.2 lt)) in
      replaced_all (λ p. p.0 < bound) label old new h.was h.is h.replaces all put

  -- a tree with runs has a root, and no tree is deep
  pub rooted : (root : Option (Tree R)) → 0 < length (tree_of root).pairs → is_some root ≡ true
  rooted None some = absurd (omega (arith, some))
  rooted (Some b) some = refl

  pub some_held : (ps : List (ℕ × R)) (label : ℕ) → Contains (labels ps) label → 0 < length ps
  some_held [] label h = absurd (omega (arith, h.1))
  some_held (p ∷ ps) label h = omega arith

  pub some_run : (ps : List (ℕ × R)) (p : ℕ × R) → Contains ps p → 0 < length ps
  some_run ps p h = omega (arith, h.1)

  not_deep : (ps : List (ℕ × R)) (d : ℕ) → (0 < length ps → 2 ^ d ≤ 2 * length ps) → (ps ≡ [] → d ≡ 0) → length ps < 2 ^ 32 → d + 1 < 2 ^ 32
  not_deep [] d bound flat few = omega (arith, flat refl)
  not_deep (p ∷ ps) d bound flat few =
      pow_small d (length (p ∷ ps)) (bound (omega arith)) few (λ le. pow-le-pow_right (omega arith) le)

  pub shallow : (G : Ghosts R) (runs : ℕ) (t : Tree R) → IsWhole G runs t → runs < 2 ^ 32 → t.depth + 1 < 2 ^ 32
  shallow G runs t h few = not_deep t.pairs t.depth h.bound h.flat (omega (arith, h.counted, few))

  none_flat : (ps : List (ℕ × R)) (d : ℕ) → 2 ^ d ≤ 2 * length ps → ps ≡ [] → d ≡ 0
  none_flat ps d enough none = absurd (omega (arith, enough, ap length none, pow_pos d))

  -- what holds of a tree holds of it after an edit
  pub whole_after : (G : Ghosts R) (edit : Edit R) (label own runs after : ℕ) (old new : Tree R) → label < 2 ^ 64 → StaysFit G edit label old.pairs → IsWhole G runs old → IsTreeEdit G edit label old new own → after ≡ runs + 1 → IsWhole G after new
  whole_after G edit label own runs after old new less fits h e same =
      record {
        counted = omega (arith, same, h.counted, length_after G edit (2 ^ 64) label old.pairs new.pairs own e.lost e.gained e.edited);
        rising = rising_after G edit (2 ^ 64) label old.pairs new.pairs own e.lost e.gained h.rising e.edited;
        below = below_after G edit (2 ^ 64) label old.pairs new.pairs own e.lost e.gained less h.below e.edited;
        fit = edited_fits G edit (2 ^ 64) label old.pairs new.pairs own e.lost e.gained fits e.edited;
        bound = λ some. e.enough;
        flat = λ none. none_flat new.pairs new.depth e.enough none;
      }

  -- the first run
  planted_here : (label own : ℕ) (run : R) → Replaces label [] ((own, run) ∷ []) [] ((own, run) ∷ [])
  planted_here label own run = record { front = []; back = []; old_is = refl; new_is = refl; below = All-nil (λ p. p.0 ≤ label); above = All-nil (λ p. label < p.0) }

  pub planted_fit : (G : Ghosts R) (label own : ℕ) (run : R) → StaysFit G (Insert run) label [] → SumsFit G ((own, run) ∷ [])
  planted_fit G label own run fits = fits own [] ((own, run) ∷ []) ((own, run) ∷ []) (planted_here label own run) (refl, refl)

  pub planted : (G : Ghosts R) (label own : ℕ) (run : R) (old new : Tree R) → old.pairs ≡ [] → new.pairs ≡ (own, run) ∷ [] → new.depth ≡ 1 → label < own → own < 2 ^ 64 → IsTreeEdit G (Insert run) label old new own
  planted G label own run old new none one flat more less =
      let edited : IsEdited G (Insert run) (2 ^ 64) label [] ((own, run) ∷ []) own (sums_of G []) (sums_of G ((own, run) ∷ [])) =
      record { was = []; is = (own, run) ∷ []; replaces = planted_here label own run; puts = (refl, refl); between = (more, less); lost_is = refl; gained_is = refl } in
      let edited_old : IsEdited G (Insert run) (2 ^ 64) label old.pairs ((own, run) ∷ []) own (sums_of G []) (sums_of G ((own, run) ∷ [])) =
      subst (λ (ps : List (ℕ × R)). IsEdited G (Insert run) (2 ^ 64) label ps ((own, run) ∷ []) own (sums_of G []) (sums_of G ((own, run) ∷ []))) (sym none) edited in
      let enough : 2 ^ new.depth ≤ 2 * length new.pairs = rw flat (omega (arith, ap length one)) in
      record {
        lost = sums_of G [];
        gained = sums_of G ((own, run) ∷ []);
        edited = subst (λ (ps : List (ℕ × R)). IsEdited G (Insert run) (2 ^ 64) label old.pairs ps own (sums_of G []) (sums_of G ((own, run) ∷ []))) (sym one) edited_old;
        enough = enough;
      }
