-- What an edit below one of the branches of a node leaves.
use Rattle.std.proofs.Common.{◌≡◌, ℕ, zero, suc, ◌+◌, ◌<◌, ◌≤◌, Option, Some, None, List, [], ◌∷◌, ◌++◌, length, take, drop, insert, slice_set, slice_index_or, unwrap_or, All, arith, refl, sym, ap, ◌∙◌, subst, append_assoc}
use Rattle.std.proofs.lemmas.List.Elements.{All-weaker, All-append}
use Rattle.ew_model.specs.declared.run.Run.{Ghosts}
use Rattle.order_tree.specs.declared.summary.Sums.{Sums}
use Rattle.order_tree.specs.declared.edit.Edit.{Edit}
use Rattle.order_tree.specs.declared.edit.Edit.TheVariants.{Insert, Split}
use Rattle.order_tree.specs.Pairs.{Tree, IsRising, total, first_label, next_label, SumsFit, IsDepthOf}
use Rattle.order_tree.specs.Parts.{all_pairs, sums_of, IsMoved}
use Rattle.order_tree.specs.Shape.{AllBelow}
use Rattle.order_tree.specs.Edits.{Replaces, IsPlaced, IsBetween, IsFree, IsEdited, StaysFit}
use Rattle.order_tree.specs.Rights.{pairs_of_right, IsLike, with_right}
use Rattle.order_tree.proofs.PairLaws.{total-append}
use Rattle.order_tree.proofs.KidPlaces.{part_holds, part_next}
use Rattle.order_tree.proofs.PartLists.{parts_at}

module _ {R : Type 0} where
  pub AllBelow-left : (d : ℕ) (xs ys : List (Tree R)) → AllBelow d (xs ++ ys) → AllBelow d xs
  AllBelow-left d [] ys h = tt
  AllBelow-left d (x ∷ xs) ys h = (h.0, h.1, AllBelow-left d xs ys h.2)

  pub AllBelow-right : (d : ℕ) (xs ys : List (Tree R)) → AllBelow d (xs ++ ys) → AllBelow d ys
  AllBelow-right d [] ys h = h
  AllBelow-right d (x ∷ xs) ys h = AllBelow-right d xs ys h.2

  -- the branches with another in the place of one, and perhaps a second behind it
  abbrev pub grown : List (Tree R) → ℕ → Tree R → Option (Tree R) → List (Tree R)
  grown [] k w right = []
  grown (x ∷ xs) zero w None = w ∷ xs
  grown (x ∷ xs) zero w (Some b) = w ∷ b ∷ xs
  grown (x ∷ xs) (suc k) w right = x ∷ grown xs k w right

  grown_none : (ks : List (Tree R)) (k : ℕ) (w : Tree R) → slice_set ks k w ≡ grown ks k w None
  grown_none [] k w = refl
  grown_none (x ∷ xs) zero w = refl
  grown_none (x ∷ xs) (suc k) w = ap (λ (ys : List (Tree R)). x ∷ ys) (grown_none xs k w)

  pub grown_some : (ks : List (Tree R)) (k : ℕ) (w b : Tree R) → k < length ks → insert (slice_set ks k w) (k + 1) b ≡ grown ks k w (Some b)
  grown_some [] k w b lt = absurd (omega (arith, lt))
  grown_some (x ∷ xs) zero w b lt = refl
  grown_some (x ∷ xs) (suc k) w b lt = let more : suc k + 1 ≡ suc (k + 1) = omega arith in rw more (ap (λ (ys : List (Tree R)). x ∷ ys) (grown_some xs k w b (omega arith)))

  pub AllBelow-grown : (d : ℕ) (ks : List (Tree R)) (k : ℕ) (kid w : Tree R) (right : Option (Tree R)) → AllBelow d ks → k < length ks → kid ≡ slice_index_or ks k kid → w.depth ≡ kid.depth → IsDepthOf w.depth (length w.pairs) → IsLike w.depth right
      → AllBelow d (grown ks k w right)
  AllBelow-grown d [] k kid w right h lt is same enough like = absurd (omega (arith, lt))
  AllBelow-grown d (x ∷ xs) zero kid w None h lt is same enough like = (ap (λ (n : ℕ). n + 1) (same ∙ ap (λ (t : Tree R). t.depth) is) ∙ h.0, enough, h.2)
  AllBelow-grown d (x ∷ xs) zero kid w (Some b) h lt is same enough like =
      let own : w.depth + 1 ≡ d = ap (λ (n : ℕ). n + 1) (same ∙ ap (λ (t : Tree R). t.depth) is) ∙ h.0 in
      (own, enough, (omega (arith, like.0, own), like.1, h.2))
  AllBelow-grown d (x ∷ xs) (suc k) kid w None h lt is same enough like = (h.0, h.1, AllBelow-grown d xs k kid w None h.2 (omega (arith, lt)) is same enough like)
  AllBelow-grown d (x ∷ xs) (suc k) kid w (Some b) h lt is same enough like = (h.0, h.1, AllBelow-grown d xs k kid w (Some b) h.2 (omega (arith, lt)) is same enough like)

  pub pairs-grown : (ks : List (Tree R)) (k : ℕ) (w : Tree R) (right : Option (Tree R)) → k < length ks
      → all_pairs (λ t. t.pairs) (grown ks k w right) ≡ all_pairs (λ t. t.pairs) (take k ks) ++ ((w.pairs ++ pairs_of_right right) ++ all_pairs (λ t. t.pairs) (drop (k + 1) ks))
  pairs-grown [] k w right lt = absurd (omega (arith, lt))
  pairs-grown (x ∷ xs) zero w None lt = sym (append_assoc w.pairs [] (all_pairs (λ (t : Tree R). t.pairs) xs))
  pairs-grown (x ∷ xs) zero w (Some b) lt = sym (append_assoc w.pairs b.pairs (all_pairs (λ (t : Tree R). t.pairs) xs))
  pairs-grown (x ∷ xs) (suc k) w right lt =
      let more : suc k + 1 ≡ suc (k + 1) = omega arith in
      rw more (ap (λ (ps : List (ℕ × R)). x.pairs ++ ps) (pairs-grown xs k w right (omega arith)) ∙ sym (append_assoc x.pairs (all_pairs (λ (t : Tree R). t.pairs) (take k xs)) ((w.pairs ++ pairs_of_right right) ++ all_pairs (λ (t : Tree R). t.pairs) (drop (k + 1) xs))))

module _ {R : Type 0} (front mid back : List (ℕ × R)) (label : ℕ) (below : All (λ p. p.0 < label) front) (above : All (λ p. label < p.0) back) where
  -- what replaces pairs in the middle replaces them in the whole
  pub replaced_around : (new was is : List (ℕ × R)) → Replaces label mid new was is → Replaces label (front ++ (mid ++ back)) (front ++ (new ++ back)) was is
  replaced_around new was is h =
      record {
        front = front ++ h.front;
        back = h.back ++ back;
        old_is = around mid was h.old_is;
        new_is = around new is h.new_is;
        below = All-append (λ p. p.0 ≤ label) front h.front (All-weaker (λ p. p.0 < label) (λ p. p.0 ≤ label) (λ p lt. omega (arith, lt)) front below) h.below;
        above = All-append (λ p. label < p.0) h.back back h.above above;
      }
    where
      around : (ps part : List (ℕ × R)) → ps ≡ h.front ++ (part ++ h.back) → front ++ (ps ++ back) ≡ (front ++ h.front) ++ (part ++ (h.back ++ back))
      around ps part e =
          ap (λ (xs : List (ℕ × R)). front ++ (xs ++ back)) e
          ∙ ap (λ (xs : List (ℕ × R)). front ++ xs) (append_assoc h.front (part ++ h.back) back ∙ ap (λ (xs : List (ℕ × R)). h.front ++ xs) (append_assoc part h.back back))
          ∙ sym (append_assoc front h.front (part ++ (h.back ++ back)))

module _ {R : Type 0} (G : Ghosts R) where
  pub total-around : (count : R → ℕ) (front mid back : List (ℕ × R)) → total count (front ++ (mid ++ back)) ≡ total count front + (total count mid + total count back)
  total-around count front mid back = omega (arith, total-append count front (mid ++ back), total-append count mid back)

  -- what an edit loses and gains
  pub replaced_total : (count : R → ℕ) (label : ℕ) (old new was is : List (ℕ × R)) → Replaces label old new was is → total count old + total count is ≡ total count new + total count was
  replaced_total count label old new was is h =
      omega (arith, ap (total count) h.old_is, ap (total count) h.new_is, total-around count h.front was h.back, total-around count h.front is h.back)

  pub replaced_part : (count : R → ℕ) (label : ℕ) (old new was is : List (ℕ × R)) → Replaces label old new was is → total count was ≤ total count old
  replaced_part count label old new was is h = omega (arith, ap (total count) h.old_is, total-around count h.front was h.back)

  -- a part of what fits does
  pub fit_part : (front mid back : List (ℕ × R)) → SumsFit G (front ++ (mid ++ back)) → SumsFit G mid
  fit_part front mid back h =
      record {
        known = omega (arith, h.known, total-around G.known front mid back);
        prepared = omega (arith, h.prepared, total-around G.prepared front mid back);
        effect = omega (arith, h.effect, total-around G.effect front mid back);
      }

  -- the sums that an edit moves, and what stays fit
  pub edited_moved : (edit : Edit R) (bound label : ℕ) (old new : List (ℕ × R)) (own : ℕ) (lost gained s : Sums) → IsEdited G edit bound label old new own lost gained → s ≡ sums_of G old → IsMoved s lost gained (sums_of G new)
  edited_moved edit bound label old new own lost gained s h e =
      let known = ap (λ (t : Sums). t.known) e in
      let prepared = ap (λ (t : Sums). t.prepared) e in
      let effect = ap (λ (t : Sums). t.effect) e in
      let l1 = ap (λ (t : Sums). t.known) h.lost_is in
      let l2 = ap (λ (t : Sums). t.prepared) h.lost_is in
      let l3 = ap (λ (t : Sums). t.effect) h.lost_is in
      let g1 = ap (λ (t : Sums). t.known) h.gained_is in
      let g2 = ap (λ (t : Sums). t.prepared) h.gained_is in
      let g3 = ap (λ (t : Sums). t.effect) h.gained_is in
      record {
        less_known = omega (arith, known, l1, replaced_part G.known label old new h.was h.is h.replaces);
        less_prepared = omega (arith, prepared, l2, replaced_part G.prepared label old new h.was h.is h.replaces);
        less_effect = omega (arith, effect, l3, replaced_part G.effect label old new h.was h.is h.replaces);
        known = omega (arith, known, l1, g1, replaced_total G.known label old new h.was h.is h.replaces);
        prepared = omega (arith, prepared, l2, g2, replaced_total G.prepared label old new h.was h.is h.replaces);
        effect = omega (arith, effect, l3, g3, replaced_total G.effect label old new h.was h.is h.replaces);
      }

  pub edited_fits : (edit : Edit R) (bound label : ℕ) (old new : List (ℕ × R)) (own : ℕ) (lost gained : Sums) → StaysFit G edit label old → IsEdited G edit bound label old new own lost gained → SumsFit G new
  edited_fits edit bound label old new own lost gained fits h = fits own h.was h.is new h.replaces h.puts

module _ {R : Type 0} where
  pub with_right_grown : (ks : List (Tree R)) (k : ℕ) (w : Tree R) (right : Option (Tree R)) → k < length ks → with_right (slice_set ks k w) (k + 1) right ≡ grown ks k w right
  with_right_grown ks k w None lt = grown_none ks k w
  with_right_grown ks k w (Some b) lt = grown_some ks k w b lt

module _ {R : Type 0} (G : Ghosts R) (kids : List (Tree R)) (k label bound most : ℕ) (kid : Tree R) (lt : k < length kids) (is : kid ≡ slice_index_or kids k kid) (rising : IsRising (all_pairs (λ t. t.pairs) kids))
    (below : All (λ p. p.0 < label) (all_pairs (λ t. t.pairs) (take k kids))) (above : All (λ p. label < p.0) (all_pairs (λ t. t.pairs) (drop (k + 1) kids)))
    (free : most ≡ unwrap_or (first_label (all_pairs (λ t. t.pairs) (drop (k + 1) kids))) bound) where
  whole : all_pairs (λ t. t.pairs) kids ≡ all_pairs (λ t. t.pairs) (take k kids) ++ (kid.pairs ++ all_pairs (λ t. t.pairs) (drop (k + 1) kids))
  whole = parts_at (λ t. t.pairs) kids k kid lt is

  next_same : next_label most kid.pairs label ≡ next_label bound (all_pairs (λ t. t.pairs) kids) label
  next_same = ap (λ (n : ℕ). next_label n kid.pairs label) free ∙ part_next (λ t. t.pairs) kids k kid lt is rising label bound below above

  -- what an edit asks of the whole it asks of the branch
  pub placed_down : (edit : Edit R) → IsPlaced G edit label (all_pairs (λ t. t.pairs) kids) → IsPlaced G edit label kid.pairs
  placed_down (Insert run) h = tt
  placed_down (Split at given) h = (h.0, part_holds (λ t. t.pairs) kids k kid lt is rising label h.0 below above h.1, h.2, h.3)

  pub label_down : (edit : Edit R) → IsFree edit bound (all_pairs (λ t. t.pairs) kids) label → IsFree edit most kid.pairs label
  label_down (Insert run) h = subst (λ (n : ℕ). label + 1 < n) (sym next_same) h
  label_down (Split at None) h = subst (λ (n : ℕ). label + 1 < n) (sym next_same) h
  label_down (Split at (Some own)) h = (h.0, subst (λ (n : ℕ). own < n) (sym next_same) h.1)

  between_up : (own : ℕ) → IsBetween most label own kid.pairs → IsBetween bound label own (all_pairs (λ t. t.pairs) kids)
  between_up own h = (h.0, subst (λ (n : ℕ). own < n) next_same h.1)

  replaced_up : (new was put : List (ℕ × R)) → Replaces label kid.pairs new was put → Replaces label (all_pairs (λ t. t.pairs) kids) (all_pairs (λ t. t.pairs) (take k kids) ++ (new ++ all_pairs (λ t. t.pairs) (drop (k + 1) kids))) was put
  replaced_up new was put h =
      subst (λ (ps : List (ℕ × R)). Replaces label ps (all_pairs (λ t. t.pairs) (take k kids) ++ (new ++ all_pairs (λ t. t.pairs) (drop (k + 1) kids))) was put) (sym whole)
      (replaced_around (all_pairs (λ t. t.pairs) (take k kids)) kid.pairs (all_pairs (λ t. t.pairs) (drop (k + 1) kids)) label below above new was put h)

  pub fits_down : (edit : Edit R) → StaysFit G edit label (all_pairs (λ t. t.pairs) kids) → StaysFit G edit label kid.pairs
  fits_down edit h = λ own was put new rep puts.
      fit_part G (all_pairs (λ t. t.pairs) (take k kids)) new (all_pairs (λ t. t.pairs) (drop (k + 1) kids)) (h own was put (all_pairs (λ t. t.pairs) (take k kids) ++ (new ++ all_pairs (λ t. t.pairs) (drop (k + 1) kids))) (replaced_up new was put rep) puts)

  -- and what it does to the branch it does to the whole
  pub edited_up : (edit : Edit R) (w : Tree R) (right : Option (Tree R)) (after : List (Tree R)) (own : ℕ) (lost gained : Sums) → after ≡ with_right (slice_set kids k w) (k + 1) right
      → IsEdited G edit most label kid.pairs (w.pairs ++ pairs_of_right right) own lost gained → IsEdited G edit bound label (all_pairs (λ t. t.pairs) kids) (all_pairs (λ t. t.pairs) after) own lost gained
  edited_up edit w right after own lost gained e h =
      let pairs : all_pairs (λ t. t.pairs) after ≡ all_pairs (λ t. t.pairs) (take k kids) ++ ((w.pairs ++ pairs_of_right right) ++ all_pairs (λ t. t.pairs) (drop (k + 1) kids)) =
      ap (λ (ks : List (Tree R)). all_pairs (λ t. t.pairs) ks) (e ∙ with_right_grown kids k w right lt) ∙ pairs-grown kids k w right lt in
      record {
        was = h.was;
        is = h.is;
        replaces = subst (λ (ps : List (ℕ × R)). Replaces label (all_pairs (λ t. t.pairs) kids) ps h.was h.is) (sym pairs) (replaced_up (w.pairs ++ pairs_of_right right) h.was h.is h.replaces);
        puts = h.puts;
        between = between_up own h.between;
        lost_is = h.lost_is;
        gained_is = h.gained_is;
      }

  pub below_up : (d : ℕ) (w : Tree R) (right : Option (Tree R)) (after : List (Tree R)) → after ≡ with_right (slice_set kids k w) (k + 1) right → AllBelow d kids → w.depth ≡ kid.depth → IsDepthOf w.depth (length w.pairs) → IsLike kid.depth right → AllBelow d after
  below_up d w right after e h same enough like =
      subst (λ (ks : List (Tree R)). AllBelow d ks) (sym (e ∙ with_right_grown kids k w right lt))
      (AllBelow-grown d kids k kid w right h lt is same enough (subst (λ (n : ℕ). IsLike n right) (sym same) like))
