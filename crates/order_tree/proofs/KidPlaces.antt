-- A part of a node: what it has is between what the parts before it and those behind it have.
use Rattle.std.proofs.Common.{◌≡◌, ℕ, zero, suc, ◌+◌, ◌<◌, ◌≤◌, Some, List, [], ◌∷◌, ◌++◌, length, take, drop, All, Contains, unwrap_or, arith, refl, sym, ap, ◌∙◌, subst, slice_index_or, append_assoc}
use Rattle.order_tree.specs.Pairs.{IsRising, EndsWith, up_to, total, first_label, next_label, counted_after, IsPlace}
use Rattle.order_tree.specs.Parts.{first_or_zero, all_pairs, last_known}
use Rattle.order_tree.proofs.PairLaws.{rises_front, rises_rest, total-append}
use Rattle.order_tree.proofs.PartLists.{parts_at, first_of_both}
use Rattle.order_tree.proofs.Around.{held_all, held_mid, up_to_around, next_around, place_around, known_around}

module _ {R T : Type 0} (pairs : T → List (ℕ × R)) (parts : List T) (k : ℕ) (part : T) (lt : k < length parts) (is : part ≡ slice_index_or parts k part) (rising : IsRising (all_pairs pairs parts)) where
  whole : all_pairs pairs parts ≡ all_pairs pairs (take k parts) ++ (pairs part ++ all_pairs pairs (drop (k + 1) parts))
  whole = parts_at pairs parts k part lt is

  rises : IsRising (all_pairs pairs (take k parts) ++ (pairs part ++ all_pairs pairs (drop (k + 1) parts)))
  rises = subst (λ (ps : List (ℕ × R)). IsRising ps) whole rising

  pub part_rises : IsRising (pairs part)
  part_rises = rises_front 0 (pairs part) (all_pairs pairs (drop (k + 1) parts)) (rises_rest 0 (all_pairs pairs (take k parts)) (pairs part ++ all_pairs pairs (drop (k + 1) parts)) rises)

  pub part_holds_back : (x : ℕ × R) → Contains (pairs part) x → Contains (all_pairs pairs parts) x
  part_holds_back x h = subst (λ (ps : List (ℕ × R)). Contains ps x) (sym whole) (held_all (all_pairs pairs (take k parts)) (pairs part) (all_pairs pairs (drop (k + 1) parts)) x.0 x h)

  pub part_holds : (label : ℕ) (r : R) → All (λ p. p.0 < label) (all_pairs pairs (take k parts)) → All (λ p. label < p.0) (all_pairs pairs (drop (k + 1) parts)) → Contains (all_pairs pairs parts) (label, r) → Contains (pairs part) (label, r)
  part_holds label r below above h =
      held_mid (all_pairs pairs (take k parts)) (pairs part) (all_pairs pairs (drop (k + 1) parts)) label r below above (subst (λ (ps : List (ℕ × R)). Contains ps (label, r)) whole h)

  pub part_place : (count : R → ℕ) (i rest label place : ℕ) → total count (all_pairs pairs (take k parts)) + rest ≡ i → IsPlace count (pairs part) rest label place → IsPlace count (all_pairs pairs parts) i label place
  part_place count i rest label place e h =
      subst (λ (ps : List (ℕ × R)). IsPlace count ps i label place) (sym whole)
      (subst (λ (n : ℕ). IsPlace count (all_pairs pairs (take k parts) ++ (pairs part ++ all_pairs pairs (drop (k + 1) parts))) n label place) e
      (place_around (all_pairs pairs (take k parts)) (pairs part) (all_pairs pairs (drop (k + 1) parts)) label count rest place rises h))

  pub part_up_to : (count : R → ℕ) (label : ℕ) → All (λ p. p.0 < label) (all_pairs pairs (take k parts)) → All (λ p. label < p.0) (all_pairs pairs (drop (k + 1) parts))
      → total count (all_pairs pairs (take k parts)) + total count (up_to (pairs part) label) ≡ total count (up_to (all_pairs pairs parts) label)
  part_up_to count label below above =
      sym (ap (λ (ps : List (ℕ × R)). total count (up_to ps label)) whole
      ∙ ap (total count) (up_to_around (all_pairs pairs (take k parts)) (pairs part) (all_pairs pairs (drop (k + 1) parts)) label below above)
      ∙ total-append count (all_pairs pairs (take k parts)) (up_to (pairs part) label))

  pub part_known : (known : R → ℕ) (label next : ℕ) → last_known known (all_pairs pairs (take k parts)) ≤ label → first_label (counted_after known (pairs part) label) ≡ Some next → first_label (counted_after known (all_pairs pairs parts) label) ≡ Some next
  part_known known label next le e =
      ap (λ (ps : List (ℕ × R)). first_label (counted_after known ps label)) whole
      ∙ known_around known (all_pairs pairs (take k parts)) (pairs part) (all_pairs pairs (drop (k + 1) parts)) label next rises le e

  pub part_next : (label bound : ℕ) → All (λ p. p.0 < label) (all_pairs pairs (take k parts)) → All (λ p. label < p.0) (all_pairs pairs (drop (k + 1) parts))
      → next_label (unwrap_or (first_label (all_pairs pairs (drop (k + 1) parts))) bound) (pairs part) label ≡ next_label bound (all_pairs pairs parts) label
  part_next label bound below above =
      sym (ap (λ (ps : List (ℕ × R)). next_label bound ps label) whole ∙ next_around (all_pairs pairs (take k parts)) (pairs part) (all_pairs pairs (drop (k + 1) parts)) label bound below above)

  -- the last run up to a label is in the part about it
  pub part_last : (label own : ℕ) (run : R) → All (λ p. p.0 < label) (all_pairs pairs (take k parts)) → All (λ p. label < p.0) (all_pairs pairs (drop (k + 1) parts)) → EndsWith (up_to (pairs part) label) own run → EndsWith (up_to (all_pairs pairs parts) label) own run
  part_last label own run below above h = (
    all_pairs pairs (take k parts) ++ h.0,
    ap (λ (ps : List (ℕ × R)). up_to ps label) whole
        ∙ up_to_around (all_pairs pairs (take k parts)) (pairs part) (all_pairs pairs (drop (k + 1) parts)) label below above
        ∙ ap (λ (ps : List (ℕ × R)). all_pairs pairs (take k parts) ++ ps) h.1
        ∙ sym (append_assoc (all_pairs pairs (take k parts)) h.0 ((own, run) ∷ [])),
  )

  -- which begins up to the label, as the first part does
  pub part_first : (label : ℕ) → 0 < length (pairs part) → first_or_zero (all_pairs pairs parts) ≤ label → (0 < k → first_or_zero (pairs part) ≤ label) → first_or_zero (pairs part) ≤ label
  part_first label some first later = by k refl
    where
      rest : List (ℕ × R)
      rest = all_pairs pairs (drop (k + 1) parts)

      by : (j : ℕ) → k ≡ j → first_or_zero (pairs part) ≤ label
      by zero e =
          let is : first_or_zero (all_pairs pairs parts) ≡ first_or_zero (pairs part) =
          ap (λ (ps : List (ℕ × R)). first_or_zero ps) whole ∙ ap (λ (n : ℕ). first_or_zero (all_pairs pairs (take n parts) ++ (pairs part ++ rest))) e ∙ first_of_both (pairs part) rest some in
          omega (arith, is, first)
      by (suc j) e = later (omega (arith, e))
