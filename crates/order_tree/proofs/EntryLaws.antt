-- The runs of a leaf, each a part of its own.
use Rattle.std.proofs.Common.{◌≡◌, ℕ, zero, suc, ◌+◌, ◌-◌, ◌<◌, ◌≤◌, Some, false, List, [], ◌∷◌, ◌++◌, length, take, drop, All, Contains, unwrap_or, nat_lt, nat_le, arith, refl, sym, ap, ◌∙◌, subst, slice_index_or, take-append-drop, append-nil}
use Rattle.std.proofs.lemmas.Bool.{le-ltb}
use Rattle.std.proofs.lemmas.List.{take_more}
use Rattle.std.proofs.lemmas.List.Elements.{All-head, filter-append}
use Rattle.order_tree.specs.Pairs.{IsRising, EndsWith, lower, up_to, greater, total, first_label, next_label, counted_after, IsPlace}
use Rattle.order_tree.specs.Parts.{first_or_zero, all_pairs, last_known, one_pair}
use Rattle.order_tree.proofs.PairLaws.{up_to_all, up_to_none, greater_all, greater_none}
use Rattle.order_tree.proofs.PartLists.{entries_are}
use Rattle.order_tree.proofs.KidPlaces.{part_holds, part_place, part_known}
use Rattle.order_tree.proofs.Around.{known_here}

module _ {R : Type 0} (ps : List (ℕ × R)) where
  pub as_parts : IsRising ps → IsRising (all_pairs one_pair ps)
  as_parts h = subst (λ (qs : List (ℕ × R)). IsRising qs) (sym (entries_are ps)) h

  pub held_some : (x : ℕ × R) → Contains ps x → 0 < length ps
  held_some x h = omega (arith, h.1)

  -- the entry at the place of a label that is held
  pub entry_is : (k label : ℕ) (p : ℕ × R) (r : R) → k < length ps → p ≡ slice_index_or ps k p → IsRising ps → All (λ q. q.0 < label) (all_pairs one_pair (take k ps)) → All (λ q. label < q.0) (all_pairs one_pair (drop (k + 1) ps))
      → Contains ps (label, r) → p ≡ (label, r)
  entry_is k label p r lt is rising below above h =
      let here : Contains (one_pair p) (label, r) = part_holds one_pair ps k p lt is (as_parts rising) label r below above (subst (λ (qs : List (ℕ × R)). Contains qs (label, r)) (sym (entries_are ps)) h) in
      one_is p (label, r) here.0 here.1 here.2
    where
      one_is : (x y : ℕ × R) (j : ℕ) → j < 1 → slice_index_or (x ∷ []) j y ≡ y → x ≡ y
      one_is x y zero lt e = e
      one_is x y (suc j) lt e = absurd (omega (arith, lt))

  pub entry_at : (k label : ℕ) (p : ℕ × R) (r : R) → k < length ps → p ≡ slice_index_or ps k p → IsRising ps → All (λ q. q.0 < label) (all_pairs one_pair (take k ps)) → All (λ q. label < q.0) (all_pairs one_pair (drop (k + 1) ps))
      → Contains ps (label, r) → Contains ps (label, p.1)
  entry_at k label p r lt is rising below above h =
      let run : p.1 ≡ r = ap (λ (q : ℕ × R). q.1) (entry_is k label p r lt is rising below above h) in
      subst (λ (x : R). Contains ps (label, x)) (sym run) h

  pub entry_place : (count : R → ℕ) (i k rest : ℕ) (p : ℕ × R) → k < length ps → p ≡ slice_index_or ps k p → IsRising ps → total count (all_pairs one_pair (take k ps)) + rest ≡ i → rest < total count (one_pair p) → IsPlace count ps i p.0 rest
  entry_place count i k rest p lt is rising before inside =
      let none : lower (one_pair p) p.0 ≡ [] = let b : nat_lt p.0 p.0 ≡ false = le-ltb p.0 p.0 (omega arith) in rw b refl in
      let own : IsPlace count (one_pair p) rest p.0 rest = record { run = p.1; held = (0, omega arith, refl); before = ap (λ (qs : List (ℕ × R)). total count qs + rest) none ∙ omega arith; inside = omega (arith, inside) } in
      subst (λ (qs : List (ℕ × R)). IsPlace count qs i p.0 rest) (entries_are ps) (part_place one_pair ps k p lt is (as_parts rising) count i rest p.0 rest before own)

  pub up_to_is : (k label : ℕ) → All (λ p. p.0 ≤ label) (take k ps) → All (λ p. label < p.0) (drop k ps) → up_to ps label ≡ take k ps
  up_to_is k label below above =
      ap (λ (qs : List (ℕ × R)). up_to qs label) (sym (take-append-drop k ps)) ∙ filter-append (λ p. nat_le p.0 label) (take k ps) (drop k ps)
      ∙ ap (λ (qs : List (ℕ × R)). qs ++ up_to (drop k ps) label) (up_to_all label (take k ps) below)
      ∙ ap (λ (qs : List (ℕ × R)). take k ps ++ qs) (up_to_none label (drop k ps) above) ∙ append-nil (take k ps)

  pub greater_is : (k label : ℕ) → All (λ p. p.0 ≤ label) (take k ps) → All (λ p. label < p.0) (drop k ps) → greater ps label ≡ drop k ps
  greater_is k label below above =
      ap (λ (qs : List (ℕ × R)). greater qs label) (sym (take-append-drop k ps)) ∙ filter-append (λ p. nat_lt label p.0) (take k ps) (drop k ps)
      ∙ ap (λ (qs : List (ℕ × R)). qs ++ greater (drop k ps) label) (greater_none label (take k ps) below)
      ∙ greater_all label (drop k ps) above

  pub next_is : (k label bound : ℕ) → All (λ p. p.0 ≤ label) (take k ps) → All (λ p. label < p.0) (drop k ps) → unwrap_or (first_label (all_pairs one_pair (drop k ps))) bound ≡ next_label bound ps label
  next_is k label bound below above = ap (λ (qs : List (ℕ × R)). unwrap_or (first_label qs) bound) (entries_are (drop k ps) ∙ sym (greater_is k label below above))

  pub entry_known : (known : R → ℕ) (k label : ℕ) (p : ℕ × R) → k < length ps → p ≡ slice_index_or ps k p → IsRising ps → last_known known (all_pairs one_pair (take k ps)) ≤ label → label < last_known known (one_pair p)
      → first_label (counted_after known ps label) ≡ Some p.0
  entry_known known k label p lt is rising le inside =
      ap (λ (qs : List (ℕ × R)). first_label (counted_after known qs label)) (sym (entries_are ps)) ∙ part_known one_pair ps k p lt is (as_parts rising) known label p.0 le (known_here known p label inside)

  -- the last of those up to a label
  pub last_is : (many label : ℕ) → many ≤ length ps → 0 < many → All (λ p. p.0 ≤ label) (take many ps) → All (λ p. label < p.0) (drop many ps) → (p : ℕ × R) → p ≡ slice_index_or ps (many - 1) p → EndsWith (up_to ps label) p.0 p.1
  last_is many label within some below above p is =
      let more : many ≡ many - 1 + 1 = omega (arith, some) in (
        take (many - 1) ps,
        up_to_is many label below above ∙ ap (λ (n : ℕ). take n ps) more ∙ take_more ps (many - 1) p (omega (arith, some, within)) ∙ ap (λ (q : ℕ × R). take (many - 1) ps ++ q ∷ []) (sym is),
      )

  pub some_up_to : (many label : ℕ) → 0 < length ps → first_or_zero ps ≤ label → All (λ p. label < p.0) (drop many ps) → 0 < many
  some_up_to zero label some first above = absurd (none ps some first above)
    where
      none : (qs : List (ℕ × R)) → 0 < length qs → first_or_zero qs ≤ label → All (λ p. label < p.0) qs → ⊥
      none [] some first above = omega (arith, some)
      none (q ∷ qs) some first above = let less = All-head (λ p. label < p.0) q qs above in omega (arith, less, first)
  some_up_to (suc many) label some first above = omega arith
