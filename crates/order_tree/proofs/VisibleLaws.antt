-- What stands before the run of a character.
use Rattle.std.proofs.Common.{◌≡◌, ℕ, ◌+◌, ◌<◌, ◌≤◌, false, not, List, [], ◌++◌, length, take, drop, Contains, nat_lt, arith, refl, sym, ap, ◌∙◌, subst, slice_index_or}
use Rattle.std.proofs.lemmas.Bool.{le-ltb}
use Rattle.std.proofs.lemmas.List.Filters.{sum_by-filter_both}
use Rattle.order_tree.specs.Pairs.{IsRising, lower, total}
use Rattle.order_tree.specs.Parts.{all_pairs, one_pair}
use Rattle.order_tree.proofs.PairLaws.{total-append}
use Rattle.order_tree.proofs.PartLists.{entries_are, parts_at}
use Rattle.order_tree.proofs.EntryLaws.{as_parts}
use Rattle.order_tree.proofs.Around.{held_below, held_above, lower_around}

pub total-lower-le : {R : Type 0} (count : R → ℕ) (ps : List (ℕ × R)) (label : ℕ) → total count (lower ps label) ≤ total count ps
total-lower-le count ps label = omega (arith, sum_by-filter_both (λ p. nat_lt p.0 label) (λ p. not (nat_lt p.0 label)) (λ p. refl) (λ p. count p.1) ps)

module _ {R T : Type 0} (pairs : T → List (ℕ × R)) (parts : List T) (k : ℕ) (part : T) (lt : k < length parts) (is : part ≡ slice_index_or parts k part) (rising : IsRising (all_pairs pairs parts)) where
  -- what is before a run of a part: all parts before that one, and what is before the run there
  pub part_lower : (count : R → ℕ) (label : ℕ) (r : R) → Contains (pairs part) (label, r) → total count (all_pairs pairs (take k parts)) + total count (lower (pairs part) label) ≡ total count (lower (all_pairs pairs parts) label)
  part_lower count label r h =
      let front = all_pairs pairs (take k parts) in
      let back = all_pairs pairs (drop (k + 1) parts) in
      let whole : all_pairs pairs parts ≡ front ++ (pairs part ++ back) = parts_at pairs parts k part lt is in
      let rises = subst (λ (ps : List (ℕ × R)). IsRising ps) whole rising in
      sym (ap (λ (ps : List (ℕ × R)). total count (lower ps label)) whole
      ∙ ap (total count) (lower_around front (pairs part) back label (held_below front (pairs part) back label r rises h) (held_above front (pairs part) back label r rises h))
      ∙ total-append count front (lower (pairs part) label))

module _ {R : Type 0} (ps : List (ℕ × R)) where
  pub entry_lower : (count : R → ℕ) (k : ℕ) (p : ℕ × R) → k < length ps → p ≡ slice_index_or ps k p → IsRising ps → total count (all_pairs one_pair (take k ps)) ≡ total count (lower ps p.0)
  entry_lower count k p lt is rising =
      let none : lower (one_pair p) p.0 ≡ [] = let b : nat_lt p.0 p.0 ≡ false = le-ltb p.0 p.0 (omega arith) in rw b refl in
      let here = part_lower one_pair ps k p lt is (as_parts ps rising) count p.0 p.1 (0, omega arith, refl) in
      omega (arith, here, ap (total count) none, ap (λ (qs : List (ℕ × R)). total count (lower qs p.0)) (entries_are ps))
