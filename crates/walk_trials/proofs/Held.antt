-- Which labels are those of runs.
use Rattle.std.proofs.Common.{◌≡◌, ℕ, ◌+◌, ◌<◌, ◌≤◌, ◌^◌, Bool, true, false, not, IsTrue, List, [], ◌∷◌, Contains, nat_lt, arith, refl, subst}
use Rattle.std.proofs.lemmas.List.Elements.{Contains-append_right}
use Rattle.order_tree.specs.Pairs.{labels, next_label, HasRoom}

far_or_near : (n m : ℕ) (far : Bool) → (n < m → IsTrue far) → IsTrue (not far) → m ≤ n
far_or_near n m true h near = grind arith
far_or_near n m false h near = grind arith

module _ {R : Type 0} where
  held_first : (bound low : ℕ) (p : ℕ × R) (ps : List (ℕ × R)) → nat_lt low p.0 ≡ true → next_label bound (p ∷ ps) low ≤ low + 1 → p.0 ≡ low + 1
  held_first bound low p ps e near =
      let is : next_label bound (p ∷ ps) low ≡ p.0 = rw e refl in
      grind (arith, is, near, e)

  next_is_held : (bound low : ℕ) (ps : List (ℕ × R)) → low + 1 < bound → next_label bound ps low ≤ low + 1 → Contains (labels ps) (low + 1)
  next_is_held bound low [] within near = absurd (omega (arith, within, near))
  next_is_held bound low (p ∷ ps) within near = by_test (nat_lt low p.0) refl (next_is_held bound low ps within)
    where
      by_test : (t : Bool) → nat_lt low p.0 ≡ t → (next_label bound ps low ≤ low + 1 → Contains (labels ps) (low + 1)) → Contains (labels (p ∷ ps)) (low + 1)
      by_test true e rest = (0, omega arith, held_first bound low p ps e near)
      by_test false e rest =
          let is : next_label bound (p ∷ ps) low ≡ next_label bound ps low = rw e refl in
          Contains-append_right (p.0 ∷ []) (labels ps) (low + 1) (rest (omega (arith, is, near)))

  -- where no label is free between the one below and the next, the label is that of a run
  pub held_at : (ps : List (ℕ × R)) (low label : ℕ) (room : Bool) → low + 1 ≡ label → label < 2 ^ 64 → (HasRoom ps low → IsTrue room) → IsTrue (not room) → Contains (labels ps) label
  held_at ps low label room above small told none =
      subst (λ (n : ℕ). Contains (labels ps) n) above (next_is_held (2 ^ 64) low ps (omega (arith, above, small)) (far_or_near (low + 1) (next_label (2 ^ 64) ps low) room told none))
