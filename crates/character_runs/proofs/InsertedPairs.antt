-- A list of runs with a new one behind a label.
use Rattle.std.proofs.Common.{◌≡◌, ℕ, ◌<◌, Bool, true, false, List, [], ◌∷◌, ◌++◌, nat_le, nat_lt, refl, ap, ◌∙◌, subst, arith}
use Rattle.std.proofs.lemmas.Bool.{leb-true, le-ltb}
use Rattle.order_tree.specs.Pairs.{RisesFrom, IsRising, up_to, greater, inserted}
use Rattle.order_tree.proofs.PairLaws.{rises_above, up_to_none, greater_all}
use Rattle.character_runs.proofs.Moves.{Moves, moves_around}

module _ {R : Type 0} (label : ℕ) where
  pub parts_at : (low : ℕ) (ps : List (ℕ × R)) → RisesFrom low ps → up_to ps label ++ greater ps label ≡ ps
  parts_at low [] h = refl
  parts_at low (p ∷ ps) h = by_label (parts_at p.0 ps h.1) (nat_le p.0 label) refl
    where
      above : nat_le p.0 label ≡ false → label < p.0
      above e = grind arith

      by_label : up_to ps label ++ greater ps label ≡ ps → (b : Bool) → nat_le p.0 label ≡ b → up_to (p ∷ ps) label ++ greater (p ∷ ps) label ≡ p ∷ ps
      by_label rest true e =
          let other : nat_lt label p.0 ≡ false = le-ltb label p.0 (leb-true p.0 label e) in
          rw e (rw other (ap (λ (xs : List (ℕ × R)). p ∷ xs) rest))
      by_label rest false e =
          let all = rises_above label (p ∷ ps) (above e, h.1) in
          ap (λ (xs : List (ℕ × R)). xs ++ greater (p ∷ ps) label) (up_to_none label (p ∷ ps) all) ∙ greater_all label (p ∷ ps) all

  pub moves_inserted : (ps : List (ℕ × R)) (own : ℕ) (run : R) → IsRising ps → Moves ps (inserted ps label own run) [] ((own, run) ∷ [])
  moves_inserted ps own run rising =
      subst (λ (xs : List (ℕ × R)). Moves xs (inserted ps label own run) [] ((own, run) ∷ [])) (parts_at 0 ps rising)
      (moves_around (up_to ps label) (greater ps label) [] ((own, run) ∷ []))
