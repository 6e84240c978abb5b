-- A list of runs in which one is cut.
use Rattle.std.proofs.Common.{◌≡◌, ℕ, ◌<◌, ◌≤◌, List, [], ◌∷◌, ◌++◌, All, Contains, sym, ap, ◌∙◌, subst, arith}
use Rattle.std.proofs.lemmas.List.Elements.{All-nil, All-cons, All-weaker}
use Rattle.order_tree.specs.Pairs.{IsRising, lower, greater}
use Rattle.order_tree.proofs.PairLaws.{greater_none}
use Rattle.order_tree.proofs.Around.{greater_around}
use Rattle.character_runs.proofs.Moves.{Moves, moves_around}
use Rattle.character_runs.proofs.PartedRuns.{Parted, parted, lower_is}

module _ {R : Type 0} (ps : List (ℕ × R)) (label : ℕ) (run : R) where
  -- the back has the greater labels
  pub greater_is : (p : Parted ps label run) → greater ps label ≡ p.back
  greater_is p =
      let one : List (ℕ × R) = (label, run) ∷ [] in
      let none : greater one label ≡ [] = greater_none label one (All-cons (λ x. x.0 ≤ label) (label, run) [] (omega arith) (All-nil (λ x. x.0 ≤ label))) in
      let low : All (λ x. x.0 ≤ label) p.front = All-weaker (λ x. x.0 < label) (λ x. x.0 ≤ label) (λ x lt. omega (arith, lt)) p.front p.below in
      ap (λ (qs : List (ℕ × R)). greater qs label) p.is ∙ greater_around p.front one p.back label low p.above ∙ ap (λ (qs : List (ℕ × R)). qs ++ p.back) none

  pub cut_is : (own : ℕ) (first second : R) (p : Parted ps label run) → lower ps label ++ (label, first) ∷ (own, second) ∷ greater ps label ≡ p.front ++ (((label, first) ∷ (own, second) ∷ []) ++ p.back)
  cut_is own first second p =
      ap (λ (xs : List (ℕ × R)). xs ++ (label, first) ∷ (own, second) ∷ greater ps label) (lower_is ps label run p)
      ∙ ap (λ (xs : List (ℕ × R)). p.front ++ (label, first) ∷ (own, second) ∷ xs) (greater_is p)

  -- the parts came in the place of the run
  pub moves_cut : (qs : List (ℕ × R)) (own : ℕ) (first second : R) → IsRising ps → Contains ps (label, run) → qs ≡ lower ps label ++ (label, first) ∷ (own, second) ∷ greater ps label
      → Moves ps qs ((label, run) ∷ []) ((label, first) ∷ (own, second) ∷ [])
  moves_cut qs own first second rising held is =
      let p = parted ps label run rising held in
      subst (λ (xs : List (ℕ × R)). Moves xs qs ((label, run) ∷ []) ((label, first) ∷ (own, second) ∷ [])) (sym p.is)
      (subst (λ (ys : List (ℕ × R)). Moves (p.front ++ (((label, run) ∷ []) ++ p.back)) ys ((label, run) ∷ []) ((label, first) ∷ (own, second) ∷ [])) (sym (is ∙ cut_is own first second p))
      (moves_around p.front p.back ((label, run) ∷ []) ((label, first) ∷ (own, second) ∷ [])))
