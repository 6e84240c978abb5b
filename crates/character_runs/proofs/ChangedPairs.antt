-- A list of runs with another run at a label.
use Rattle.std.proofs.Common.{◌≡◌, ℕ, ◌<◌, ◌≢◌, true, false, List, [], ◌∷◌, ◌++◌, All, Contains, nat_eq, refl, sym, ap, ◌∙◌, subst, arith, eq-eqb}
use Rattle.std.proofs.lemmas.Bool.{ne_eqb}
use Rattle.std.proofs.lemmas.List.Elements.{All-head, All-tail, All-weaker}
use Rattle.order_tree.specs.Pairs.{IsRising, changed}
use Rattle.character_runs.proofs.Moves.{Moves, moves_around}
use Rattle.character_runs.proofs.PartedRuns.{Parted, parted}

module _ {R : Type 0} (label : ℕ) (run : R) where
  changed_other : (ps : List (ℕ × R)) → All (λ p. p.0 ≢ label) ps → changed ps label run ≡ ps
  changed_other [] h = refl
  changed_other (p ∷ ps) h =
      let here : nat_eq p.0 label ≡ false = ne_eqb p.0 label (All-head (λ q. q.0 ≢ label) p ps h) in
      rw here (ap (λ (xs : List (ℕ × R)). p ∷ xs) (changed_other ps (All-tail (λ q. q.0 ≢ label) p ps h)))

  changed_here : (was : R) (front back : List (ℕ × R)) → All (λ p. p.0 ≢ label) front → All (λ p. p.0 ≢ label) back
      → changed (front ++ (((label, was) ∷ []) ++ back)) label run ≡ front ++ (((label, run) ∷ []) ++ back)
  changed_here was [] back f b =
      let here : nat_eq label label ≡ true = eq-eqb label label refl in
      rw here (ap (λ (xs : List (ℕ × R)). (label, run) ∷ xs) (changed_other back b))
  changed_here was (p ∷ front) back f b =
      let here : nat_eq p.0 label ≡ false = ne_eqb p.0 label (All-head (λ q. q.0 ≢ label) p front f) in
      rw here (ap (λ (xs : List (ℕ × R)). p ∷ xs) (changed_here was front back (All-tail (λ q. q.0 ≢ label) p front f) b))

  pub changed_is : (ps : List (ℕ × R)) (was : R) (at : Parted ps label was) → changed ps label run ≡ at.front ++ (((label, run) ∷ []) ++ at.back)
  changed_is ps was at =
      ap (λ (qs : List (ℕ × R)). changed qs label run) at.is
      ∙ changed_here was at.front at.back (All-weaker (λ p. p.0 < label) (λ p. p.0 ≢ label) (λ p lt e. omega (arith, lt, e)) at.front at.below) (All-weaker (λ p. label < p.0) (λ p. p.0 ≢ label) (λ p lt e. omega (arith, lt, e)) at.back at.above)

  -- the run came in the place of the one that stood there
  pub moves_changed : (ps : List (ℕ × R)) (was : R) → IsRising ps → Contains ps (label, was) → Moves ps (changed ps label run) ((label, was) ∷ []) ((label, run) ∷ [])
  moves_changed ps was rising held =
      let at = parted ps label was rising held in
      subst (λ (xs : List (ℕ × R)). Moves xs (changed ps label run) ((label, was) ∷ []) ((label, run) ∷ [])) (sym at.is)
      (subst (λ (ys : List (ℕ × R)). Moves (at.front ++ (((label, was) ∷ []) ++ at.back)) ys ((label, was) ∷ []) ((label, run) ∷ [])) (sym (changed_is ps was at))
      (moves_around at.front at.back ((label, was) ∷ []) ((label, run) ∷ [])))
