-- Runs that were found, cut at a character.
use Rattle.std.proofs.Common.{◌≡◌, ℕ, ◌+◌, List, ◌∷◌, ◌++◌, Contains, sym, ap, ◌∙◌, subst}
use Rattle.std.proofs.lemmas.List.Elements.{Contains-append_right}
use Rattle.ew_model.specs.declared.node.Node.{Node}
use Rattle.walker_record.specs.Stretches.{Stretch, node_on}
use Rattle.character_runs.specs.Laid.{Stands, IsOffset}
use Rattle.character_runs.proofs.Moves.{is_first, is_second}
use Rattle.character_runs.proofs.Places.{on_on}

-- what is found stands there
abbrev pub found_stands : (ps : List (ℕ × Stretch)) (label n : ℕ) (run : Stretch) (v : Node) → Contains ps (label, run) → IsOffset run v n → Stands ps label n v
found_stands ps label n run v held is = record { run = run; held = held; inside = is.0; node = is.1 }

-- two parts of a run stand where they came to
module _ {R : Type 0} (qs front back : List (ℕ × R)) (label own : ℕ) (a b : R) (is : qs ≡ front ++ (label, a) ∷ (own, b) ∷ back) where
  pub held_first : Contains qs (label, a)
  held_first =
      subst (λ (xs : List (ℕ × R)). Contains xs (label, a)) (sym is)
      (Contains-append_right front ((label, a) ∷ (own, b) ∷ back) (label, a) (is_first (label, a) ((own, b) ∷ back)))

  pub held_second : Contains qs (own, b)
  held_second =
      subst (λ (xs : List (ℕ × R)). Contains xs (own, b)) (sym is)
      (Contains-append_right front ((label, a) ∷ (own, b) ∷ back) (own, b) (is_second (own, b) (label, a) back))

-- what comes behind a node of a run
module _ (run : Stretch) (v : Node) (n : ℕ) (here : IsOffset run v n) where
  pub next_is : (next : Node) → next ≡ node_on run.from (n + 1) → node_on v 1 ≡ next
  next_is next is = ap (λ (w : Node). node_on w 1) (sym here.1) ∙ on_on run.from n 1 ∙ sym is
