-- Characters that deletions take out of one place.
use Rattle.std.specs.Prelude.{ℕ, ◌+◌, ◌≤◌, List, [], ◌∷◌, ◌++◌, length, take, drop}
use Rattle.ew_model.specs.declared.text_op.TextOp.{TextOp}
use Rattle.ew_model.specs.declared.text_op.TextOp.TheVariants.{Ins, Del, Nothing}

-- a text without so many characters from a place on
abbrev pub without : List ℕ → ℕ → ℕ → List ℕ
without text at many = take at text ++ drop (at + many) text

-- the operations are deletions, and delete as many characters as they are from a place on: each of them one of those that are left
abbrev pub DeletesFrom : ℕ → List TextOp → Type 0
DeletesFrom at [] = Unit {0}
DeletesFrom at (Ins i ch ∷ ops) = ⊥
DeletesFrom at (Del i ∷ ops) = (at ≤ i) × (i ≤ at + length ops) × DeletesFrom at ops
DeletesFrom at (Nothing ∷ ops) = ⊥
