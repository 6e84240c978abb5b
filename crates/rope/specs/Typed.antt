-- Characters that are put in one behind another.
use Rattle.std.specs.Prelude.{◌≡◌, ℕ, ◌+◌, List, [], ◌∷◌, ◌++◌, take, drop}
use Rattle.ew_model.specs.declared.text_op.TextOp.{TextOp}
use Rattle.ew_model.specs.declared.text_op.TextOp.TheVariants.{Ins, Del, Nothing}

-- the characters of the insertions among operations, in order
abbrev pub typed : List TextOp → List ℕ
typed [] = []
typed (Ins at ch ∷ ops) = ch ∷ typed ops
typed (Del at ∷ ops) = typed ops
typed (Nothing ∷ ops) = typed ops

-- a text with more characters at a place
abbrev pub with_more : List ℕ → ℕ → List ℕ → List ℕ
with_more text at more = take at text ++ (more ++ drop at text)

-- the operations are insertions, the first at a place, each further one behind the one before
abbrev pub IsTyped : ℕ → List TextOp → Type 0
IsTyped at [] = Unit {0}
IsTyped at (Ins i ch ∷ ops) = (i ≡ at) × IsTyped (at + 1) ops
IsTyped at (Del i ∷ ops) = ⊥
IsTyped at (Nothing ∷ ops) = ⊥
