-- Operations that go on from one another.
use Rattle.std.specs.Prelude.{ℕ, zero, suc, ◌+◌, ◌-◌, ◌<◌, ◌≤◌, ◌^◌, List, [], ◌∷◌, length}
use Rattle.ew_model.specs.declared.text_op.TextOp.{TextOp}
use Rattle.ew_model.specs.declared.text_op.TextOp.TheVariants.{Ins, Del, Nothing}
use Rattle.operation_runs.specs.declared.run.OperationRun.{OperationRun}
use Rattle.operation_runs.specs.declared.run.OperationRun.TheVariants as run

-- insertions of characters, the first at an index, each further one right behind the one before
abbrev pub insertions : ℕ → List ℕ → List TextOp
insertions at [] = []
insertions at (ch ∷ chars) = Ins at ch ∷ insertions (at + 1) chars

-- so many deletions at one index
abbrev pub deletions : ℕ → ℕ → List TextOp
deletions at zero = []
deletions at (suc n) = Del at ∷ deletions at n

-- so many deletions, the first at an index, each further one at the index before
abbrev pub back_deletions : ℕ → ℕ → List TextOp
back_deletions at zero = []
back_deletions at (suc n) = Del at ∷ back_deletions (at - 1) n

-- so many operations that change nothing
abbrev pub nothings : ℕ → List TextOp
nothings zero = []
nothings (suc n) = Nothing ∷ nothings n

-- the operations of a run, one by one
abbrev pub run_ops : OperationRun → List TextOp
run_ops (run.Insertions at chars) = insertions at chars.now
run_ops (run.Deletions at count) = deletions at count
run_ops (run.BackDeletions at count) = back_deletions at count
run_ops (run.Nothings count) = nothings count

-- there are fewer than 2 ^ 32 operations; each index is a number of 32 bits, and none falls below 0
abbrev pub RunFits : OperationRun → Type 0
RunFits (run.Insertions at chars) = (length chars.now < 2 ^ 32) × (at + length chars.now ≤ 2 ^ 32)
RunFits (run.Deletions at count) = Unit {0}
RunFits (run.BackDeletions at count) = count ≤ at + 1
RunFits (run.Nothings count) = Unit {0}
