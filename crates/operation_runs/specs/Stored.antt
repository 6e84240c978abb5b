-- What is kept of runs. (No public contract cites this.)
use Rattle.std.specs.Prelude.{◌≡◌, ℕ, ◌+◌, ◌<◌, ◌≤◌, ◌^◌, List, [], ◌∷◌, ◌++◌, length, take, drop}
use Rattle.ew_model.specs.declared.text_op.TextOp.{TextOp}
use Rattle.ew_model.specs.declared.text_op.TextOp.TheVariants.{Ins, Del, Nothing}
use Rattle.operation_runs.specs.declared.run.OperationRun.{OperationRun}
use Rattle.operation_runs.specs.declared.run.OperationRun.TheVariants as run
use Rattle.operation_runs.specs.declared.stored.StoredRun.{StoredRun}
use Rattle.operation_runs.specs.declared.stored.RunKind.{RunKind}
use Rattle.operation_runs.specs.declared.stored.RunKind.TheVariants.{Insertions, Deletions, BackDeletions, Nothings}
use Rattle.operation_runs.specs.Runs.{insertions, deletions, back_deletions, nothings}

-- so many operations of a kind, the first at an index, where insertions have these characters
abbrev pub ops_by : RunKind → ℕ → ℕ → List ℕ → List TextOp
ops_by Insertions at count chars = insertions at chars
ops_by Deletions at count chars = deletions at count
ops_by BackDeletions at count chars = back_deletions at count
ops_by Nothings at count chars = nothings count

-- how many characters so many operations of a kind insert
abbrev pub chars_by : RunKind → ℕ → ℕ
chars_by Insertions count = count
chars_by Deletions count = 0
chars_by BackDeletions count = 0
chars_by Nothings count = 0

-- the indices of so many operations of a kind are numbers of 32 bits, and none falls below 0
abbrev pub FitBy : RunKind → ℕ → ℕ → Type 0
FitBy Insertions at count = at + count ≤ 2 ^ 32
FitBy Deletions at count = Unit {0}
FitBy BackDeletions at count = count ≤ at + 1
FitBy Nothings at count = Unit {0}

-- the operations of a run, where its insertions have these characters
abbrev pub stored_ops : StoredRun → List ℕ → List TextOp
stored_ops r chars = ops_by r.kind r.at r.count chars

-- how many characters a run inserts
abbrev pub stored_chars : StoredRun → ℕ
stored_chars r = chars_by r.kind r.count

-- a run has operations, and its numbers are of 32 bits
pub record IsStored (r : StoredRun) : Type 0 where
  pub some : 0 < r.count
  pub few : r.count < 2 ^ 32
  pub fit : FitBy r.kind r.at r.count

-- the operations of runs, where all insertions have these characters
abbrev pub ops_in : List StoredRun → List ℕ → List TextOp
ops_in [] chars = []
ops_in (r ∷ runs) chars = stored_ops r (take (stored_chars r) chars) ++ ops_in runs (drop (stored_chars r) chars)

-- each run has operations and numbers that fit, and all insert just so many characters as these
abbrev pub AreStored : List StoredRun → List ℕ → Type 0
AreStored [] chars = chars ≡ []
AreStored (r ∷ runs) chars = IsStored r × (stored_chars r ≤ length chars) × AreStored runs (drop (stored_chars r) chars)

-- the operations of the second run go on from those of the first, as one run of a kind
pub record GoesOn (first second : StoredRun) (kind : RunKind) : Type 0 where
  pub ops : (xs ys : List ℕ) → length xs ≡ stored_chars first → ops_by kind first.at (first.count + second.count) (xs ++ ys) ≡ stored_ops first xs ++ stored_ops second ys
  pub chars : chars_by kind (first.count + second.count) ≡ stored_chars first + stored_chars second
  pub fit : FitBy kind first.at (first.count + second.count)

-- one run has the operations of two
pub record IsBoth (first second both : StoredRun) : Type 0 where
  pub ops : (xs ys : List ℕ) → length xs ≡ stored_chars first → stored_ops both (xs ++ ys) ≡ stored_ops first xs ++ stored_ops second ys
  pub chars : stored_chars both ≡ stored_chars first + stored_chars second
  pub stored : IsStored both

-- the operations are deletions, each at the index before
pub record GoesBack (r : StoredRun) : Type 0 where
  pub ops : (chars : List ℕ) → stored_ops r chars ≡ back_deletions r.at r.count
  pub chars : stored_chars r ≡ 0
  pub fit : r.count ≤ r.at + 1

-- the runs have the operations of one more behind their own, which inserts these characters
pub record AreGrown (runs : List StoredRun) (chars : List ℕ) (one : StoredRun) (more : List ℕ) (new : List StoredRun) : Type 0 where
  pub ops : ops_in new (chars ++ more) ≡ ops_in runs chars ++ stored_ops one more
  pub stored : AreStored new (chars ++ more)

-- the characters that an operation inserts
abbrev pub op_chars : TextOp → List ℕ
op_chars (Ins at ch) = ch ∷ []
op_chars (Del at) = []
op_chars Nothing = []

-- the characters that a run inserts
abbrev pub run_chars : OperationRun → List ℕ
run_chars (run.Insertions at chars) = chars.now
run_chars (run.Deletions at count) = []
run_chars (run.BackDeletions at count) = []
run_chars (run.Nothings count) = []

-- what is kept of these operations, which insert these characters
pub record IsKeptOf (ops : List TextOp) (chars : List ℕ) (r : StoredRun) : Type 0 where
  pub ops_are : stored_ops r chars ≡ ops
  pub chars_are : length chars ≡ stored_chars r
  pub stored : IsStored r
