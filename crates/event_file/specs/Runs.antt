-- The runs of a file as this crate keeps them, in the model's words.
use Rattle.std.specs.Prelude.{ℕ, List, [], ◌∷◌}
use Rattle.std.specs.Int.{w32, from_le_bytes}
use Rattle.file_words.specs.FileRuns as model
use Rattle.event_file.specs.declared.run_ops.RunOps.{RunOps}
use Rattle.event_file.specs.declared.run_ops.RunOps.TheVariants.{Insertions, Deletions, BackDeletions, Mark}
use Rattle.event_file.specs.declared.run_ops.FileRun.{FileRun}

-- numbers of four bytes each, the lowest byte first
abbrev pub numbers_in : List ℕ → List ℕ
numbers_in [] = []
numbers_in (a ∷ []) = []
numbers_in (a ∷ b ∷ []) = []
numbers_in (a ∷ b ∷ c ∷ []) = []
numbers_in (a ∷ b ∷ c ∷ d ∷ left) = from_le_bytes w32 (a ∷ b ∷ c ∷ d ∷ []) ∷ numbers_in left

-- the operations
abbrev pub ops_as : RunOps → model.RunOps
ops_as (Insertions at text) = model.RunOps.Insertions at (numbers_in text.now)
ops_as (Deletions at count) = model.RunOps.Deletions at count
ops_as (BackDeletions at count) = model.RunOps.BackDeletions at count
ops_as (Mark label) = model.RunOps.OneMark label

-- the run
abbrev pub run_as : FileRun → model.FileRun
run_as r = record { id = r.id; parents = r.parents; ops = ops_as r.ops }
