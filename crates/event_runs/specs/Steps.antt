-- How operations of one step go on with a run: words of private contracts. (No public contract cites this.)
use Rattle.std.specs.Prelude.{◌≡◌, ℕ, suc, ◌+◌, ◌-◌, List, [], length, Some, slice_get}
use Rattle.event_runs.specs.declared.ops.RunOps.{RunOps}
use Rattle.event_runs.specs.declared.ops.RunOps.TheVariants as run
use Rattle.event_runs.specs.declared.runs.Run.{Run}
use Rattle.event_runs.specs.declared.runs.RunKind.{RunKind}
use Rattle.event_runs.specs.declared.runs.RunKind.TheVariants as kind
use Rattle.event_runs.specs.KeptRuns.{IsNext}

-- the kind of runs that the operations go on in
abbrev pub kind_of : RunOps → RunKind
kind_of (run.Insertions at text) = kind.Insertions
kind_of (run.Deletions at count) = kind.Deletions
kind_of (run.BackDeletions at count) = kind.BackDeletions

-- the index of the operation at a place
abbrev pub index_in : RunOps → ℕ → ℕ
index_in (run.Insertions at text) place = at + place
index_in (run.Deletions at count) place = at
index_in (run.BackDeletions at count) place = at - place

-- the characters that are put in
abbrev pub chars_in : RunOps → List ℕ
chars_in (run.Insertions at text) = text.now
chars_in (run.Deletions at count) = []
chars_in (run.BackDeletions at count) = []

-- the last of the runs is of this kind, and the next operation of its kind has this index
pub record LastTakes (runs : List Run) (kind : RunKind) (next : ℕ) : Type 0 where
  pub place : ℕ
  pub run : Run
  pub last : length runs ≡ suc place
  pub there : slice_get runs place ≡ Some run
  pub alike : run.kind ≡ kind
  pub next_is : IsNext kind run.at run.more next

-- the run with so many events more
abbrev pub longer_by : Run → ℕ → Run
longer_by r more = record { start = r.start; more = r.more + more; kind = r.kind; at = r.at; chars_before = r.chars_before }
