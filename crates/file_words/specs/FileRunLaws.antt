-- What the runs of a history promise.
use Rattle.std.specs.Prelude.{◌≡◌, suc, ◌<◌, ◌≤◌, false, List, [], ◌∷◌, length, flat_map}
use Rattle.ew_model.specs.declared.event.Op.{Op}
use Rattle.ew_model.specs.declared.event.Op.TheVariants.{Ins, Del, Mark}
use Rattle.ew_model.specs.declared.event.Event.{Event}
use Rattle.file_words.specs.FileRuns.{RunOps, FileRun, run_events, continues, file_runs}
use Rattle.file_words.specs.FileRuns.RunOps.{Insertions, Deletions, BackDeletions, OneMark}

-- what a run may do: there is at least one operation, at least two at falling indices, and these don't fall below 0
abbrev pub IsSteady : RunOps → Type 0
IsSteady (Insertions at text) = 0 < length text
IsSteady (Deletions at count) = 0 < count
IsSteady (BackDeletions at count) = (1 < count) × (count ≤ suc at)
IsSteady (OneMark label) = Unit {0}

-- the first operation of a run; which character it inserts makes no difference to a run before it
abbrev pub first_op_of : RunOps → Op
first_op_of (Insertions at text) = Ins at 0
first_op_of (Deletions at count) = Del at
first_op_of (BackDeletions at count) = Del at
first_op_of (OneMark label) = Mark label

abbrev pub first_event : FileRun → Event
first_event r = record { id = r.id; parents = r.parents; op = first_op_of r.ops }

-- the runs behind a run are steady, and the first event of none of them continues the run before it
abbrev pub AreApart : FileRun → List FileRun → Type 0
AreApart r [] = Unit {0}
AreApart r (s ∷ runs) = IsSteady s.ops × (continues r (first_event s) ≡ false) × AreApart s runs

-- the runs are steady, and none goes on from the one before it
abbrev pub AreLongest : List FileRun → Type 0
AreLongest [] = Unit {0}
AreLongest (r ∷ runs) = IsSteady r.ops × AreApart r runs

-- The events of a history's runs, one run behind the other, are the history.
abbrev pub RunsHoldHistories : Type 0
RunsHoldHistories = (history : List Event) → flat_map run_events (file_runs history) ≡ history

-- The runs of a history are as long as they can be, and of such runs only these hold its events.
abbrev pub RunsAreTheLongest : Type 0
RunsAreTheLongest =
    ((history : List Event) → AreLongest (file_runs history))
    × ((runs : List FileRun) → AreLongest runs → file_runs (flat_map run_events runs) ≡ runs)
