-- What is known of the objects of a run, at one moment.
use Rattle.std.specs.Prelude.{ℕ, List}
use Rattle.ew_outside.specs.Outputs.{Tells}
use Rattle.ew_outside.specs.Seen.{ShelfSeen, SourceSeen, SinkSeen}
use Rattle.event_journal.specs.Disk.{DiskSeen}
use Rattle.command_table.specs.Text.{shelf_failed, disk_failed, source_failed, sink_failed}

-- what is known of the five objects at one moment
pub record Seen : Type 0 where
  pub shelf : ShelfSeen
  pub disk : DiskSeen
  pub input : SourceSeen
  pub out : SinkSeen
  pub err : SinkSeen

-- the five, put together
abbrev pub seen : ShelfSeen → DiskSeen → SourceSeen → SinkSeen → SinkSeen → Seen
seen shelf disk input out err = record { shelf = shelf; disk = disk; input = input; out = out; err = err }

-- the objects whose faults end a run
pub data Object : Type 0 where
  shelf : Object
  disk : Object
  source : Object
  sink : Object

-- how many faults an object had
abbrev pub faults_of : Object → Seen → ℕ
faults_of shelf s = s.shelf.faults
faults_of disk s = s.disk.faults
faults_of source s = s.input.faults
faults_of sink s = s.out.faults

-- what is told where an object failed
abbrev pub failed_text : Object → List ℕ
failed_text shelf = shelf_failed
failed_text disk = disk_failed
failed_text source = source_failed
failed_text sink = sink_failed

-- the error output got the text; where it failed, perhaps a front of it alone
abbrev pub TellsErr : Seen → Seen → List ℕ → Type 0
TellsErr old new text = Tells old.err.taken new.err.taken old.err.faults new.err.faults text
