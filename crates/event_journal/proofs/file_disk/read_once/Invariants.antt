use Rattle.std.proofs.Common.{◌≡◌}
use Rattle.event_journal.proofs.file_disk.read_once.Given as goal

abbrev pub invariant-loop : goal.invariant-loop
invariant-loop g l = record { quiet : l.faults ≡ l.fn.faults }
