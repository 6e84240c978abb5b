use Rattle.std.proofs.Common.{length}
use Rattle.script_reader.proofs.IdReading.{GoOn}
use Rattle.script_reader.proofs.version.read_ids.Given as goal

abbrev pub invariant-loop-word : goal.invariant-loop-word
invariant-loop-word l = GoOn l.fn.b l.rest l.ids.items

abbrev pub decreases-loop-word : goal.decreases-loop-word
decreases-loop-word l = length l.rest
