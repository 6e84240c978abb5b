use Rattle.event_file.specs.RunWriting.{ArePut}
use Rattle.stored_histories.proofs.written.put_piece.Given as goal

abbrev pub invariant-loop-next : goal.invariant-loop-next
invariant-loop-next l = ArePut l.graph l.next l.writer
