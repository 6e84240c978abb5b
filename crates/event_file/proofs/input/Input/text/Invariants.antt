use Rattle.event_file.proofs.Texts.{IsTextSoFar}
use Rattle.event_file.proofs.input.Input.text.Given as goal

abbrev pub invariant-loop : goal.invariant-loop
invariant-loop l = IsTextSoFar l.bytes l.count l.counter l.self.left.now l.initial.self.left.now
