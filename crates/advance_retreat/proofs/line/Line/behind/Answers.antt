use Rattle.std.proofs.Common.{arith}
use Rattle.advance_retreat.proofs.LineSteps.{left_behind}
use Rattle.advance_retreat.proofs.line.Line.behind.Goals as goal

pub returns : goal.returns
returns c = λ targets first next most left from away parts.
    left_behind c.args.order targets c.args.self first most left next c.in_ok-event.event c.in_ok-character.character c.args.passed from away parts (omega (arith, c.if-self-passed.false)) c.in_ok-event.ensures c.in_ok-character.ensures
