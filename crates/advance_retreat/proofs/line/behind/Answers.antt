use Rattle.std.proofs.Common.{Option, IfSome, subst}
use Rattle.advance_retreat.specs.declared.line.Line.{Line}
use Rattle.advance_retreat.specs.Lines.{IsLineFrom}
use Rattle.advance_retreat.proofs.line.behind.Goals as goal

pub returns-in-Some : goal.returns-in-Some
returns-in-Some c = λ targets first next most left from away parts.
    c.behind.ensures targets first next most left (subst (λ (o : Option Line). IfSome o (IsLineFrom c.args.order targets first most)) c.in-Some.is from) away parts
