use Rattle.std.proofs.Common.{sym}
use Rattle.critical.proofs.OlderCuts.{first_part}
use Rattle.critical.proofs.spans.first_of.Goals as goal

pub returns-in-Some-clause-first : goal.returns-in-Some-clause-first
returns-in-Some-clause-first c = first_part c.args.spans.now c.args.end c.in-Some.span.now (sym c.in-Some.ensures.value)
