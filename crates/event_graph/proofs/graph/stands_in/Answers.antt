use Rattle.event_graph.proofs.HeadsReduced.{stood_at}
use Rattle.event_graph.proofs.graph.stands_in.Goals as goal

pub returns-in-Ok : goal.returns-in-Ok
returns-in-Ok c = λ _. stood_at c.args.rising.now c.args.position c.in-Ok.field-0 c.in-Ok.ensures.bound c.in-Ok.ensures.ok
