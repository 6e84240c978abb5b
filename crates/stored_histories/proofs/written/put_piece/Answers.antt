use Rattle.std.proofs.Common.{◌≡◌, ◌∙◌, sym, ap, subst, arith}
use Rattle.ew_model.specs.Ancestors.{ids_of}
use Rattle.event_file.specs.Places.{agent_place}
use Rattle.event_file.specs.RunWriting.{ArePut}
use Rattle.stored_histories.proofs.IdRuns.{follows, of_agent}
use Rattle.stored_histories.proofs.written.put_piece.Goals as goal

pub put_event-requires-clause-named : goal.put_event-requires-clause-named
put_event-requires-clause-named c =
    let x = of_agent (ids_of c.args.graph.now) c.args.first.now c.args.position c.args.end c.args.position c.requires.ids (omega arith) c.requires.from in
    (x.0, x.1, c.requires.agent ∙ ap (agent_place c.args.graph.now) (sym x.2))

pub put_next-requires-clause-named : goal.put_next-requires-clause-named
put_next-requires-clause-named c =
    let x = of_agent (ids_of c.args.graph.now) c.args.first.now c.args.position c.args.end c.loop-next.next c.requires.ids (omega arith) (omega arith) in
    (x.0, x.1, c.requires.agent ∙ ap (agent_place c.args.graph.now) (sym x.2))

pub put_next-requires-clause-follows : goal.put_next-requires-clause-follows
put_next-requires-clause-follows c =
    follows (ids_of c.args.graph.now) c.args.first.now c.args.position c.args.end c.loop-next.next c.requires.ids (omega arith) (omega arith)

pub returns : goal.returns
returns c =
    let all : c.loop-next.next ≡ c.args.end = omega (arith, c.requires.from) in
    subst (λ n. ArePut c.args.graph.now n c.loop-next.writer) all c.loop-next.invariant
