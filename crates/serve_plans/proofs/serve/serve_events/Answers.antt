use Rattle.serve_plans.proofs.Served.{closed_halted}
use Rattle.serve_plans.proofs.serve.serve_events.Goals as goal

pub returns-in_err-close-clause-told : goal.returns-in_err-close-clause-told
returns-in_err-close-clause-told g c =
    closed_halted c.args.name.now c.args.limits.now c.args.replica.now c.talk.new.replica (g.S.Source.seen c.args.input.now).left (g.S.Source.seen c.talk.new.input).left
    (g.K.Sink.seen c.args.out.now).taken (g.K.Sink.seen c.talk.new.out).taken
    (g.K.Sink.seen c.args.out.now).flushed (g.K.Sink.seen c.talk.new.out).flushed c.in_ok-closing.closing c.from_residual-in_err-close.result
    c.from_residual-in_err-close.ensures.1 c.in_ok-closing.ensures.told
