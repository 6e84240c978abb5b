use Rattle.serve_plans.proofs.Answers.{replies_none}
use Rattle.serve_plans.proofs.answering.answer_frame.Goals as goal

pub returns-in_err-bytes-clause-told : goal.returns-in_err-bytes-clause-told
returns-in_err-bytes-clause-told g c = replies_none _ c.answer.new.replica (g.K.Sink.seen c.args.out.now).taken (g.K.Sink.seen c.args.out.now).flushed
    c.from_residual-in_err-bytes.result c.from_residual-in_err-bytes.ensures.0
