use Rattle.peer_definitions.specs.Making.{made}
use Rattle.command_runs.proofs.MadeReplies.{printed_reply, stopped_reply}
use Rattle.command_runs.proofs.making.make_history.Goals as goal

pub returns-in-Ok-clause-told : goal.returns-in-Ok-clause-told
returns-in-Ok-clause-told g c = printed_reply c.args.limits.now (made c.args.limits.now c.args.seed c.args.count) c.in-Ok.text.items c.in-Ok.ensures.made

pub returns-in-Err-clause-told : goal.returns-in-Err-clause-told
returns-in-Err-clause-told g c = stopped_reply c.args.limits.now (made c.args.limits.now c.args.seed c.args.count) c.in-Err.fault c.refuse.result c.in-Err.ensures.made c.refuse.ensures.told

pub returns-in-Ok-clause-most : goal.returns-in-Ok-clause-most
returns-in-Ok-clause-most g c = c.make.ensures.most

pub returns-in-Err-clause-most : goal.returns-in-Err-clause-most
returns-in-Err-clause-most g c = c.make.ensures.most
