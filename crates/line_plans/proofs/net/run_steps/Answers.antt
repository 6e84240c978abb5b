use Rattle.std.proofs.Common.{Err, ap, subst, sym}
use Rattle.command_table.specs.Table.{net_run_reply}
use Rattle.net_core.specs.Answers.{RunsTo, told_bytes}
use Rattle.line_plans.proofs.NetReplies.{stopped}
use Rattle.line_plans.proofs.net.run_steps.Goals as goal

pub returns-in-Ok-clause-told : goal.returns-in-Ok-clause-told
returns-in-Ok-clause-told g c = ap (net_run_reply c.args.limits.now) (sym (rw c.in-Ok.is at c.run_script.ensures))

pub returns-in-Err-clause-told : goal.returns-in-Err-clause-told
returns-in-Err-clause-told g c =
    let runs = subst (λ r. RunsTo c.args.limits.now c.args.script.now (told_bytes r)) c.in-Err.is c.run_script.ensures in
    stopped c.args.limits.now c.args.script.now c.in-Err.line c.in-Err.fault c.refuse_step.result runs c.refuse_step.ensures.told
