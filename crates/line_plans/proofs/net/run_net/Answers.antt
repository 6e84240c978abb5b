use Rattle.std.proofs.Common.{refl, ◌≡◌, Err, IfOk, ap, subst, arith}
use Rattle.peer_definitions.specs.Runs.{net_run}
use Rattle.peer_definitions.specs.Machine.{empty_network}
use Rattle.command_table.specs.Scripts.{bad_net_line}
use Rattle.command_table.specs.Table.{net_run_reply, refuses}
use Rattle.opened_files.specs.Views.{reply_view}
use Rattle.line_plans.proofs.NetReadings.{bad_script, few_steps, may_script, steps_script}
use Rattle.line_plans.proofs.net.run_net.Goals as goal

pub run_steps-requires : goal.run_steps-requires
run_steps-requires g c = let few = few_steps c.args.input.now c.in-Ok.script.items c.in-Ok.ensures.script in omega (arith, few, c.requires, c.input-most.ensures.range.short_input)

pub returns-in-Err-BadLine-clause-told : goal.returns-in-Err-BadLine-clause-told
returns-in-Err-BadLine-clause-told g c =
    let line = c.in-Err-BadLine.line in
    rw c.in-Err-BadLine.field-0-is (bad_script c.args.limits.now c.args.input.now line (c.in-Err-BadLine.ensures.bad_line line (λ i. Err (c.in-Err-BadLine.field-0-is i))))

pub returns-in-Err-BadLine-clause-some : goal.returns-in-Err-BadLine-clause-some
returns-in-Err-BadLine-clause-some g c =
    let line = c.in-Err-BadLine.line in
    (bad_net_line line, c.in-Err-BadLine.ensures.bad_line line (λ i. Err (c.in-Err-BadLine.field-0-is i)), rw c.in-Err-BadLine.field-0-is refl)

pub returns-clause-told : goal.returns-clause-told
returns-clause-told g c =
    let told = subst (λ l. IfOk c.run_steps.result (λ p. reply_view p ≡ net_run_reply c.args.limits.now (net_run (empty_network c.args.limits.now) l))) c.deref.ensures.value c.run_steps.ensures.told in
    steps_script c.args.limits.now c.args.input.now c.in-Ok.script.items c.run_steps.result c.in-Ok.ensures.script told

pub returns-clause-some : goal.returns-clause-some
returns-clause-some g c =
    let told = subst (λ l. IfOk c.run_steps.result (λ p. reply_view p ≡ net_run_reply c.args.limits.now (net_run (empty_network c.args.limits.now) l))) c.deref.ensures.value c.run_steps.ensures.told in
    may_script c.args.limits.now c.args.input.now c.in-Ok.script.items c.run_steps.result c.in-Ok.ensures.script told
