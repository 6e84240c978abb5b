use Rattle.std.proofs.Common.{refl, ◌≡◌, Err, IfOk, ap, subst}
use Rattle.script_reader.specs.Meaning.{numbered_edits}
use Rattle.line_plans.specs.Edits.{edits_reply}
use Rattle.opened_files.specs.Views.{reply_view}
use Rattle.command_table.specs.Scripts.{bad_line}
use Rattle.command_table.specs.Table.{refuses}
use Rattle.line_plans.proofs.Readings.{bad_script, edits_script}
use Rattle.line_plans.proofs.Replies.{may_script}
use Rattle.line_plans.proofs.edit.run_script.Goals as goal

pub returns-in-Err-BadLine-clause-told : goal.returns-in-Err-BadLine-clause-told
returns-in-Err-BadLine-clause-told g c =
    let line = c.in-Err-BadLine.line in
    rw c.in-Err-BadLine.field-0-is (bad_script c.args.name.now c.args.agent c.args.script.now c.args.replica.now c.args.replica.now line (c.in-Err-BadLine.ensures.bad_line line (λ i. Err (c.in-Err-BadLine.field-0-is i))))

pub returns-clause-told : goal.returns-clause-told
returns-clause-told g c =
    let told = subst (λ l. IfOk c.run_edits.result (λ p. reply_view p ≡ edits_reply c.args.name.now c.args.agent c.args.replica.now (numbered_edits l))) c.deref.ensures.value c.run_edits.ensures.told in
    edits_script c.args.name.now c.args.agent c.args.script.now c.args.replica.now c.args.replica.now (numbered_edits c.in-Ok.edits.items) c.run_edits.result c.in-Ok.ensures.script told

pub returns-in-Err-BadLine-clause-some : goal.returns-in-Err-BadLine-clause-some
returns-in-Err-BadLine-clause-some g c =
    let line = c.in-Err-BadLine.line in
    (bad_line line, c.in-Err-BadLine.ensures.bad_line line (λ i. Err (c.in-Err-BadLine.field-0-is i)), rw c.in-Err-BadLine.field-0-is refl)

pub returns-clause-some : goal.returns-clause-some
returns-clause-some g c =
    let told = subst (λ l. IfOk c.run_edits.result (λ p. reply_view p ≡ edits_reply c.args.name.now c.args.agent c.args.replica.now (numbered_edits l))) c.deref.ensures.value c.run_edits.ensures.told in
    may_script c.args.name.now c.args.agent c.args.script.now c.args.replica.now (numbered_edits c.in-Ok.edits.items) c.run_edits.result c.in-Ok.ensures.script told
