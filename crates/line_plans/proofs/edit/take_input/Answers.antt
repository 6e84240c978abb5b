use Rattle.std.proofs.Common.{◌≤◌, ◌∙◌, length, ap, inl, subst}
use Rattle.command_table.specs.Table.{refuses}
use Rattle.command_table.specs.Refusals.{input_too_long}
use Rattle.line_plans.proofs.Replies.{may_edit}
use Rattle.line_plans.proofs.edit.take_input.Goals as goal

pub returns-in-TooLong-clause-some : goal.returns-in-TooLong-clause-some
returns-in-TooLong-clause-some g c = inl (ap (λ most. refuses (input_too_long most)) c.input-most.ensures.value)

pub returns-in_ok-run_script-in-Whole-clause-some : goal.returns-in_ok-run_script-in-Whole-clause-some
returns-in_ok-run_script-in-Whole-clause-some g c =
    may_edit c.args.name.now c.args.agent c.in-Whole.script.items _ c.args.limits.now c.args.replica.now c.in_ok-run_script-in-Whole.field-0 c.requires.limits
    (subst (λ n. length c.in-Whole.script.items ≤ n) c.input-most.ensures.value (rw c.in-Whole.is at c.in_ok-read_input.ensures.short)) c.in_ok-run_script-in-Whole.ensures.fits c.deref.ensures.value c.in_ok-run_script-in-Whole.ensures.some
