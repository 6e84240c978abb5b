use Rattle.std.proofs.Common.{◌≡◌, ◌+◌, ◌∷◌, ◌∙◌, drop, ap, sym, subst}
use Rattle.std.proofs.lemmas.List.{drop_more}
use Rattle.script_reader.specs.Meaning.{edit_meant, numbered_edits}
use Rattle.replica.specs.Answers.{EditsBy}
use Rattle.command_table.specs.Scripts.{edited_by}
use Rattle.command_table.specs.Table.{line_refusal}
use Rattle.line_plans.proofs.Stops.{stops}
use Rattle.line_plans.proofs.edit.do_edits.Goals as goal

-- the edits before the line are done, and it is refused
pub returns-in-Err-clause-done : goal.returns-in-Err-clause-done
returns-in-Err-clause-done g c =
    let edits = c.args.edits.now in
    let k = c.loop-line.line-index in
    let item = c.loop-line-item.result in
    let now = c.loop-line.replica in
    let left : drop k edits ≡ item ∷ drop (k + 1) edits =
    drop_more edits k item c.loop-line-test.true ∙ ap (λ x. x ∷ drop (k + 1) edits) (sym c.loop-line-item.is) in
    let by = subst (EditsBy c.args.agent (edit_meant item.1) now c.do_edit.new.replica) c.in-Err.is c.do_edit.ensures.done in
    let stop =
    stops c.limits-limits.result c.args.agent now c.do_edit.new.replica item.0 (edit_meant item.1) (numbered_edits (drop (k + 1) edits)) c.in_ok-refuse_line.field-0 c.in-Err.fault by c.in_ok-refuse_line.ensures.told in (
      stop.0,
      stop.1,
      c.loop-line.invariant.0 ∙ ap (λ v. edited_by now.limits c.args.agent now.held (numbered_edits v)) left ∙ stop.2,
      stop.3 ∙ ap (λ x. line_refusal x stop.0 stop.1) c.limits-limits.ensures.limits,
    )
