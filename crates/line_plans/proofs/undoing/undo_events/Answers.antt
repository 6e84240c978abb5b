use Rattle.std.proofs.Common.{ap, ◌∙◌}
use Rattle.command_table.specs.Table.{undo_reply}
use Rattle.opened_files.specs.Views.{reply_view}
use Rattle.opened_files.proofs.Shown.{shown_opened, opened_shows, refused_shows}
use Rattle.command_texts.specs.Reasons.{refusal_view}
use Rattle.line_plans.specs.Undos.{first_id}
use Rattle.line_plans.proofs.undoing.undo_events.Goals as goal

pub returns-in_ok-plan-in-Open-clause-told : goal.returns-in_ok-plan-in-Open-clause-told
returns-in_ok-plan-in-Open-clause-told g c =
    let u = c.args.undone.now in
    let reply = undo_reply c.args.name.now c.args.agent (first_id u) u.count c.args.limits.now in
    shown_opened reply c.args.name.now c.args.limits.now c.in-Open.replica.held (g.H.Shelf.seen c.args.shelf.now).files c.in_ok-plan-in-Open.plan (rw c.in-Open.is at c.in_ok-why.ensures.told)
    (c.in_ok-plan-in-Open.ensures.told ∙ ap (λ l. undo_reply c.args.name.now c.args.agent (first_id u) u.count l c.in-Open.replica.held) (rw c.in-Open.is at c.in_ok-why.ensures.fresh).0)

pub returns-in-Refused-clause-some : goal.returns-in-Refused-clause-some
returns-in-Refused-clause-some g c =
    let u = c.args.undone.now in
    refused_shows c.args.name.now c.args.limits.now (undo_reply c.args.name.now c.args.agent (first_id u) u.count c.args.limits.now) (refusal_view c.in-Refused.why) (rw c.in-Refused.is at c.in_ok-why.ensures.some)

pub returns-in_ok-plan-in-Open-clause-some : goal.returns-in_ok-plan-in-Open-clause-some
returns-in_ok-plan-in-Open-clause-some g c =
    let u = c.args.undone.now in
    opened_shows c.args.name.now c.args.limits.now (undo_reply c.args.name.now c.args.agent (first_id u) u.count c.args.limits.now) c.in-Open.replica.held (reply_view c.in_ok-plan-in-Open.plan) (rw c.in-Open.is at c.in_ok-why.ensures.some)
    (c.in_ok-plan-in-Open.ensures.told ∙ ap (λ l. undo_reply c.args.name.now c.args.agent (first_id u) u.count l c.in-Open.replica.held) (rw c.in-Open.is at c.in_ok-why.ensures.fresh).0)
