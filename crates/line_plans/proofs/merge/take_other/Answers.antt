use Rattle.command_table.specs.Table.{merge_reply}
use Rattle.opened_files.specs.Views.{reply_view}
use Rattle.opened_files.proofs.Shown.{shown_opened, opened_shows, refused_shows}
use Rattle.command_texts.specs.Reasons.{refusal_view}
use Rattle.line_plans.proofs.merge.take_other.Goals as goal

pub returns-in_ok-plan-in-Open-clause-told : goal.returns-in_ok-plan-in-Open-clause-told
returns-in_ok-plan-in-Open-clause-told g c =
    shown_opened (merge_reply c.args.name.now c.args.limits.now c.args.replica.now.held) c.args.other.now c.args.limits.now c.in-Open.other (g.H.Shelf.seen c.args.shelf.now).files c.in_ok-plan-in-Open.plan (rw c.in-Open.is at c.in_ok-why.ensures.told) c.in_ok-plan-in-Open.ensures.told

pub returns-in-Refused-clause-some : goal.returns-in-Refused-clause-some
returns-in-Refused-clause-some g c =
    refused_shows c.args.other.now c.args.limits.now (merge_reply c.args.name.now c.args.limits.now c.args.replica.now.held) (refusal_view c.in-Refused.why) (rw c.in-Refused.is at c.in_ok-why.ensures.some)

pub returns-in_ok-plan-in-Open-clause-some : goal.returns-in_ok-plan-in-Open-clause-some
returns-in_ok-plan-in-Open-clause-some g c =
    opened_shows c.args.other.now c.args.limits.now (merge_reply c.args.name.now c.args.limits.now c.args.replica.now.held) c.in-Open.other (reply_view c.in_ok-plan-in-Open.plan) (rw c.in-Open.is at c.in_ok-why.ensures.some) c.in_ok-plan-in-Open.ensures.told
