use Rattle.command_table.specs.Table.{show_reply}
use Rattle.opened_files.specs.Views.{reply_view}
use Rattle.command_reader.specs.Words.{listing_view}
use Rattle.opened_files.proofs.Shown.{shown_opened, opened_shows, refused_shows}
use Rattle.command_texts.specs.Reasons.{refusal_view}
use Rattle.command_runs.proofs.commands.show.Goals as goal

pub returns-in_ok-reply-in-Open-clause-told : goal.returns-in_ok-reply-in-Open-clause-told
returns-in_ok-reply-in-Open-clause-told g c =
    shown_opened (show_reply (listing_view c.args.listing)) c.args.name.now c.args.limits.now c.in-Open.replica.held (g.H.Shelf.seen c.args.shelf.now).files c.in_ok-reply-in-Open.reply (rw c.in-Open.is at c.in_ok-why.ensures.told) c.in_ok-reply-in-Open.ensures.told

pub returns-in-Refused-clause-some : goal.returns-in-Refused-clause-some
returns-in-Refused-clause-some g c =
    refused_shows c.args.name.now c.args.limits.now (show_reply (listing_view c.args.listing)) (refusal_view c.in-Refused.why) (rw c.in-Refused.is at c.in_ok-why.ensures.some)

pub returns-in_ok-reply-in-Open-clause-some : goal.returns-in_ok-reply-in-Open-clause-some
returns-in_ok-reply-in-Open-clause-some g c =
    opened_shows c.args.name.now c.args.limits.now (show_reply (listing_view c.args.listing)) c.in-Open.replica.held (reply_view c.in_ok-reply-in-Open.reply) (rw c.in-Open.is at c.in_ok-why.ensures.some) c.in_ok-reply-in-Open.ensures.told
