use Rattle.command_table.specs.Table.{show_reply}
use Rattle.command_reader.specs.Words.{listing_view}
use Rattle.command_runs.proofs.commands.shown.Goals as goal

pub returns-clause-told : goal.returns-clause-told
returns-clause-told g c = c.reply_of.ensures.told (show_reply (listing_view c.args.listing) c.args.replica.held) c.list-listed.ensures.listed
