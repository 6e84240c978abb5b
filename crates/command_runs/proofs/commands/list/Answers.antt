use Rattle.std.proofs.Common.{subst}
use Rattle.std.specs.Option.{option_map}
use Rattle.command_table.specs.Table.{blame, past, show_reply}
use Rattle.command_runs.specs.Listings.{Shows}
use Rattle.command_runs.proofs.commands.list.Goals as goal

pub returns-in-Past-clause-listed : goal.returns-in-Past-clause-listed
returns-in-Past-clause-listed g c =
    let held = c.args.replica.held in
    let ids = c.in-Past.version.items in
    rw c.in-Past.is (c.listed.ensures (show_reply (past ids) held) (subst (λ v. Shows (show_reply (past v) held) c.past_text.result) c.deref.ensures.value c.past_text.ensures.shown))

pub returns-in-Blame-clause-listed : goal.returns-in-Blame-clause-listed
returns-in-Blame-clause-listed g c =
    rw c.in-Blame.is
    (c.listed-in-Blame.ensures (show_reply (blame (option_map (λ ids. ids.items) c.in-Blame.version) c.in-Blame.columns) c.args.replica.held) c.blamed.ensures.shown)
