use Rattle.std.proofs.Common.{subst, None, Some}
use Rattle.blame_definitions.specs.Blame.{blame_text, unknown_in}
use Rattle.command_table.specs.Table.{blame, show_reply}
use Rattle.command_runs.specs.Listings.{Shows}
use Rattle.command_runs.proofs.Listings.{found_shows}
use Rattle.command_runs.proofs.commands.blamed.Goals as goal

pub returns-in-Some-clause-shown : goal.returns-in-Some-clause-shown
returns-in-Some-clause-shown g c =
    let held = c.args.replica.now.held in
    let columns = c.args.columns in
    let ids = c.as_slice.result.now in
    rw c.in-Some.is
    (subst (λ v. Shows (show_reply (blame (Some v) columns) held) c.blame_text.result) c.as_slice.ensures.value
    (found_shows (unknown_in held (Some ids)) (blame_text held (Some ids) columns) c.blame_text.result c.blame_text.ensures.text c.blame_text.ensures.unknown))

pub returns-in-None-clause-shown : goal.returns-in-None-clause-shown
returns-in-None-clause-shown g c =
    let held = c.args.replica.now.held in
    rw c.in-None.is
    (found_shows (unknown_in held None) (blame_text held None c.args.columns) c.blame_text-in-None.result c.blame_text-in-None.ensures.text c.blame_text-in-None.ensures.unknown)
