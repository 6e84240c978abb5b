use Rattle.std.proofs.Common.{Err, sym, subst}
use Rattle.command_table.specs.Table.{caret, show_reply}
use Rattle.command_runs.specs.Listings.{Lists}
use Rattle.command_runs.proofs.Carets.{refused_shows, taken_shows}
use Rattle.command_runs.proofs.commands.located.Goals as goal

pub returns-in-Err-clause-listed : goal.returns-in-Err-clause-listed
returns-in-Err-clause-listed g c =
    subst (λ f. Lists (show_reply (caret c.args.version.now c.args.index) c.args.replica.now.held) (Err f)) (sym c.caret_fault.ensures)
    (refused_shows c.graph-graph.result.now c.args.replica.now.held c.args.version.now c.args.index c.graph-graph.ensures.graph c.in-Err.fault c.in-Err.ensures.unknown c.in-Err.ensures.out_of_range)

pub returns-clause-listed : goal.returns-clause-listed
returns-clause-listed g c =
    taken_shows c.graph-graph.result.now c.args.replica.now.held c.args.version.now c.args.index c.graph-graph.ensures.graph c.in-Ok.caret c.in_ok-at.at c.in_ok-index_text.field-0 c.in-Ok.ensures.unknown c.in-Ok.ensures.caret c.in_ok-at.ensures.index c.in_ok-index_text.ensures
