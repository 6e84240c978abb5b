use Rattle.character_runs.proofs.FoundCuts.{found_stands}
use Rattle.character_runs.proofs.Parting.{first_begins}
use Rattle.character_runs.proofs.runs.Runs.begin_found.Goals as goal

pub returns-then-found-eq0-clause-first : goal.returns-then-found-eq0-clause-first
returns-then-found-eq0-clause-first g c =
    let ps = c.args.self.now.tree.pairs in
    let found = c.args.found in
    first_begins ps c.args.self.now.labels c.requires.laid c.args.node found.label found.offset
    (found_stands ps found.label found.offset found.run c.args.node c.requires.held c.requires.offset) c.if-found-eq0.true

pub returns-in_err-cut_inside-in-None-clause-begun : goal.returns-in_err-cut_inside-in-None-clause-begun
returns-in_err-cut_inside-in-None-clause-begun g c v first = c.cut_inside.ensures.begun v (c.cut_found.ensures.begun v first)

pub returns-in_ok-cut_inside-in-None-clause-begun : goal.returns-in_ok-cut_inside-in-None-clause-begun
returns-in_ok-cut_inside-in-None-clause-begun g c v first = c.cut_inside.ensures.begun v (c.cut_found.ensures.begun v first)
