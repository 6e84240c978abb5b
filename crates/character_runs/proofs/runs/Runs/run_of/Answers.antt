use Rattle.character_runs.proofs.KnownRuns.{held_label}
use Rattle.character_runs.proofs.Standings.{in_last, none_before}
use Rattle.character_runs.proofs.runs.Runs.run_of.Goals as goal
use Rattle.ew_model.proofs.Outcomes.{if_none}

pub locate-run-requires : goal.locate-run-requires
locate-run-requires g c =
    let last = c.in_ok-label.ensures.some in
    let run = c.requires.only last.node c.in_ok-label.label last.has in
    held_label c.args.self.now.tree.pairs c.in_ok-label.label run.0 run.1

pub returns-in_err-label-clause-none : goal.returns-in_err-label-clause-none
returns-in_err-label-clause-none g c =
    if_none c.from_residual.result _ (none_before c.args.self.now.tree.pairs c.args.self.now.labels c.requires c.args.node c.in_err-label.ensures.none)

pub returns-in_err-offset-clause-none : goal.returns-in_err-offset-clause-none
returns-in_err-offset-clause-none g c =
    if_none c.from_residual-in_err-offset.result _
    (in_last c.args.self.now.tree.pairs c.args.self.now.labels c.requires c.args.node c.in_ok-label.label c.locate-run.result.now c.facts.ensures.rising c.in_ok-label.ensures.some c.locate-run.ensures.run c.in_err-offset.ensures.none)
