use Rattle.std.proofs.Common.{◌∙◌, sym, append-nil}
use Rattle.event_runs.specs.RunOps.{ops_of}
use Rattle.replica.specs.Appending.{chain_from}
use Rattle.replica.proofs.Chains.{chain_put}
use Rattle.replica.proofs.Fronts.{stays_cut}
use Rattle.replica.proofs.RoundParts.{on_err}
use Rattle.replica.proofs.admit.admit_run.Goals as goal

pub returns-in_err-admit-clause-still_cut : goal.returns-in_err-admit-clause-still_cut
returns-in_err-admit-clause-still_cut c =
    on_err c.from_residual.result (stays_cut c.args.graph.now (chain_from c.args.first.now (ops_of c.args.rest)) 0 c.admit.new.self c.count-held.ensures.admitted c.requires.admitted c.requires.cut
    (c.in_err-admit.ensures.err ∙ sym (append-nil c.args.graph.now)))

pub returns-in_err-go_on_run-clause-still_cut : goal.returns-in_err-go_on_run-clause-still_cut
returns-in_err-go_on_run-clause-still_cut c =
    on_err c.from_residual-in_err-go_on_run.result (stays_cut c.args.graph.now (chain_from c.args.first.now (ops_of c.args.rest)) 1 c.go_on_run.new.self c.count-held.ensures.admitted c.requires.admitted c.requires.cut
    (c.in_err-go_on_run.ensures.err ∙ c.in_ok-admit.ensures.ok))

pub returns-in_ok-go_on_run-clause-all : goal.returns-in_ok-go_on_run-clause-all
returns-in_ok-go_on_run-clause-all c =
    chain_put c.args.graph.now c.args.first.now (ops_of c.args.rest) c.admit.new.self c.go_on_run.new.self c.in_ok-admit.ensures.ok c.in_ok-go_on_run.ensures.ok
