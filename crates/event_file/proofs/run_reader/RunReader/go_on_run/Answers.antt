use Rattle.std.proofs.Common.{◌≡◌, [], subst}
use Rattle.std.specs.Prelude.{IfSome, IfNone}
use Rattle.file_words.specs.FileRuns.{ops_in}
use Rattle.event_file.specs.declared.run_ops.RunOps.{RunOps}
use Rattle.event_file.specs.Rest.{RunsRest, run_rest, runs_rest, GoOnBy}
use Rattle.event_file.specs.Runs.{ops_as}
use Rattle.event_file.proofs.RunRest.{some_rest, rest_done, none_goes_on}
use Rattle.event_file.proofs.run_reader.RunReader.go_on_run.Goals as goal

pub returns-clause-all : goal.returns-clause-all
returns-clause-all c =
    let i = c.self.inside in
    let new = run_rest i.progress c.go_on_run_in.new.opened i.left i.len i.input.left.now in
    subst (λ (r : RunsRest). IfSome c.go_on_run_in.result (λ ops. GoOnBy (ops_in (ops_as ops)) r.rest new)) c.self.view_is
    (some_rest (λ (ops : RunOps). ops_in (ops_as ops)) i.progress i.last_run c.go_on_run_in.new.opened i.left i.len i.input.left.now c.go_on_run_in.result c.go_on_run_in.ensures.all)

pub returns-clause-done : goal.returns-clause-done
returns-clause-done c = rest_done (λ (ops : RunOps). ops_in (ops_as ops)) c.self.inside.last_run c.go_on_run_in.new.opened c.go_on_run_in.result c.go_on_run_in.ensures.all

pub returns-clause-none : goal.returns-clause-none
returns-clause-none c =
    let i = c.self.inside in
    let new = runs_rest i.progress c.go_on_run_in.new.opened i.left i.len i.input.left.now in
    subst (λ (r : RunsRest). IfNone c.go_on_run_in.result ((r.behind ≡ []) × (new ≡ r))) c.self.view_is
    (none_goes_on i.progress i.last_run c.go_on_run_in.new.opened i.left i.len i.input.left.now c.go_on_run_in.result c.go_on_run_in.ensures.none)
