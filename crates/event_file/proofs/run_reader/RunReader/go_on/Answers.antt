use Rattle.std.proofs.Common.{◌≡◌, [], subst}
use Rattle.std.specs.Prelude.{IfSome, IfNone}
use Rattle.event_file.specs.Rest.{RunsRest, run_rest, runs_rest, GoesOnBy}
use Rattle.event_file.proofs.RunRest.{some_goes_on, none_goes_on}
use Rattle.event_file.proofs.run_reader.RunReader.go_on.Goals as goal

pub returns-clause-some : goal.returns-clause-some
returns-clause-some c =
    let i = c.self.inside in
    let new = run_rest i.progress c.go_on_in.new.opened i.left i.len i.input.left.now in
    subst (λ (r : RunsRest). IfSome c.go_on_in.result (λ op. GoesOnBy op r.rest new)) c.self.view_is (some_goes_on i.progress i.last_run c.go_on_in.new.opened i.left i.len i.input.left.now c.go_on_in.result c.go_on_in.ensures.some)

pub returns-clause-none : goal.returns-clause-none
returns-clause-none c =
    let i = c.self.inside in
    let new = runs_rest i.progress c.go_on_in.new.opened i.left i.len i.input.left.now in
    subst (λ (r : RunsRest). IfNone c.go_on_in.result ((r.behind ≡ []) × (new ≡ r))) c.self.view_is (none_goes_on i.progress i.last_run c.go_on_in.new.opened i.left i.len i.input.left.now c.go_on_in.result c.go_on_in.ensures.none)
