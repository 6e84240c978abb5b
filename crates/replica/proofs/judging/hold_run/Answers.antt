use Rattle.replica.specs.Desks.{desk_as}
use Rattle.event_runs.specs.RunOps.{ops_of}
use Rattle.replica.proofs.GoingOn.{run_desk, run_leads}
use Rattle.replica.proofs.Ways.{begun}
use Rattle.replica.proofs.judging.hold_run.Goals as goal

pub returns-in_ok-go_on_run-clause-leads : goal.returns-in_ok-go_on_run-clause-leads
returns-in_ok-go_on_run-clause-leads c =
    let a = c.args in
    run_leads a.limits.now a.out a.graph.now a.events.now a.desk.now (ops_of c.in-Some.ops) c.in-Some.ensures.next c.in-Some.ensures.some c.count-held.ensures.admitted c.requires.desk c.go_on_run.new.self c.go_on.new.self c.count-count.result c.count-count.ensures c.in_ok-go_on_run.ensures.ok c.go_on.ensures

pub returns-in_ok-go_on_run-clause-desk : goal.returns-in_ok-go_on_run-clause-desk
returns-in_ok-go_on_run-clause-desk c =
    let a = c.args in
    run_desk a.limits.now a.out a.graph.now a.events.now a.desk.now (ops_of c.in-Some.ops) c.in-Some.ensures.next c.in-Some.ensures.some c.count-held.ensures.admitted c.requires.desk c.go_on_run.new.self c.go_on.new.self c.count-count.result c.count-count.ensures c.in_ok-go_on_run.ensures.ok c.go_on.ensures

pub returns-in_default-clause-leads : goal.returns-in_default-clause-leads
returns-in_default-clause-leads c = begun c.args.limits.now c.args.out (desk_as c.args.graph.now c.args.events.now c.args.desk.now) c.args.desk.now.progress
