use Rattle.std.proofs.Common.{◌≡◌, ◌∙◌, ◌+◌, ◌-◌, ◌≤◌, length, take, drop, Some, slice_get, sym, ap, subst, arith}
use Rattle.std.proofs.lemmas.List.{length-drop, take_all}
use Rattle.std.proofs.lemmas.Option.{IfSome_then}
use Rattle.ew_model.specs.declared.id.Id.{Id}
use Rattle.ew_model.specs.Ancestors.{ids_of}
use Rattle.event_runs.specs.RunOps.{ops_of}
use Rattle.event_graph.specs.GoingOn.{chain_behind}
use Rattle.operation_runs.specs.Runs.{run_ops}
use Rattle.replica.proofs.Giving.{chain_long}
use Rattle.replica.proofs.OfferedPlaces.{run_there}
use Rattle.replica.proofs.OfferedRuns.{run_long, run_stands}
use Rattle.replica.proofs.offered.next_ops_at.Goals as goal

pub returns-then-count-gt0-clause-some : goal.returns-then-count-gt0-clause-some
returns-then-count-gt0-clause-some c =
    let count = c.neighbours-count.result in
    let short : count + 1 ≤ length (run_ops c.rest_near-run.result) = omega (arith, c.neighbours-count.ensures.few, c.min-most.ensures, c.min.ensures, c.count.ensures, c.rest_near-run.ensures.some) in
    IfSome_then c.text_ops.result c.text_ops.ensures.changes
    (λ ops told. let long = run_long (run_ops c.rest_near-run.result) count ops short (told ∙ c.part.ensures.ops) in omega (arith, long, c.if-count-gt0.true))

pub returns-then-count-gt0-clause-few : goal.returns-then-count-gt0-clause-few
returns-then-count-gt0-clause-few c =
    let count = c.neighbours-count.result in
    let short : count + 1 ≤ length (run_ops c.rest_near-run.result) = omega (arith, c.neighbours-count.ensures.few, c.min-most.ensures, c.min.ensures, c.count.ensures, c.rest_near-run.ensures.some) in
    IfSome_then c.text_ops.result c.text_ops.ensures.changes
    (λ ops told. let long = run_long (run_ops c.rest_near-run.result) count ops short (told ∙ c.part.ensures.ops) in omega (arith, long, c.neighbours-count.ensures.few, c.min-most.ensures, c.min.ensures))

pub returns-then-count-gt0-clause-there : goal.returns-then-count-gt0-clause-there
returns-then-count-gt0-clause-there c =
    let graph = c.args.graph.now in
    let before = c.in_ok-before.before in
    let changes = run_ops c.rest_near-run.result in
    let count = c.neighbours-count.result in
    let run = c.rest_near-run.ensures in
    let short : count + 1 ≤ length changes = omega (arith, c.neighbours-count.ensures.few, c.min-most.ensures, c.min.ensures, c.count.ensures, c.rest_near-run.ensures.some) in
    let few : count ≤ c.next_ids_near-next.result = omega (arith, c.neighbours-count.ensures.few, c.min-most.ensures, c.min.ensures) in
    let here : slice_get (ids_of graph) before ≡ Some c.args.last.now = subst (λ (x : Id). slice_get (ids_of graph) before ≡ Some x) (c.is.ensures.same.0 c.if-not-is.false) c.id_near.ensures in
    let behind = drop c.args.place c.args.positions.now in
    let all : take (length c.args.positions.now - c.args.place) behind ≡ behind = take_all _ behind (omega (arith, length-drop c.args.place c.args.positions.now)) in
    IfSome_then c.text_ops.result c.text_ops.ensures.changes
    (λ ops told.
    let long = run_long changes count ops short (told ∙ c.part.ensures.ops) in
    run_there graph c.args.positions.now c.args.place (before + 1) count (chain_behind c.args.last.now (ops_of ops)) c.requires.within
    (λ k low. ap (λ ps. slice_get ps k) (sym all) ∙ c.neighbours-count.ensures.there k low) (omega (arith, long, chain_long c.args.last.now (ops_of ops)))
    (run_stands graph c.count-count.ensures.admitted before c.next_ids_near-next.result c.args.last.now changes run.within count ops short few here c.next_ids_near-next.ensures run.chain.links run.changes (told ∙ c.part.ensures.ops)))
