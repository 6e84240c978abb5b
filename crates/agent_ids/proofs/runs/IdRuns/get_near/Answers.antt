use Rattle.std.proofs.Common.{◌≡◌, ◌∙◌, ◌≤◌, ◌+◌, List, length, slice_get, sym, ap, subst, arith}
use Rattle.std.proofs.lemmas.Option.{slice_get_within}
use Rattle.ew_model.specs.declared.id.Id.{Id}
use Rattle.agent_ids.specs.declared.runs.IdRun.{IdRun}
use Rattle.agent_ids.specs.IdRuns.{AreRuns}
use Rattle.agent_ids.proofs.RunLists.{length_in, run_within, read_run, found}
use Rattle.agent_ids.proofs.runs.IdRuns.get_near.Goals as goal

pub find_run_near-found-requires : goal.find_run_near-found-requires
find_run_near-found-requires c =
    let all = length_in c.self.inside.runs.items 0 c.self.inside.count c.self.invariant in
    let long = ap (length {A = Id}) c.self.view_is in
    (c.self.inside.count, subst (λ (rs : List IdRun). AreRuns 0 rs c.self.inside.count) (sym c.deref.ensures.value) c.self.invariant, omega (arith, all, long, c.requires))

pub index-run-requires : goal.index-run-requires
index-run-requires c =
    let h = c.find_run_near-found.ensures in
    let within = slice_get_within c.deref.result.now c.find_run_near-found.result h.run h.there in
    let long = ap (length {A = IdRun}) c.deref.ensures.value in
    omega (arith, within, long, c.self.inside.runs.ok.0)

pub overflow_sub-result : goal.overflow_sub-result
overflow_sub-result c = (found c.self.inside.runs.items c.deref.result.now c.find_run_near-found.result c.args.place c.index-run.result.now c.deref.ensures.value c.find_run_near-found.ensures c.index-run.ensures).1

pub overflow_add-result : goal.overflow_add-result
overflow_add-result c =
    let f = found c.self.inside.runs.items c.deref.result.now c.find_run_near-found.result c.args.place c.index-run.result.now c.deref.ensures.value c.find_run_near-found.ensures c.index-run.ensures in
    let within = run_within c.self.inside.runs.items 0 c.self.inside.count c.find_run_near-found.result c.index-run.result.now c.self.invariant f.0 in omega (arith, f.1, f.2, within)

pub returns : goal.returns
returns c =
    let f = found c.self.inside.runs.items c.deref.result.now c.find_run_near-found.result c.args.place c.index-run.result.now c.deref.ensures.value c.find_run_near-found.ensures c.index-run.ensures in
    ap (λ (ids : List Id). slice_get ids c.args.place) (sym c.self.view_is)
    ∙ read_run c.self.inside.runs.items 0 c.self.inside.count c.args.place c.find_run_near-found.result c.args.place c.index-run.result.now c.self.invariant f.0 f.1 f.2 (omega arith)
