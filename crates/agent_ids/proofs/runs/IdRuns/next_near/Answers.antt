use Rattle.std.proofs.Common.{◌≡◌, ◌∙◌, ◌≤◌, ◌+◌, ◌-◌, ℕ, List, length, Some, slice_get, sym, ap, subst, arith}
use Rattle.std.proofs.lemmas.Option.{slice_get_within, same_Some}
use Rattle.ew_model.specs.declared.id.Id.{Id}
use Rattle.agent_ids.specs.declared.runs.IdRun.{IdRun}
use Rattle.agent_ids.specs.IdRuns.{id_with, AreRuns}
use Rattle.agent_ids.proofs.RunLists.{length_in, read_run, found}
use Rattle.agent_ids.proofs.runs.IdRuns.next_near.Goals as goal

pub find_run_near-found-requires : goal.find_run_near-found-requires
find_run_near-found-requires c =
    let all = length_in c.self.inside.runs.items 0 c.self.inside.count c.self.invariant in
    let long = ap (length {A = Id}) c.self.view_is in
    (c.self.inside.count, subst (λ (rs : List IdRun). AreRuns 0 rs c.self.inside.count) (sym c.deref.ensures.value) c.self.invariant, omega (arith, all, long, c.requires))

pub index-run-requires : goal.index-run-requires
index-run-requires c =
    let h = c.find_run_near-found.ensures in
    let within = slice_get_within c.deref.result.now c.find_run_near-found.result h.run h.there in
    let long = ap (length {A = IdRun}) c.deref.ensures.value in
    omega (arith, within, long, c.self.inside.runs.ok.0)

pub returns : goal.returns
returns c = λ x here k le.
    let runs = c.self.inside.runs.items in
    let place = c.args.place in
    let at = c.find_run_near-found.result in
    let run = c.index-run.result.now in
    let f = found runs c.deref.result.now at place run c.deref.ensures.value c.find_run_near-found.ensures c.index-run.ensures in
    let low = f.1 in
    let high = f.2 in
    let first = ap (λ (ids : List Id). slice_get ids place) (sym c.self.view_is) ∙ read_run runs 0 c.self.inside.count place at place run c.self.invariant f.0 f.1 f.2 (omega arith) in
    let next = ap (λ (ids : List Id). slice_get ids (place + k)) (sym c.self.view_is) ∙ read_run runs 0 c.self.inside.count (place + k) at (place + k) run c.self.invariant f.0 (omega (arith, low)) (omega (arith, low, high, le)) (omega arith) in
    let on : run.seq + (place + k - run.start) ≡ run.seq + (place - run.start) + k = omega (arith, low) in
    subst (λ (y : Id). slice_get c.args.self.now (place + k) ≡ Some (id_with y.agent (y.seq + k))) (same_Some (id_with run.agent (run.seq + (place - run.start))) x (sym first ∙ here))
    (next ∙ ap (λ (s : ℕ). Some (id_with run.agent s)) on)
