use Rattle.std.proofs.Common.{◌≡◌, ◌∙◌, ◌-◌, ◌+◌, ◌<◌, ◌≤◌, ◌++◌, suc, List, Some, length, slice_get, sym, ap, subst, arith}
use Rattle.ew_model.specs.declared.id.Id.{Id}
use Rattle.agent_ids.specs.declared.runs.IdRun.{IdRun}
use Rattle.agent_ids.specs.IdRuns.{ids_in, ids_from, id_with, AreRuns}
use Rattle.agent_ids.proofs.RunLists.{IsLastCut, cut_last}
use Rattle.agent_ids.proofs.runs.IdRuns.cut_run.Goals.{After-self-1}
use Rattle.agent_ids.proofs.runs.IdRuns.cut_run.Goals as goal

done : (c : After-self-1) → IsLastCut c.self.inside.runs.items c.args.n c.max-cut.result c.in_ok-run.field-0.now
done c =
    let runs = c.self.inside.runs.items in
    let same = c.deref.ensures.value in
    let long = ap (length {A = Id}) c.self.view_is in
    cut_last runs c.self.inside.count c.args.n c.max-cut.result c.in_ok-run.field-0.now c.self.invariant (subst (λ (rs : List IdRun). 0 < length rs) same c.in_ok-run.ensures.item.3.0)
    (subst (λ (rs : List IdRun). Some c.in_ok-run.field-0.now ≡ slice_get rs (length rs - 1)) same c.in_ok-run.ensures.value) (omega (arith, long, c.requires)) c.max-cut.ensures

pub overflow_add-result : goal.overflow_add-result
overflow_add-result c = let low = (done c).fits in omega (arith, low)

pub invariant_of-self : goal.invariant_of-self
invariant_of-self c = subst (λ (rs : List IdRun). AreRuns 0 rs c.max-cut.result) (sym c.shorten_last.ensures) (done c).runs

pub returns-clause-some : goal.returns-clause-some
returns-clause-some c =
    let run = c.in_ok-run.field-0.now in
    let cut = c.max-cut.result in (
      run.start + run.more - cut,
      sym c.self.view_is ∙ (done c).parts ∙ ap (λ (rs : List IdRun). ids_in rs ++ ids_from (id_with run.agent (run.seq + (cut - run.start))) (suc (run.start + run.more - cut))) (sym c.shorten_last.ensures),
    )

pub returns-clause-front : goal.returns-clause-front
returns-clause-front c = subst (λ (rs : List IdRun). c.args.n ≤ length (ids_in rs)) (sym c.shorten_last.ensures) (done c).front
