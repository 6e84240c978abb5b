use Rattle.std.proofs.Common.{◌≡◌, ◌∙◌, ◌-◌, ◌<◌, List, Some, length, slice_get, sym, ap, subst, arith}
use Rattle.agent_ids.specs.declared.runs.IdRun.{IdRun}
use Rattle.agent_ids.specs.IdRuns.{last_in}
use Rattle.agent_ids.proofs.RunLists.{run_within, last_of_last}
use Rattle.agent_ids.proofs.runs.IdRuns.last.Goals as goal

there : (runs seen : List IdRun) (r : IdRun) → seen ≡ runs → Some r ≡ slice_get seen (length seen - 1) → slice_get runs (length runs - 1) ≡ Some r
there runs seen r same is = ap (λ (rs : List IdRun). slice_get rs (length rs - 1)) (sym same) ∙ sym is

pub overflow_add-result : goal.overflow_add-result
overflow_add-result c =
    let runs = c.self.inside.runs.items in
    let last = there runs c.deref.result.now c.in_ok-run.run'.now c.deref.ensures.value c.in_ok-run.ensures.value in
    let within = run_within runs 0 c.self.inside.count (length runs - 1) c.in_ok-run.run'.now c.self.invariant last in omega (arith, within)

pub returns : goal.returns
returns c =
    let runs = c.self.inside.runs.items in
    let some = subst (λ (rs : List IdRun). 0 < length rs) c.deref.ensures.value c.in_ok-run.ensures.item.3.0 in
    sym (ap last_in (sym c.self.view_is) ∙ last_of_last runs c.self.inside.count c.in_ok-run.run'.now c.self.invariant some (there runs c.deref.result.now c.in_ok-run.run'.now c.deref.ensures.value c.in_ok-run.ensures.value))
