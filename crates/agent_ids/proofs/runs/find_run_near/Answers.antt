use Rattle.std.proofs.Common.{◌≡◌, ◌-◌, ◌≤◌, [], suc, Some, slice_get, slice_index_or, ap, ◌∙◌, sym, arith}
use Rattle.std.proofs.lemmas.Option.{slice_get-get_or, slice_get_within, get_or_from_slice_get}
use Rattle.agent_ids.specs.declared.runs.IdRun.{IdRun}
use Rattle.agent_ids.proofs.RunLists.{in_run, some_before}
use Rattle.agent_ids.proofs.runs.find_run_near.Goals.{After-count_to}
use Rattle.agent_ids.proofs.runs.find_run_near.Goals as goal

some : (c : After-count_to) → 1 ≤ c.count_to.result
some c = some_before c.args.runs.now c.requires.0 c.args.place c.count_to.result c.requires.1 c.requires.2 (λ d l. c.count_to.ensures.behind 0 d l)

pub overflow_sub-result : goal.overflow_sub-result
overflow_sub-result c = some c

pub returns : goal.returns
returns c =
    let runs = c.args.runs.now in
    let b = c.count_to.result in
    let none : IdRun = record { start = 0; agent = []; seq = 0; more = 0 } in
    let run = slice_index_or runs (b - 1) none in
    let one = some c in
    let there : slice_get runs (b - 1) ≡ Some run = slice_get-get_or runs (b - 1) none (let bound = c.count_to.ensures.bound in omega (arith, one, bound)) in
    let low = c.count_to.ensures.to (b - 1) none (omega arith) (omega (arith, one)) in
    let next : suc (b - 1) ≡ b = omega (arith, one) in
    record {
      run = run;
      there = there;
      from = low;
      to = in_run runs 0 c.requires.0 c.args.place (b - 1) run c.requires.1 there c.requires.2 (λ t e.
          let e2 : slice_get runs b ≡ Some t = ap (slice_get runs) (sym next) ∙ e in
          let high = c.count_to.ensures.behind b t (omega arith) (slice_get_within runs b t e2) in
          let read = ap (λ (r : IdRun). r.start) (get_or_from_slice_get runs b t t e2) in
          omega (arith, high, read));
    }
