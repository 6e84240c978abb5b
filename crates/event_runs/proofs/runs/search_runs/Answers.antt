use Rattle.std.proofs.Common.{◌≡◌, ◌∙◌, ◌-◌, ◌≤◌, suc, Some, slice_get, slice_index_or, sym, ap, arith}
use Rattle.std.proofs.lemmas.Option.{slice_get-get_or, slice_get_within, get_or_from_slice_get}
use Rattle.event_runs.specs.declared.runs.Run.{Run}
use Rattle.event_runs.proofs.RunEvents.{in_run, some_below, first_run}
use Rattle.event_runs.proofs.runs.search_runs.Goals.{After-count_below}
use Rattle.event_runs.proofs.runs.search_runs.Goals as goal

some : (c : After-count_below) → 1 ≤ c.count_below.result
some c =
    some_below c.args.runs.now c.requires.0 c.requires.1 c.requires.2 c.args.position c.count_below.result c.requires.3 c.requires.4
    (λ d l m. let above = c.count_below.ensures.above 0 d l m in omega (arith, above))

pub overflow_sub-result : goal.overflow_sub-result
overflow_sub-result c = some c

pub returns : goal.returns
returns c =
    let runs = c.args.runs.now in
    let b = c.count_below.result in
    let first = first_run runs c.requires.0 c.requires.1 c.requires.2 c.args.position c.requires.3 c.requires.4 in
    let run = slice_index_or runs (b - 1) first in
    let one = some c in
    let there : slice_get runs (b - 1) ≡ Some run = slice_get-get_or runs (b - 1) first (let bound = c.count_below.ensures.bound in omega (arith, one, bound)) in
    let low = c.count_below.ensures.below (b - 1) first (omega arith) (omega (arith, one)) in
    let next : suc (b - 1) ≡ b = omega (arith, one) in
    record {
      run = run;
      there = there;
      from = omega (arith, low);
      to = in_run runs c.requires.0 0 0 c.requires.1 c.requires.2 c.args.position (b - 1) run c.requires.3 there c.requires.4 (λ t e.
          let e2 : slice_get runs b ≡ Some t = ap (slice_get runs) (sym next) ∙ e in
          let high = c.count_below.ensures.above b t (omega arith) (slice_get_within runs b t e2) in
          let read = ap (λ (r : Run). r.start) (get_or_from_slice_get runs b t t e2) in
          omega (arith, high, read));
    }
