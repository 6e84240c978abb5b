use Rattle.std.proofs.Common.{◌≡◌, ◌-◌, ◌≤◌, suc, Some, slice_get, ap, ◌∙◌, sym, arith}
use Rattle.std.specs.Prelude.{slice_index_or}
use Rattle.std.proofs.lemmas.Option.{slice_get-get_or, slice_get_within, get_or_from_slice_get}
use Rattle.event_file.specs.declared.id_runs.IdRun.{IdRun}
use Rattle.event_file.proofs.IdRuns.{none_begun}
use Rattle.event_file.proofs.id_runs.last_begun.Goals as goal

pub returns-then-begun-eq0-clause-none : goal.returns-then-begun-eq0-clause-none
returns-then-begun-eq0-clause-none c = none_begun c.args.runs.now c.args.position c.count_to-begun.result c.requires c.if-begun-eq0.true c.count_to-begun.ensures.behind

pub returns-clause-some : goal.returns-clause-some
returns-clause-some c =
    let runs = c.args.runs.now in
    let b = c.count_to-begun.result in
    let none : IdRun = record { start = 0; agent = 0; seq = 0; more = 0 } in
    let run = slice_index_or runs (b - 1) none in
    let bound = c.count_to-begun.ensures.bound in
    let one : 1 ≤ b = omega (arith, c.if-begun-eq0.false) in
    let next : suc (b - 1) ≡ b = omega (arith, one) in
    record {
      place = b - 1;
      there = slice_get-get_or runs (b - 1) none (omega (arith, one, bound));
      begun = c.count_to-begun.ensures.to (b - 1) none (omega arith) (omega (arith, one));
      next = λ t e.
          let e2 : slice_get runs b ≡ Some t = ap (slice_get runs) (sym next) ∙ e in
          let high = c.count_to-begun.ensures.behind b t (omega arith) (slice_get_within runs b t e2) in
          let read = ap (λ (r : IdRun). r.start) (get_or_from_slice_get runs b t t e2) in
          omega (arith, high, read);
    }
