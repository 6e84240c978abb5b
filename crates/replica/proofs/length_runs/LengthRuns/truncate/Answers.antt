use Rattle.std.proofs.Common.{◌≡◌, ◌∙◌, ◌-◌, ◌<◌, ◌≤◌, ℕ, List, Some, slice_get, length, take, sym, ap, subst, arith}
use Rattle.std.proofs.lemmas.List.{take_all}
use Rattle.std.proofs.lemmas.Option.{slice_get_within, get_or_from_slice_get}
use Rattle.replica.specs.declared.length_runs.LengthRun.{LengthRun}
use Rattle.replica.specs.LengthRuns.{begin_of}
use Rattle.replica.proofs.LengthRunLaws.{length-lengths_in, AreCut, cut, first_left}
use Rattle.replica.proofs.length_runs.LengthRuns.truncate.Goals as goal
use Rattle.replica.proofs.length_runs.LengthRuns.truncate.Goals.{After-truncate}

above : (c : After-truncate) (t : LengthRun) → slice_get c.self.inside.runs.items c.count_below-kept.result ≡ Some t → c.args.count ≤ t.start
above c t e =
    let runs = c.deref.result.now in
    let kept = c.count_below-kept.result in
    let there : slice_get runs kept ≡ Some t = ap (λ (rs : List LengthRun). slice_get rs kept) c.deref.ensures.value ∙ e in
    let high = c.count_below-kept.ensures.above kept t (omega arith) (slice_get_within runs kept t there) in
    let same = ap (λ (r : LengthRun). r.start) (get_or_from_slice_get runs kept t t there) in
    omega (arith, high, same)

below : (c : After-truncate) (i : ℕ) (t : LengthRun) → i < c.count_below-kept.result → slice_get c.self.inside.runs.items i ≡ Some t → t.start < c.args.count
below c i t l e =
    let runs = c.deref.result.now in
    let there : slice_get runs i ≡ Some t = ap (λ (rs : List LengthRun). slice_get rs i) c.deref.ensures.value ∙ e in
    let low = c.count_below-kept.ensures.below i t (omega arith) l in
    let same = ap (λ (r : LengthRun). r.start) (get_or_from_slice_get runs i t t there) in
    omega (arith, low, same)

left : (c : After-truncate) → AreCut c.self.inside.runs.items c.truncate.new.self.items c.self.inside.count c.args.count
left c =
    let runs = c.self.inside.runs.items in
    let lower = c.if-count-self.true in
    subst (λ (rs : List LengthRun). AreCut runs rs c.self.inside.count c.args.count) (sym c.truncate.ensures.items)
    (cut runs c.self.inside.count c.args.count c.count_below-kept.result c.self.invariant.row (omega (arith, lower)) (below c) (above c))

pub invariant_of-self : goal.invariant_of-self
invariant_of-self c =
    let i = (goal.at.invariant_of-self c).After-truncate in
    record {
      first = subst (λ (rs : List LengthRun). begin_of rs c.args.count ≡ 0) (sym c.truncate.ensures.items)
          (first_left c.self.inside.runs.items c.self.inside.count c.args.count c.count_below-kept.result c.self.invariant.first c.if-count-self.true (above i));
      row = (left i).row;
    }

pub returns-then-count-self : goal.returns-then-count-self
returns-then-count-self c =
    let runs = c.self.inside.runs.items in
    let first = c.self.invariant.first in
    let all : c.args.count - begin_of runs c.self.inside.count ≡ c.args.count = omega (arith, first) in
    (left ((goal.at.returns-then-count-self c).After-truncate)).lengths ∙ (λ i. take (all i) (c.self.view_is i))

pub returns-else-count-self : goal.returns-else-count-self
returns-else-count-self c =
    let first = c.self.invariant.first in
    let all = length-lengths_in c.self.inside.runs.items c.self.inside.count c.self.invariant.row in
    let seen = ap length c.self.view_is in
    let over = c.if-count-self.false in
    sym (take_all c.args.count c.args.self.now (omega (arith, first, all, seen, over)))
