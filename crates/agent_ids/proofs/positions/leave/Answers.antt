use Rattle.std.proofs.Common.{◌≡◌, ◌∙◌, ◌-◌, ◌<◌, ◌≤◌, List, length, take, slice_index_or, sym, ap, subst, arith}
use Rattle.agent_ids.specs.declared.positions.PositionRun.{PositionRun}
use Rattle.agent_ids.specs.PositionRuns.{positions_in, ArePositionRuns}
use Rattle.agent_ids.proofs.PositionLists.{left_runs}
use Rattle.agent_ids.proofs.positions.leave.Goals.{After-truncate}
use Rattle.agent_ids.proofs.positions.leave.Goals as goal

left : (c : After-truncate) → (positions_in c.truncate.new.self.items c.args.n ≡ take c.args.n (positions_in c.args.runs.now.items c.args.count)) × ArePositionRuns 0 c.truncate.new.self.items c.args.n
left c =
    let runs = c.args.runs.now.items in
    let kept = c.count_below-kept.result in
    let same = c.deref.ensures.value in
    let made = left_runs runs 0 c.args.count c.args.n kept c.requires.runs c.requires.within (subst (λ (rs : List PositionRun). kept ≤ length rs) same c.count_below-kept.ensures.bound)
    (λ k d l. subst (λ (rs : List PositionRun). (slice_index_or rs k d).seq < c.args.n) same (c.count_below-kept.ensures.below k d (omega arith) l))
    (λ k d l m. subst (λ (rs : List PositionRun). c.args.n ≤ (slice_index_or rs k d).seq) same (c.count_below-kept.ensures.behind k d l (subst (λ (rs : List PositionRun). k < length rs) (sym same) m)))
    (omega arith) in
    let whole : c.args.n - 0 ≡ c.args.n = omega arith in
    (ap (λ (rs : List PositionRun). positions_in rs c.args.n) c.truncate.ensures.items ∙ made.0 ∙ ap (λ k. take k (positions_in runs c.args.count)) whole, subst (λ (rs : List PositionRun). ArePositionRuns 0 rs c.args.n) (sym c.truncate.ensures.items) made.1)

pub returns-clause-positions : goal.returns-clause-positions
returns-clause-positions c = (left c).0

pub returns-clause-runs : goal.returns-clause-runs
returns-clause-runs c = (left c).1
