use Rattle.std.proofs.Common.{◌≡◌, ◌∙◌, ◌+◌, ◌∷◌, ◌++◌, [], List, true, false, sym, ap, subst, arith}
use Rattle.agent_ids.specs.declared.positions.PositionRun.{PositionRun}
use Rattle.agent_ids.specs.PositionRuns.{positions_in, ArePositionRuns, goes_on_at}
use Rattle.agent_ids.proofs.PositionLists.{more_last, started_last}
use Rattle.agent_ids.proofs.positions.put.Goals.{In_ok-push, Else-not-goes_on_at}
use Rattle.agent_ids.proofs.positions.put.Goals as goal

apart : (c : In_ok-push) → (positions_in c.push.new.self.items (c.args.count + 1) ≡ positions_in c.args.runs.now.items c.args.count ++ c.args.position ∷ []) × ArePositionRuns 0 c.push.new.self.items (c.args.count + 1)
apart c =
    let off : goes_on_at c.args.runs.now.items c.args.count c.args.position ≡ false = ap (λ (rs : List PositionRun). goes_on_at rs c.args.count c.args.position) (sym c.deref.ensures.value) ∙ sym c.goes_on_at.ensures ∙ c.if-not-goes_on_at.true in
    let made = started_last c.args.runs.now.items 0 c.args.count c.args.position c.requires off (omega arith) in
    (ap (λ (rs : List PositionRun). positions_in rs (c.args.count + 1)) c.in_ok-push.ensures.items ∙ made.0, subst (λ (rs : List PositionRun). ArePositionRuns 0 rs (c.args.count + 1)) (sym c.in_ok-push.ensures.items) made.1)

joined : (c : Else-not-goes_on_at) → (positions_in c.args.runs.now.items (c.args.count + 1) ≡ positions_in c.args.runs.now.items c.args.count ++ c.args.position ∷ []) × ArePositionRuns 0 c.args.runs.now.items (c.args.count + 1)
joined c =
    let on : goes_on_at c.args.runs.now.items c.args.count c.args.position ≡ true = ap (λ (rs : List PositionRun). goes_on_at rs c.args.count c.args.position) (sym c.deref.ensures.value) ∙ sym c.goes_on_at.ensures ∙ c.if-not-goes_on_at.false in
    more_last c.args.runs.now.items 0 c.args.count c.args.position c.requires on (omega arith)

pub returns-in_ok-push-clause-ok : goal.returns-in_ok-push-clause-ok
returns-in_ok-push-clause-ok c = (apart c).0

pub returns-in_ok-push-clause-runs : goal.returns-in_ok-push-clause-runs
returns-in_ok-push-clause-runs c = (apart c).1

pub returns-else-not-goes_on_at-clause-ok : goal.returns-else-not-goes_on_at-clause-ok
returns-else-not-goes_on_at-clause-ok c = (joined c).0

pub returns-else-not-goes_on_at-clause-runs : goal.returns-else-not-goes_on_at-clause-runs
returns-else-not-goes_on_at-clause-runs c = (joined c).1
