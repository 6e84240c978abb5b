use Rattle.std.proofs.Common.{◌≡◌, ◌∙◌, ◌+◌, ◌∷◌, ◌++◌, [], List, true, false, sym, ap, subst, arith}
use Rattle.agent_ids.specs.declared.runs.IdRun.{IdRun}
use Rattle.agent_ids.specs.IdRuns.{ids_in, AreRuns, goes_on}
use Rattle.agent_ids.proofs.RunLists.{more_in, started_in}
use Rattle.agent_ids.proofs.runs.put.Goals.{After-lengthen_last, In_ok-push}
use Rattle.agent_ids.proofs.runs.put.Goals as goal

joined : (c : After-lengthen_last) → (ids_in c.lengthen_last.new.runs.items ≡ ids_in c.args.runs.now.items ++ c.args.id.now ∷ []) × AreRuns 0 c.lengthen_last.new.runs.items (c.args.start + 1)
joined c =
    let runs = c.args.runs.now.items in
    let on : goes_on runs c.args.id.now ≡ true = ap (λ (rs : List IdRun). goes_on rs c.args.id.now) (sym c.deref.ensures.value) ∙ sym c.goes_on.ensures ∙ c.if-goes_on.true in
    let made = more_in runs 0 c.args.start c.args.id.now c.requires on (omega arith) in
    (ap ids_in c.lengthen_last.ensures ∙ made.0, subst (λ (rs : List IdRun). AreRuns 0 rs (c.args.start + 1)) (sym c.lengthen_last.ensures) made.1)

apart : (c : In_ok-push) → (ids_in c.push.new.self.items ≡ ids_in c.args.runs.now.items ++ c.args.id.now ∷ []) × AreRuns 0 c.push.new.self.items (c.args.start + 1)
apart c =
    let runs = c.args.runs.now.items in
    let off : goes_on runs c.args.id.now ≡ false = ap (λ (rs : List IdRun). goes_on rs c.args.id.now) (sym c.deref.ensures.value) ∙ sym c.goes_on.ensures ∙ c.if-goes_on.false in
    let made = started_in runs 0 c.args.start c.args.id.now c.requires off (omega arith) in
    (ap ids_in c.in_ok-push.ensures.items ∙ made.0, subst (λ (rs : List IdRun). AreRuns 0 rs (c.args.start + 1)) (sym c.in_ok-push.ensures.items) made.1)

pub returns-then-goes_on-clause-ok : goal.returns-then-goes_on-clause-ok
returns-then-goes_on-clause-ok c = (joined c).0

pub returns-then-goes_on-clause-runs : goal.returns-then-goes_on-clause-runs
returns-then-goes_on-clause-runs c = (joined c).1

pub returns-in_ok-push-clause-ok : goal.returns-in_ok-push-clause-ok
returns-in_ok-push-clause-ok c = (apart c).0

pub returns-in_ok-push-clause-runs : goal.returns-in_ok-push-clause-runs
returns-in_ok-push-clause-runs c = (apart c).1
