use Rattle.std.proofs.Common.{◌≡◌, ◌∙◌, ◌≤◌, sym, ap, subst, None, arith}
use Rattle.ew_model.specs.Edits.{edit_refusal, events_of_edit}
use Rattle.ew_model.specs.Kept.{IsKept, ReplicaState}
use Rattle.ew_model.specs.Verdicts.{IsGood}
use Rattle.event_runs.specs.RunOps.{ops_of}
use Rattle.replica.specs.Appending.{chain_from}
use Rattle.replica.specs.Editing.{edit_view}
use Rattle.replica.proofs.Appends.{edit_is_small}
use Rattle.replica.proofs.EditAnswers.{view_of_text, refusal_is, refused, nothing_made, some_made, text_after}
use Rattle.replica.proofs.state.Replica.edit_text.Goals as goal

pub returns-in-Some-clause-edits : goal.returns-in-Some-clause-edits
returns-in-Some-clause-edits c =
    let edit = edit_view c.args.edit.now in
    let now = c.args.self.now in
    refused c.args.agent edit now c.in-Some.fault (refusal_is now.limits now.held c.args.agent edit (view_of_text now.held c.args.agent c.args.edit.now) ∙ sym c.in-Some.ensures)

pub returns-then-size-eq0-clause-edits : goal.returns-then-size-eq0-clause-edits
returns-then-size-eq0-clause-edits c =
    let edit = edit_view c.args.edit.now in
    let now = c.args.self.now in
    nothing_made c.args.agent edit now (view_of_text now.held c.args.agent c.args.edit.now) (refusal_is now.limits now.held c.args.agent edit (view_of_text now.held c.args.agent c.args.edit.now) ∙ sym c.in_default.ensures) (sym c.size.ensures ∙ c.if-size-eq0.true)

pub returns-then-size-eq0-clause-text : goal.returns-then-size-eq0-clause-text
returns-then-size-eq0-clause-text c =
    let edit = edit_view c.args.edit.now in
    let now = c.args.self.now in
    let good : IsGood now.held = subst (λ (s : ReplicaState). IsGood s.held) c.self.view_is c.self.invariant.0.kept.orderly.good in
    text_after c.args.agent edit now now 0 good
    (nothing_made c.args.agent edit now (view_of_text now.held c.args.agent c.args.edit.now) (refusal_is now.limits now.held c.args.agent edit (view_of_text now.held c.args.agent c.args.edit.now) ∙ sym c.in_default.ensures) (sym c.size.ensures ∙ c.if-size-eq0.true))

pub ops-op-requires-clause-small : goal.ops-op-requires-clause-small
ops-op-requires-clause-small c =
    let edit = edit_view c.args.edit.now in
    let now = c.args.self.now in
    let kept : IsKept now.limits now.held now.waiting = subst (λ (s : ReplicaState). IsKept s.limits s.held s.waiting) c.self.view_is c.self.invariant.0.kept in
    let most = ap (λ (s : ReplicaState). s.limits.events) c.self.view_is in
    let few : now.limits.events ≤ 16777216 = omega (arith, most, c.events-most.ensures.range.few_events) in
    let none = refusal_is now.limits now.held c.args.agent edit (view_of_text now.held c.args.agent c.args.edit.now) ∙ sym c.in_default.ensures in
    let small = edit_is_small now.limits now.held now.waiting c.args.agent edit kept few none in
    omega (arith, small.0, small.1)

pub make-requires : goal.make-requires
make-requires c = record { awaited = c.requires; allowed = refusal_is c.args.self.now.limits c.args.self.now.held c.args.agent (edit_view c.args.edit.now) (view_of_text c.args.self.now.held c.args.agent c.args.edit.now) ∙ sym c.in_default.ensures }

pub append-requires-clause-can : goal.append-requires-clause-can
append-requires-clause-can c =
    let now = c.args.self.now in
    let rest = ops_of c.ops-op.result.1 in
    let made : chain_from c.in_ok-first.first rest ≡ events_of_edit now.held c.args.agent (edit_view c.args.edit.now) = c.in_ok-first.ensures.events rest c.ops-op.ensures.ops in
    rw (made, c.as_slice.ensures.value) c.in_ok-first.ensures.can

pub returns-clause-edits : goal.returns-clause-edits
returns-clause-edits c =
    let edit = edit_view c.args.edit.now in
    let now = c.args.self.now in
    let rest = ops_of c.ops-op.result.1 in
    let none : edit_refusal now.limits now.held c.args.agent edit ≡ None = refusal_is now.limits now.held c.args.agent edit (view_of_text now.held c.args.agent c.args.edit.now) ∙ sym c.in_default.ensures in
    some_made c.args.agent edit now c.append.new.self (chain_from c.in_ok-first.first rest) c.in_ok-n.n none (c.in_ok-first.ensures.events rest c.ops-op.ensures.ops) c.in_ok-n.ensures.ok c.in_ok-n.ensures.count

pub returns-clause-text : goal.returns-clause-text
returns-clause-text c =
    let edit = edit_view c.args.edit.now in
    let now = c.args.self.now in
    let rest = ops_of c.ops-op.result.1 in
    let none : edit_refusal now.limits now.held c.args.agent edit ≡ None = refusal_is now.limits now.held c.args.agent edit (view_of_text now.held c.args.agent c.args.edit.now) ∙ sym c.in_default.ensures in
    let good : IsGood now.held = subst (λ (s : ReplicaState). IsGood s.held) c.self.view_is c.self.invariant.0.kept.orderly.good in
    text_after c.args.agent edit now c.append.new.self c.in_ok-n.n good
    (some_made c.args.agent edit now c.append.new.self (chain_from c.in_ok-first.first rest) c.in_ok-n.n none (c.in_ok-first.ensures.events rest c.ops-op.ensures.ops) c.in_ok-n.ensures.ok c.in_ok-n.ensures.count)
