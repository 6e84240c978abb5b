use Rattle.std.proofs.Common.{◌≡◌, ◌∙◌, ◌∷◌, map, false, sym, ap, subst, arith}
use Rattle.ew_model.specs.Kept.{ReplicaState, is_awaited}
use Rattle.ew_model.specs.Edits.{events_of_ops, events_of_edit, ops_of}
use Rattle.ew_model.specs.TextLaws.{own_change}
use Rattle.waiting_pool.specs.Waiting.{events_of}
use Rattle.replica.specs.Appending.{CanAppend, chain_from}
use Rattle.replica.specs.Editing.{edit_view}
use Rattle.replica.proofs.Appends.{edit_is_small, can_append, not_refused}
use Rattle.replica.proofs.EditAnswers.{view_of_text}
use Rattle.replica.proofs.state.Replica.make.Goals as goal

pub changes-requires : goal.changes-requires
changes-requires c =
    let edit = edit_view c.args.edit.now in
    let none = not_refused c.args.agent edit _ c.args.self.now c.self.view_is c.requires.allowed in
    let small = edit_is_small c.self.inside.limits c.self.inside.graph (events_of c.self.inside.pool) c.args.agent edit c.self.invariant.0.kept c.events-most.ensures.range.few_events none in
    omega (arith, small.0, small.1)

-- the events are those of the edit
pub returns-clause-events : goal.returns-clause-events
returns-clause-events c rest is =
    let edit = edit_view c.args.edit.now in
    let held = c.self.inside.graph in
    let made : chain_from c.in_ok-event.event rest ≡ events_of_ops held c.args.agent (c.args.first ∷ rest) = c.in_ok-event.ensures rest in
    let events : chain_from c.in_ok-event.event rest ≡ events_of_edit held c.args.agent edit =
    made ∙ ap (λ os. events_of_ops held c.args.agent os) is ∙ sym (view_of_text held c.args.agent c.args.edit.now).events in
    subst (λ (s : ReplicaState). chain_from c.in_ok-event.event rest ≡ events_of_edit s.held c.args.agent edit) c.self.view_is events

-- and the changes
pub returns-clause-can : goal.returns-clause-can
returns-clause-can c =
    let edit = edit_view c.args.edit.now in
    let held = c.self.inside.graph in
    let waiting = (events_of c.self.inside.pool) in
    let awaited : is_awaited held waiting c.args.agent ≡ false = subst (λ (s : ReplicaState). is_awaited s.held s.waiting c.args.agent ≡ false) (sym c.self.view_is) c.requires.awaited in
    let none = not_refused c.args.agent edit _ c.args.self.now c.self.view_is c.requires.allowed in
    let changes : c.in_ok-changes.changes.items ≡ map own_change (ops_of edit) = c.in_ok-changes.ensures in
    let can : CanAppend c.self.inside.limits held waiting (events_of_edit held c.args.agent edit) (map own_change (ops_of edit)) =
    can_append c.self.inside.limits held waiting c.args.agent edit (view_of_text held c.args.agent c.args.edit.now) c.self.invariant.0.kept awaited c.events-most.ensures.range.few_events none in
    let all : CanAppend c.self.inside.limits held waiting (events_of_edit held c.args.agent edit) c.in_ok-changes.changes.items = rw changes can in
    subst (λ (s : ReplicaState). CanAppend s.limits s.held s.waiting (events_of_edit s.held c.args.agent edit) c.in_ok-changes.changes.items) c.self.view_is all
