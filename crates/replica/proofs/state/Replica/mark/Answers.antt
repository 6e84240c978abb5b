use Rattle.std.proofs.Common.{◌≡◌, ℕ, ◌∙◌, List, Some, sym, ap, subst, arith}
use Rattle.ew_model.specs.declared.event.Event.{Event}
use Rattle.ew_model.specs.Edits.{events_of_mark}
use Rattle.ew_model.specs.Edits.Edit.{Mark}
use Rattle.ew_model.specs.Edits.EditRefusal.{Full}
use Rattle.ew_model.specs.Kept.{IsKept, ReplicaState}
use Rattle.replica.specs.declared.fault.EditFault.TheVariants as fault
use Rattle.replica.specs.Marking.{CanMark}
use Rattle.replica.proofs.EditAnswers.{refused, some_made, text_after}
use Rattle.replica.proofs.MarkLaws.{mark_allowed, mark_full, can_mark}
use Rattle.replica.proofs.state.Replica.mark.Goals as goal

-- the events made are those of the mark
is_made : (agent label : List ℕ) (inside now : ReplicaState) (made : List Event) → inside ≡ now → made ≡ events_of_mark inside.held agent label → made ≡ events_of_mark now.held agent label
is_made agent label inside now made same is = is ∙ ap (λ (s : ReplicaState). events_of_mark s.held agent label) same

pub returns-then-len-room-clause-edits : goal.returns-then-len-room-clause-edits
returns-then-len-room-clause-edits g c =
    let now = c.args.self.now in
    let kept : IsKept now.limits now.held now.waiting = subst (λ (s : ReplicaState). IsKept s.limits s.held s.waiting) c.self.view_is c.self.invariant.0.kept in
    let made = is_made c.args.agent c.args.label _ now c.in_ok-made.made.items c.self.view_is c.in_ok-made.ensures in
    let full =
    mark_full now.limits now.held c.args.agent c.args.label c.in_ok-made.made.items kept.orderly.good made
    (omega (arith, c.if-len-room.true, c.room.ensures, c.len.ensures, c.in_ok-made.made.ok.0)) in
    refused c.args.agent (Mark c.args.label) now (fault.Full c.count-count.result) (full ∙ ap (λ n. Some (Full n)) (sym c.count-count.ensures))

pub append_marks-requires : goal.append_marks-requires
append_marks-requires g c =
    let now = c.args.self.now in
    let kept : IsKept now.limits now.held now.waiting = subst (λ (s : ReplicaState). IsKept s.limits s.held s.waiting) c.self.view_is c.self.invariant.0.kept in
    let made = is_made c.args.agent c.args.label _ now c.in_ok-made.made.items c.self.view_is c.in_ok-made.ensures in
    let none =
    mark_allowed now.limits now.held c.args.agent c.args.label c.in_ok-made.made.items kept.orderly.good made
    (omega (arith, c.if-len-room.false, c.room.ensures, c.len.ensures, c.in_ok-made.made.ok.0)) in
    subst (CanMark now.limits now.held now.waiting) (sym (c.as_slice.ensures.value ∙ made)) (can_mark now.limits now.held now.waiting c.args.agent c.args.label kept c.requires none)

pub returns-clause-edits : goal.returns-clause-edits
returns-clause-edits g c =
    let now = c.args.self.now in
    let kept : IsKept now.limits now.held now.waiting = subst (λ (s : ReplicaState). IsKept s.limits s.held s.waiting) c.self.view_is c.self.invariant.0.kept in
    let made = is_made c.args.agent c.args.label _ now c.in_ok-made.made.items c.self.view_is c.in_ok-made.ensures in
    let none =
    mark_allowed now.limits now.held c.args.agent c.args.label c.in_ok-made.made.items kept.orderly.good made
    (omega (arith, c.if-len-room.false, c.room.ensures, c.len.ensures, c.in_ok-made.made.ok.0)) in
    some_made c.args.agent (Mark c.args.label) now c.append_marks.new.self c.as_slice.result.now c.in_ok-n.n none (c.as_slice.ensures.value ∙ made) c.in_ok-n.ensures.ok c.in_ok-n.ensures.count

pub returns-clause-text : goal.returns-clause-text
returns-clause-text g c =
    let now = c.args.self.now in
    let kept : IsKept now.limits now.held now.waiting = subst (λ (s : ReplicaState). IsKept s.limits s.held s.waiting) c.self.view_is c.self.invariant.0.kept in
    let made = is_made c.args.agent c.args.label _ now c.in_ok-made.made.items c.self.view_is c.in_ok-made.ensures in
    let none =
    mark_allowed now.limits now.held c.args.agent c.args.label c.in_ok-made.made.items kept.orderly.good made
    (omega (arith, c.if-len-room.false, c.room.ensures, c.len.ensures, c.in_ok-made.made.ok.0)) in
    text_after c.args.agent (Mark c.args.label) now c.append_marks.new.self c.in_ok-n.n kept.orderly.good
    (some_made c.args.agent (Mark c.args.label) now c.append_marks.new.self c.as_slice.result.now c.in_ok-n.n none (c.as_slice.ensures.value ∙ made) c.in_ok-n.ensures.ok c.in_ok-n.ensures.count)
