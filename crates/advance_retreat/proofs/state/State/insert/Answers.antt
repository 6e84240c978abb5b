use Rattle.std.proofs.Common.{◌≡◌, ℕ, ◌<◌, List, [], None, length, Err, refl, sym, ap, ◌∙◌, subst, arith}
use Rattle.std.proofs.lemmas.Result.{err_from_is_err_and}
use Rattle.ew_model.specs.declared.text_op.TextOp.TheVariants.{Ins}
use Rattle.ew_model.specs.Entries.{visible}
use Rattle.ew_model.specs.Tree.{Applied}
use Rattle.ew_model.specs.Records.{prepared_entries}
use Rattle.fugue_place.specs.Attachments.{AreAttached}
use Rattle.fugue_place.proofs.PathLaws.{has_agent}
use Rattle.advance_retreat.specs.declared.fault.ApplyFault.TheVariants.{OutOfMemory}
use Rattle.character_runs.specs.declared.slot.Slot.{Slot}
use Rattle.advance_retreat.specs.Kept.{Kept, target_at}
use Rattle.character_runs.specs.States.{visible_in}
use Rattle.character_runs.specs.Spots.{Left, IsLeft}
use Rattle.advance_retreat.specs.Hanging.{slot_of, MayHang, Puts}
use Rattle.advance_retreat.specs.Standing.{StandsFor}
use Rattle.advance_retreat.specs.Conditions.{MayInsert}
use Rattle.advance_retreat.proofs.Answering.{refused, not_refused, answered}
use Rattle.advance_retreat.proofs.Found.{new_target}
use Rattle.advance_retreat.proofs.Keeping.{visible_told}
use Rattle.advance_retreat.proofs.Room.{CanInsert, can_insert}
use Rattle.advance_retreat.proofs.SameTrees.{same_kept}
use Rattle.advance_retreat.proofs.Inserting.{asked, left_in_range, inserted_by_put, insertion_done}
use Rattle.advance_retreat.proofs.state.State.insert.Goals as goal
use Rattle.advance_retreat.proofs.state.State.insert.Goals.{In_ok-at}

pub returns-in_default-clause-out_of_range : goal.returns-in_default-clause-out_of_range
returns-in_default-clause-out_of_range c = λ b events prepared st len.
    let same = same_kept c.self.inside.base c.self.inside.targets c.self.inside.lost c.self.inside.tree c.slot_at.new.self c.args.self.now c.slot_at.ensures.same c.self.view_is in
    let told = c.prepared_len.ensures b events prepared (subst (λ (s : Kept). StandsFor s b events prepared) (sym same) st) in
    let few : visible_in c.args.self.now.records < c.args.at = subst (λ (s : Kept). visible_in s.records < c.args.at) c.self.view_is c.in_default.ensures.none in
    let past = subst (λ (n : ℕ). n < c.args.at) (visible_told c.args.self.now b events prepared st) few in
    refused c.prepared_len.result (length (visible (prepared_entries b events prepared))) told (λ n. n < c.args.at) past len

pub put-requires-clause-hangs : goal.put-requires-clause-hangs
put-requires-clause-hangs c =
    let q = c.requires in
    let now = c.args.self.now in
    let is = c.in-Some.ensures.some in
    let left : IsLeft now.records c.args.at is.left = subst (λ (s : Kept). IsLeft s.records c.args.at is.left) c.self.view_is is.here in
    let slot : c.in-Some.slot ≡ slot_of now.base now.records now.attached is.left = is.is ∙ ap (λ (s : Kept). slot_of s.base s.records s.attached is.left) c.self.view_is in
    let same = same_kept c.self.inside.base c.self.inside.targets c.self.inside.lost c.self.inside.tree c.slot_at.new.self c.args.self.now c.slot_at.ensures.same c.self.view_is in
    let still = subst (λ (s : Kept). StandsFor s q.0 q.1 q.2) (sym same) q.3 in
    let room = can_insert q.0 q.1 c.args.lv c.args.id q.4 (sym (c.has_room_for_character.ensures q.0 q.1 q.2 still) ∙ c.if-not-has_room_for_character.false) in
    subst (λ (s : Kept). MayHang s c.args.lv c.args.id c.in-Some.slot) (sym same)
    (asked now q.0 q.1 q.2 q.3 c.args.at is.left left c.args.lv c.args.id (has_agent c.args.id.agent c.as_slice-agent.ensures.name) room c.in-Some.slot slot)

pub put-requires-clause-sound : goal.put-requires-clause-sound
put-requires-clause-sound c =
    let same = same_kept c.self.inside.base c.self.inside.targets c.self.inside.lost c.self.inside.tree c.slot_at.new.self c.args.self.now c.slot_at.ensures.same c.self.view_is in
    subst (λ (s : Kept). AreAttached [] s.attached) (sym same) c.requires.3.children.sound

pub put-requires-clause-new : goal.put-requires-clause-new
put-requires-clause-new c =
    let q = c.requires in
    subst (λ (s : Kept). target_at s.targets c.args.lv ≡ None) (sym c.self.view_is) (new_target c.args.self.now q.0 q.1 q.2 q.3 c.args.lv q.4.position)

pub returns-then-not-has_room_for_character-clause-out_of_range : goal.returns-then-not-has_room_for_character-clause-out_of_range
returns-then-not-has_room_for_character-clause-out_of_range c = λ b events prepared st len.
    let is = c.in-Some.ensures.some in
    let left : IsLeft c.args.self.now.records c.args.at is.left = subst (λ (s : Kept). IsLeft s.records c.args.at is.left) c.self.view_is is.here in
    let within = left_in_range c.args.self.now b events prepared st c.args.at is.left left c.args.lv c.args.id in
    not_refused (Err OutOfMemory) refl len (length (visible (prepared_entries b events prepared))) (len < c.args.at) (λ e lt. omega (arith, e, lt, within))

pub returns-in_err-at-clause-out_of_range : goal.returns-in_err-at-clause-out_of_range
returns-in_err-at-clause-out_of_range c = λ b events prepared st len.
    let is = c.in-Some.ensures.some in
    let left : IsLeft c.args.self.now.records c.args.at is.left = subst (λ (s : Kept). IsLeft s.records c.args.at is.left) c.self.view_is is.here in
    let within = left_in_range c.args.self.now b events prepared st c.args.at is.left left c.args.lv c.args.id in
    let p = err_from_is_err_and c.from_residual.result c.from_residual.ensures.1 in
    not_refused c.from_residual.result (p.1 ∙ ap Err p.2) len (length (visible (prepared_entries b events prepared))) (len < c.args.at) (λ e lt. omega (arith, e, lt, within))

abbrev left_of : In_ok-at → Left
left_of c = c.in-Some.ensures.some.left

found : (c : In_ok-at) → IsLeft c.args.self.now.records c.args.at (left_of c)
found c = subst (λ (s : Kept). IsLeft s.records c.args.at (left_of c)) c.self.view_is c.in-Some.ensures.some.here

puts : (c : In_ok-at) → let now = c.args.self.now in Puts now c.put.new.self c.args.lv c.args.id (slot_of now.base now.records now.attached (left_of c)) c.in_ok-at.at
puts c =
    let now = c.args.self.now in
    let is = c.in-Some.ensures.some in
    let slot : c.in-Some.slot ≡ slot_of now.base now.records now.attached is.left = is.is ∙ ap (λ (s : Kept). slot_of s.base s.records s.attached is.left) c.self.view_is in
    let same = same_kept c.self.inside.base c.self.inside.targets c.self.inside.lost c.self.inside.tree c.slot_at.new.self c.args.self.now c.slot_at.ensures.same c.self.view_is in
    subst (λ (h : Slot). Puts now c.put.new.self c.args.lv c.args.id h c.in_ok-at.at) slot
    (subst (λ (s : Kept). Puts s c.put.new.self c.args.lv c.args.id c.in-Some.slot c.in_ok-at.at) same c.in_ok-at.ensures.ok)

room : (c : In_ok-at) → (b : ℕ) (events : List (Applied ℕ)) (prepared : List ℕ) → StandsFor c.args.self.now b events prepared → MayInsert events c.args.lv c.args.id → CanInsert b events c.args.lv c.args.id
room c b events prepared st may =
    let same = same_kept c.self.inside.base c.self.inside.targets c.self.inside.lost c.self.inside.tree c.slot_at.new.self c.args.self.now c.slot_at.ensures.same c.self.view_is in
    let still = subst (λ (s : Kept). StandsFor s b events prepared) (sym same) st in
    can_insert b events c.args.lv c.args.id may (sym (c.has_room_for_character.ensures b events prepared still) ∙ c.if-not-has_room_for_character.false)

pub returns-clause-op : goal.returns-clause-op
returns-clause-op c = λ b events prepared st may.
    sym (insertion_done c.args.self.now b events prepared st c.args.at (left_of c) (found c) c.args.lv c.args.id (has_agent c.args.id.agent c.as_slice-agent.ensures.name) (room c b events prepared st may) c.put.new.self c.in_ok-at.at c.args.ch (puts c))

pub returns-clause-ok : goal.returns-clause-ok
returns-clause-ok c = λ b events prepared st may.
    inserted_by_put c.args.self.now b events prepared st c.args.at (left_of c) (found c) c.args.lv c.args.id (has_agent c.args.id.agent c.as_slice-agent.ensures.name) (room c b events prepared st may) c.put.new.self c.in_ok-at.at c.args.ch (puts c)

pub returns-clause-out_of_range : goal.returns-clause-out_of_range
returns-clause-out_of_range c = λ b events prepared st len.
    let within = left_in_range c.args.self.now b events prepared st c.args.at (left_of c) (found c) c.args.lv c.args.id in
    answered (Ins c.in_ok-at.at c.args.ch) len (length (visible (prepared_entries b events prepared))) (len < c.args.at) (λ e lt. omega (arith, e, lt, within))

pub returns-clause-lost : goal.returns-clause-lost
returns-clause-lost c = ap (λ (s : Kept). s.lost) c.in_ok-at.ensures.ok.after ∙ ap (λ (s : Kept). s.lost) c.self.view_is
