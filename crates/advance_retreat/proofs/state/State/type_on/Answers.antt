use Rattle.std.proofs.Common.{◌≡◌, ℕ, ◌+◌, ◌-◌, ◌<◌, ◌≤◌, ◌^◌, true, false, None, Option, List, [], length, drop, sym, ap, ◌∙◌, subst, arith}
use Rattle.std.specs.List.{list_any}
use Rattle.std.specs.Option.{IfSome, option_map_or}
use Rattle.std.proofs.lemmas.Option.{IfSome_then}
use Rattle.ew_model.specs.declared.id.Id.{Id}
use Rattle.ew_model.specs.declared.node.Node.{Node}
use Rattle.ew_model.specs.declared.node.Node.TheVariants.{Event}
use Rattle.ew_model.specs.Tree.{Applied}
use Rattle.ew_model.proofs.OperationLaws.{got}
use Rattle.fugue_place.specs.declared.child.Attached.{Attached}
use Rattle.fugue_place.specs.Attachments.{node_eq, is_newest, is_there, AreAttached}
use Rattle.fugue_place.specs.Heirs.{AreNew}
use Rattle.fugue_place.proofs.NodeLaws.{node_itself}
use Rattle.character_runs.specs.declared.slot.Slot.{Slot}
use Rattle.character_runs.specs.States.{is_of, shown_in}
use Rattle.character_runs.specs.Spots.{Left, IsLeft, first_known, slot_by}
use Rattle.advance_retreat.specs.Kept.{Kept, target_at}
use Rattle.advance_retreat.specs.Hanging.{slot_of, has_known_right, IsNewest, PutEach}
use Rattle.advance_retreat.specs.Standing.{most, StandsFor}
use Rattle.advance_retreat.specs.Typing.{MayType, TypedEach}
use Rattle.advance_retreat.proofs.Inserting.{slot_fits}
use Rattle.advance_retreat.proofs.SameTrees.{same_kept}
use Rattle.advance_retreat.proofs.TypingOn.{slot_node, id_of, agent, all_new, none_recorded, none_told, few}
use Rattle.advance_retreat.proofs.TypedStates.{typed_by_puts}
use Rattle.advance_retreat.proofs.state.State.type_on.Goals as goal

-- what the state tells of insertions behind an event, where a new node would hang on the right of that one's
module _ (now : Kept) (position count at : ℕ) (b : ℕ) (events : List (Applied ℕ)) (prepared : List ℕ) (x : Id) (st : StandsFor now b events prepared) (may : MayType events x position count)
    (l : Left) (left : IsLeft now.records at l) (slot : slot_of now.base now.records now.attached l ≡ slot_by false None (Event position)) (room : length now.targets + count ≤ most) (text : shown_in now.records + count ≤ most) where
  there : is_there now.attached (Event position) ≡ true
  there = ap (λ (h : Slot). is_there now.attached h.parent) (sym slot) ∙ (slot_fits now b events prepared st at l left 0 x).1.there

  node : l.node ≡ Event position
  node = slot_node (has_known_right now.base now.records now.attached l.node) (first_known (drop l.behind now.records)) l.node (Event position) slot

  news : AreNew now.attached position count
  news = all_new now b events prepared st x position count may there room text

  unrecorded : (k : ℕ) → k < count → list_any (is_of (Event (position + k + 1))) now.records ≡ false
  unrecorded = none_recorded now b events prepared st x position count may there room text

  untold : (k : ℕ) → k < count → target_at now.targets (position + k + 1) ≡ None
  untold = none_told now b events prepared st x position count may there room text

  enough : length now.records + count ≤ 2 ^ 25
  enough = few now b events prepared st x position count may there room text

  newest_is : (y : Id) → IsNewest now.attached position y → (y ≡ x) × (is_newest now.attached (Event position) ≡ true)
  newest_is y newest = (
    sym newest.3 ∙ id_of now b events prepared st x position count may newest.0 (got now.attached (length now.attached - 1) newest.0 newest.1) newest.2,
    ap (λ (o : Option Attached). option_map_or (λ (a : Attached). node_eq a.node (Event position)) o false) newest.1 ∙ ap (λ (v : Node). node_eq v (Event position)) newest.2 ∙ node_itself (Event position),
  )

  typed : (new : Kept) (n : ℕ) → (y : Id) × IsNewest now.attached position y × PutEach now new y position at count n → TypedEach now new x position at count n
  typed new n put =
      let is = newest_is put.0 put.1 in
      typed_by_puts now x (agent now b events prepared st x position count may there room text) position count at n room text l left node is.1 new
      (subst (λ (y : Id). PutEach now new y position at count n) is.0 put.2)

pub put_typed-requires-clause-new : goal.put_typed-requires-clause-new
put_typed-requires-clause-new c =
    let q = c.requires.may in
    let now = c.args.self.now in
    let is = c.in_ok-slot.ensures.some in
    let left : IsLeft now.records c.args.at is.left = subst (λ (s : Kept). IsLeft s.records c.args.at is.left) c.self.view_is is.here in
    let slot : slot_of now.base now.records now.attached is.left ≡ slot_by false None (Event c.args.newest) =
    sym (is.is ∙ ap (λ (s : Kept). slot_of s.base s.records s.attached is.left) c.self.view_is) ∙ c.is_right_of_event.ensures c.if-not-is_right_of_event.false in
    let same = same_kept c.self.inside.base c.self.inside.targets c.self.inside.lost c.self.inside.tree c.slot_at.new.self now c.slot_at.ensures.same c.self.view_is in
    let room = subst (λ (s : Kept). length s.targets + c.args.count ≤ most) same (c.has_room_for.ensures.events c.if-not-has_room_for.false) in
    let text = subst (λ (s : Kept). shown_in s.records + c.args.count ≤ most) same (c.has_room_for.ensures.text c.if-not-has_room_for.false) in
    subst (λ (s : Kept). AreNew s.attached c.args.newest c.args.count) (sym same) (news now c.args.newest c.args.count c.args.at q.0 q.1 q.2 q.3 q.4 q.5 is.left left slot room text)

pub put_typed-requires-clause-unrecorded : goal.put_typed-requires-clause-unrecorded
put_typed-requires-clause-unrecorded c =
    let q = c.requires.may in
    let now = c.args.self.now in
    let is = c.in_ok-slot.ensures.some in
    let left : IsLeft now.records c.args.at is.left = subst (λ (s : Kept). IsLeft s.records c.args.at is.left) c.self.view_is is.here in
    let slot : slot_of now.base now.records now.attached is.left ≡ slot_by false None (Event c.args.newest) =
    sym (is.is ∙ ap (λ (s : Kept). slot_of s.base s.records s.attached is.left) c.self.view_is) ∙ c.is_right_of_event.ensures c.if-not-is_right_of_event.false in
    let same = same_kept c.self.inside.base c.self.inside.targets c.self.inside.lost c.self.inside.tree c.slot_at.new.self now c.slot_at.ensures.same c.self.view_is in
    let room = subst (λ (s : Kept). length s.targets + c.args.count ≤ most) same (c.has_room_for.ensures.events c.if-not-has_room_for.false) in
    let text = subst (λ (s : Kept). shown_in s.records + c.args.count ≤ most) same (c.has_room_for.ensures.text c.if-not-has_room_for.false) in
    subst (λ (s : Kept). (k : ℕ) → k < c.args.count → list_any (is_of (Event (c.args.newest + k + 1))) s.records ≡ false) (sym same) (unrecorded now c.args.newest c.args.count c.args.at q.0 q.1 q.2 q.3 q.4 q.5 is.left left slot room text)

pub put_typed-requires-clause-untold : goal.put_typed-requires-clause-untold
put_typed-requires-clause-untold c =
    let q = c.requires.may in
    let now = c.args.self.now in
    let is = c.in_ok-slot.ensures.some in
    let left : IsLeft now.records c.args.at is.left = subst (λ (s : Kept). IsLeft s.records c.args.at is.left) c.self.view_is is.here in
    let slot : slot_of now.base now.records now.attached is.left ≡ slot_by false None (Event c.args.newest) =
    sym (is.is ∙ ap (λ (s : Kept). slot_of s.base s.records s.attached is.left) c.self.view_is) ∙ c.is_right_of_event.ensures c.if-not-is_right_of_event.false in
    let same = same_kept c.self.inside.base c.self.inside.targets c.self.inside.lost c.self.inside.tree c.slot_at.new.self now c.slot_at.ensures.same c.self.view_is in
    let room = subst (λ (s : Kept). length s.targets + c.args.count ≤ most) same (c.has_room_for.ensures.events c.if-not-has_room_for.false) in
    let text = subst (λ (s : Kept). shown_in s.records + c.args.count ≤ most) same (c.has_room_for.ensures.text c.if-not-has_room_for.false) in
    subst (λ (s : Kept). (k : ℕ) → k < c.args.count → target_at s.targets (c.args.newest + k + 1) ≡ None) (sym same) (untold now c.args.newest c.args.count c.args.at q.0 q.1 q.2 q.3 q.4 q.5 is.left left slot room text)

pub put_typed-requires-clause-room : goal.put_typed-requires-clause-room
put_typed-requires-clause-room c =
    let q = c.requires.may in
    let now = c.args.self.now in
    let is = c.in_ok-slot.ensures.some in
    let left : IsLeft now.records c.args.at is.left = subst (λ (s : Kept). IsLeft s.records c.args.at is.left) c.self.view_is is.here in
    let slot : slot_of now.base now.records now.attached is.left ≡ slot_by false None (Event c.args.newest) =
    sym (is.is ∙ ap (λ (s : Kept). slot_of s.base s.records s.attached is.left) c.self.view_is) ∙ c.is_right_of_event.ensures c.if-not-is_right_of_event.false in
    let same = same_kept c.self.inside.base c.self.inside.targets c.self.inside.lost c.self.inside.tree c.slot_at.new.self now c.slot_at.ensures.same c.self.view_is in
    let room = subst (λ (s : Kept). length s.targets + c.args.count ≤ most) same (c.has_room_for.ensures.events c.if-not-has_room_for.false) in
    let text = subst (λ (s : Kept). shown_in s.records + c.args.count ≤ most) same (c.has_room_for.ensures.text c.if-not-has_room_for.false) in
    subst (λ (s : Kept). length s.records + c.args.count ≤ 2 ^ 25) (sym same) (enough now c.args.newest c.args.count c.args.at q.0 q.1 q.2 q.3 q.4 q.5 is.left left slot room text)

pub put_typed-requires-clause-sound : goal.put_typed-requires-clause-sound
put_typed-requires-clause-sound c =
    let same = same_kept c.self.inside.base c.self.inside.targets c.self.inside.lost c.self.inside.tree c.slot_at.new.self c.args.self.now c.slot_at.ensures.same c.self.view_is in
    subst (λ (s : Kept). AreAttached [] s.attached) (sym same) c.requires.may.4.children.sound

pub returns-clause-typed : goal.returns-clause-typed
returns-clause-typed c = λ b events prepared x st may.
    let now = c.args.self.now in
    let is = c.in_ok-slot.ensures.some in
    let left : IsLeft now.records c.args.at is.left = subst (λ (s : Kept). IsLeft s.records c.args.at is.left) c.self.view_is is.here in
    let slot : slot_of now.base now.records now.attached is.left ≡ slot_by false None (Event c.args.newest) =
    sym (is.is ∙ ap (λ (s : Kept). slot_of s.base s.records s.attached is.left) c.self.view_is) ∙ c.is_right_of_event.ensures c.if-not-is_right_of_event.false in
    let same = same_kept c.self.inside.base c.self.inside.targets c.self.inside.lost c.self.inside.tree c.slot_at.new.self now c.slot_at.ensures.same c.self.view_is in
    let room = subst (λ (s : Kept). length s.targets + c.args.count ≤ most) same (c.has_room_for.ensures.events c.if-not-has_room_for.false) in
    let text = subst (λ (s : Kept). shown_in s.records + c.args.count ≤ most) same (c.has_room_for.ensures.text c.if-not-has_room_for.false) in
    let put = subst (λ (s : Kept). IfSome c.put_typed.result (λ n. (y : Id) × IsNewest s.attached c.args.newest y × PutEach s c.put_typed.new.self y c.args.newest c.args.at c.args.count n)) same c.put_typed.ensures.some in
    IfSome_then c.put_typed.result put (typed now c.args.newest c.args.count c.args.at b events prepared x st may is.left left slot room text c.put_typed.new.self)

pub returns-clause-few : goal.returns-clause-few
returns-clause-few c =
    let room = c.has_room_for.ensures.events c.if-not-has_room_for.false in
    IfSome_then c.put_typed.result c.put_typed.ensures.few (λ (n : ℕ) (low : n ≤ 2 ^ 25). let few : n + c.args.count < 2 ^ 32 = omega (arith, low, room) in few)
