-- What lets insertions be applied in one go.
use Rattle.std.proofs.Common.{◌≡◌, ℕ, ◌+◌, ◌-◌, ◌<◌, ◌≤◌, ◌^◌, Bool, true, false, None, Some, List, [], length, Option, nat_eq, sym, ap, ◌∙◌, subst, arith}
use Rattle.std.specs.List.{list_any}
use Rattle.ew_model.specs.declared.id.Id.{Id}
use Rattle.ew_model.specs.declared.node.Node.{Node}
use Rattle.ew_model.specs.declared.node.Node.TheVariants.{Event}
use Rattle.ew_model.specs.Entries.Entry.{Insertion}
use Rattle.ew_model.specs.Entries.{Entry}
use Rattle.ew_model.specs.Sets.{Among}
use Rattle.ew_model.specs.Tree.{Applied, entries_over}
use Rattle.ew_model.proofs.OperationLaws.{got}
use Rattle.ew_model.proofs.RecordLaws.{inserted_by}
use Rattle.ew_model.proofs.RunLaws.{Fits}
use Rattle.fugue_place.specs.declared.child.Side.TheVariants.{Left as left, Right as right}
use Rattle.fugue_place.specs.declared.child.Attached.{Attached}
use Rattle.fugue_place.specs.Attachments.{is_there, has_id}
use Rattle.fugue_place.specs.Heirs.{id_on, AreNew}
use Rattle.fugue_place.proofs.ListLaws.{place_of}
use Rattle.fugue_place.proofs.PathLaws.{child_found}
use Rattle.fugue_place.proofs.PlaceLaws.{attached_at}
use Rattle.character_runs.specs.declared.slot.Slot.{Slot}
use Rattle.character_runs.specs.States.{is_of, shown_in}
use Rattle.character_runs.specs.Spots.{slot_by}
use Rattle.advance_retreat.specs.Kept.{Kept, target_at}
use Rattle.advance_retreat.specs.Standing.{most, StandsFor}
use Rattle.advance_retreat.specs.Typing.{MayType}
use Rattle.advance_retreat.proofs.Found.{new_target}
use Rattle.advance_retreat.proofs.Inserting.{unused, unattached, unrecorded}
use Rattle.advance_retreat.proofs.Keeping.{notes, grown, shown_told, records_few}
use Rattle.advance_retreat.proofs.LooseEvents.{long_targets}
use Rattle.advance_retreat.proofs.Nodes.{same_event}
use Rattle.advance_retreat.proofs.Room.{CanInsert}

-- a slot on the right of a node is of that node
pub slot_node : (has : Bool) (next : Option Node) (v w : Node) → slot_by has next v ≡ record { parent = w; side = right } → v ≡ w
slot_node true (Some u) v w e = let no : left ≡ right = ap (λ (h : Slot). h.side) e in absurd cc
slot_node true None v w e = ap (λ (h : Slot). h.parent) e
slot_node false next v w e = ap (λ (h : Slot). h.parent) e

module _ (s : Kept) (b : ℕ) (events : List (Applied ℕ)) (prepared : List ℕ) (st : StandsFor s b events prepared) (x : Id) (position count : ℕ) (may : MayType events x position count) where
  -- the node of the event at the position was inserted under that id
  pub id_of : (a : Attached) → Among a s.attached → a.node ≡ Event position → a.id ≡ x
  id_of a m node =
      let o = st.children.only a m in
      let z = inserted_by a.id o.0.entry o.3 in
      let source = (grown s b events prepared st).sources o.0 o.1 in
      let fits : Fits source.event.act (entries_over nat_eq b (notes s b events prepared st) source.event.over) (Insertion z.0) = subst (λ (e : Entry). Fits source.event.act (entries_over nat_eq b (notes s b events prepared st) source.event.over) e) z.1 source.fits in
      let name : o.0.name ≡ position = same_event o.0.name position (sym o.2 ∙ node) in
      sym z.2 ∙ may.under source.event source.there (source.name ∙ name) z.0.id fits.0

  module _ (there : is_there s.attached (Event position) ≡ true) (room : length s.targets + count ≤ most) (text : shown_in s.records + count ≤ most) where
    many : length s.targets ≡ length events
    many = long_targets s b events prepared st

    pub agent : x.agent ≡ [] → ⊥
    agent none =
        let c = child_found s.attached position there in
        let place = place_of s.attached c.0 c.1 in
        (attached_at [] s.attached st.children.sound place.0 c.0 place.1).agent (ap (λ (y : Id). y.agent) (id_of c.0 c.1 c.2) ∙ none)

    can : (k : ℕ) → k < count → CanInsert b events (position + k + 1) (id_on x (k + 1))
    can k lt = record {
      position = (may.new k lt).position;
      id = (may.new k lt).id;
      room = let all = many in omega (arith, all, room, lt);
      room_in_text = let told = shown_told s b events prepared st in omega (arith, told, text, lt);
    }

    pub all_new : AreNew s.attached position count
    all_new = record {
      nodes = λ k lt. unattached s b events prepared st (position + k + 1) (id_on x (k + 1)) agent (can k lt);
      ids = λ a last node k lt.
          subst (λ (y : Id). has_id s.attached (id_on y (k + 1)) ≡ false) (sym (id_of a (got s.attached (length s.attached - 1) a last) node)) (unused s b events prepared st (position + k + 1) (id_on x (k + 1)) agent (can k lt));
    }

    pub none_recorded : (k : ℕ) → k < count → list_any (is_of (Event (position + k + 1))) s.records ≡ false
    none_recorded k lt = unrecorded s b events prepared st (position + k + 1) (id_on x (k + 1)) agent (can k lt)

    pub none_told : (k : ℕ) → k < count → target_at s.targets (position + k + 1) ≡ None
    none_told k lt = new_target s b events prepared st (position + k + 1) (may.new k lt).position

    pub few : length s.records + count ≤ 2 ^ 25
    few =
        let most_records = records_few s b events prepared st in
        let short = st.short_base in
        let all = many in
        omega (arith, most_records, short, all, room)
