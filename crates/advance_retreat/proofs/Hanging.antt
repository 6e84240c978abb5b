-- The nodes that a state changes hang in its tree; what a new one hangs on, by the counts of right children.
use Rattle.std.proofs.Common.{◌≡◌, ℕ, ◌≤◌, ◌^◌, ◌||◌, true, nat_lt, Bool, Option, Some, None, IfSome, List, length, drop, slice_get, inl, refl, sym, ap, ◌∙◌, subst, arith}
use Rattle.ew_model.specs.declared.id.Id.{Id}
use Rattle.ew_model.specs.declared.node.Node.{Node}
use Rattle.ew_model.specs.Sets.{Among}
use Rattle.ew_model.specs.Entries.{Inserted, Entry, insertions}
use Rattle.ew_model.specs.Entries.Entry.{Insertion, Deletion, Mark}
use Rattle.ew_model.specs.Tree.{Applied}
use Rattle.ew_model.proofs.SetLaws.{joined_right}
use Rattle.walker_record.specs.Stretches.{Stretch}
use Rattle.fugue_place.specs.declared.child.Attached.{Attached}
use Rattle.fugue_place.specs.Attachments.{is_there}
use Rattle.character_runs.specs.declared.slot.Slot.{Slot}
use Rattle.advance_retreat.specs.Kept.{Kept, target_at}
use Rattle.character_runs.specs.States.{knows}
use Rattle.right_children.specs.Rights.{Counted, AreRights}
use Rattle.character_runs.specs.Spots.{IsVisibleAt, IsSlot, first_known, slot_by}
use Rattle.advance_retreat.specs.Hanging.{has_next_base, has_counted_right, has_known_right}
use Rattle.advance_retreat.specs.Standing.{node_of, kept_record, about, is_applied, StandsFor}
use Rattle.advance_retreat.proofs.CharLaws.{own_char, char_there}
use Rattle.character_runs.proofs.Cuts.{cut_at}
use Rattle.advance_retreat.proofs.Keeping.{notes, rs, all, grown, note_named, records_few}
use Rattle.advance_retreat.proofs.Moving.{found_node}
use Rattle.advance_retreat.proofs.Nodes.{IsOfTree, about_char, char_cases}
use Rattle.right_children.proofs.RightMoves.{known_child}

some_node : (v w : Node) → Some v ≡ Some w → v ≡ w
some_node v w e = cc

module _ (s : Kept) (b : ℕ) (events : List (Applied ℕ)) (prepared : List ℕ) (st : StandsFor s b events prepared) where
  -- so many characters are kept
  pub few_records : length s.records ≤ 2 ^ 25
  few_records = let few = records_few s b events prepared st in omega (arith, few, st.short_base, st.short_history)

  -- what an entry is about
  in_tree : (z : Inserted) → Among z (insertions (all s b events prepared st)) → is_there s.attached (node_of (notes s b events prepared st) z.id) ≡ true
  in_tree z m = char_there s b events prepared st z (char_cases b events (notes s b events prepared st) (grown s b events prepared st) z m)

  about_there : (e : Entry) → IsOfTree b (notes s b events prepared st) e → is_there s.attached (about (notes s b events prepared st) e) ≡ true
  about_there (Insertion y) m = in_tree y m
  about_there (Deletion t) z = ap (λ (x : Id). is_there s.attached (node_of (notes s b events prepared st) x)) (sym z.2) ∙ in_tree z.0 z.1
  about_there Mark m = refl

  -- what an applied event is about
  pub target_there : (lv : ℕ) (v : Node) → target_at s.targets lv ≡ Some v → is_applied events lv → is_there s.attached v ≡ true
  target_there lv v found applied =
      let ns = notes s b events prepared st in
      let n = note_named s b events prepared st lv applied in
      let own : v ≡ about ns n.0.entry = some_node v (about ns n.0.entry) (sym found ∙ found_node s b events prepared st lv applied) in
      ap (is_there s.attached) own ∙ about_there n.0.entry (about_char b events ns (grown s b events prepared st) n.0 n.1)

  -- what is visible
  pub visible_there : (at k : ℕ) (found : IsVisibleAt s.records at k) → is_there s.attached found.0.from ≡ true
  visible_there at k found =
      let ns = notes s b events prepared st in
      let cut = cut_at (kept_record ns) (rs s b events prepared st) k found.0 (ap (λ (ks : List Stretch). slice_get ks k) (sym st.records) ∙ found.1) in
      let among : Among cut.here (rs s b events prepared st) = subst (Among cut.here) (sym cut.whole) (joined_right cut.front _ cut.here (inl refl)) in
      ap (λ (r : Stretch). is_there s.attached r.from) (sym cut.image) ∙ char_there s b events prepared st cut.here.node (own_char s b events prepared st cut.here among)

-- the counts tell which nodes have right children
pub counted_right : (ks : List Stretch) (attached : List Attached) (c : Counted) → AreRights (knows ks) attached c → (b : ℕ) (v : Node) → has_counted_right b c v ≡ has_known_right b ks attached v
counted_right ks attached c rights b v = ap (λ known. has_next_base b v || known) (ap (nat_lt 0) (rights.counts v) ∙ known_child (knows ks) attached v)

-- so by them a new character hangs where it should
pub slot_is : (ks : List Stretch) (attached : List Attached) (c : Counted) → AreRights (knows ks) attached c → (b at : ℕ) (o : Option Slot)
    → IfSome o (IsSlot (has_counted_right b c) ks at) → IfSome o (IsSlot (has_known_right b ks attached) ks at)
slot_is ks attached c rights b at None h = tt
slot_is ks attached c rights b at (Some slot) h = record {
  left = h.left;
  here = h.here;
  is = h.is ∙ ap (λ (known : Bool). slot_by known (first_known (drop h.left.behind ks)) h.left.node) (counted_right ks attached c rights b h.left.node);
}
