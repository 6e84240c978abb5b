-- Where a new node goes, by what is kept.
use Rattle.std.specs.Prelude.{◌≡◌, ℕ, zero, suc, ◌+◌, ◌-◌, ◌<◌, ◌≤◌, ◌^◌, nat_lt, Bool, true, false, ◌&&◌, ◌||◌, List, [], ◌∷◌, ◌++◌, length, take, drop, insert, slice_get, Some}
use Rattle.std.specs.List.{list_any}
use Rattle.ew_model.specs.declared.id.Id.{Id}
use Rattle.ew_model.specs.declared.node.Node.{Node}
use Rattle.ew_model.specs.declared.node.Node.TheVariants.{Root, Base, Event}
use Rattle.walker_record.specs.Stretches.{Stretch}
use Rattle.fugue_place.specs.declared.child.Attached.{Attached}
use Rattle.fugue_place.specs.declared.child.Side.TheVariants.{Right as right}
use Rattle.fugue_place.specs.declared.neighbour.Place.{Place}
use Rattle.fugue_place.specs.Attachments.{is_there, is_attached, has_id}
use Rattle.fugue_place.specs.Heirs.{id_on}
use Rattle.fugue_place.specs.Neighbours.{is_child, has_beyond, IsPlaceOfNew}
use Rattle.character_runs.specs.declared.slot.Slot.{Slot}
use Rattle.character_runs.specs.States.{is_of, knows, visible_in, shown_in, single}
use Rattle.character_runs.specs.Spots.{Left, first_known, slot_by, IsIndex}
use Rattle.right_children.specs.declared.rights.Rights.{Rights}
use Rattle.right_children.specs.Rights.{Counted, AreRights, counted, IsWhole}
use Rattle.advance_retreat.specs.Kept.{Kept}

-- the records of characters, the runs that they are kept in, and the children of the tree's nodes
pub record InTree : Type 0 where
  pub records : List Stretch
  pub runs : List Stretch
  pub attached : List Attached

-- the tables tell of the attached children
pub record KeepRights (rs : List Stretch) (attached : List Attached) (r : Rights) : Type 0 where
  pub rights : AreRights (knows rs) attached (counted r)
  pub whole : IsWhole r

-- the next base character is a right child of the node
abbrev pub has_next_base : ℕ → Node → Bool
has_next_base b Root = nat_lt 0 b
has_next_base b (Base i) = nat_lt (suc i) b
has_next_base b (Event n) = false

-- a right child of the node is inserted in what is prepared
abbrev pub has_known_child : List Stretch → List Attached → Node → Bool
has_known_child rs attached v = list_any (λ (a : Attached). is_child v right a && knows rs a.node) attached

abbrev pub has_known_right : ℕ → List Stretch → List Attached → Node → Bool
has_known_right b rs attached v = has_next_base b v || has_known_child rs attached v

abbrev pub slot_of : ℕ → List Stretch → List Attached → Left → Slot
slot_of b rs attached l = slot_by (has_known_right b rs attached l.node) (first_known (drop l.behind rs)) l.node

-- by the counts, a right child of the node is inserted in what is prepared
abbrev pub has_counted_right : ℕ → Counted → Node → Bool
has_counted_right b c v = has_next_base b v || nat_lt 0 (c.count v)

-- what is kept once a new node was attached, with its record at the place
abbrev pub kept_with : Kept → ℕ → ℕ → Id → Slot → Kept
kept_with s i lv x slot = record {
  base = s.base;
  records = insert s.records i (single (Event lv) 1 true);
  attached = s.attached ++ record { parent = slot.parent; side = slot.side; id = x; node = Event lv } ∷ [];
  targets = s.targets ++ record { lv = lv; node = Event lv } ∷ [];
  lost = s.lost;
}

-- a node may be attached there, under the position and the id
pub record MayHang (s : Kept) (lv : ℕ) (x : Id) (slot : Slot) : Type 0 where
  pub parent : is_there s.attached slot.parent ≡ true
  pub unused : has_id s.attached x ≡ false
  pub new : is_attached s.attached (Event lv) ≡ false
  pub unrecorded : list_any (is_of (Event lv)) s.records ≡ false
  pub last : slot.side ≡ right → has_beyond s.attached slot.parent ≡ false
  pub room : length s.records < 2 ^ 25

-- the new node came in beside its neighbour, and so many characters of the text stand before it
pub record Puts (old new : Kept) (lv : ℕ) (x : Id) (slot : Slot) (n : ℕ) : Type 0 where
  pub place : Place
  pub index : ℕ
  pub right : IsPlaceOfNew old.attached slot.parent slot.side x place
  pub here : IsIndex old.records place index
  pub within : index ≤ length old.records
  pub before : n ≡ shown_in (take index old.records)
  pub after : new ≡ kept_with old index lv x slot

-- New nodes of so many events behind the one at a position came one after another, each on the right of that of the event before it, under the next ids of its agent. The first came behind so many visible characters of what is prepared, and so many of the text.
abbrev pub PutEach : Kept → Kept → Id → ℕ → ℕ → ℕ → ℕ → Type 0
PutEach old new x position seen zero n = new ≡ old
PutEach old new x position seen (suc k) n =
    (now : Kept) × PutEach old now x position seen k n
    × ((puts : Puts now new (position + k + 1) (id_on x (k + 1)) (record { parent = Event (position + k); side = right }) (n + k)) × (visible_in (take puts.index now.records) ≡ seen + k))

-- the node that was attached last is that of the event at the position, which inserted it under the id
abbrev pub IsNewest : List Attached → ℕ → Id → Type 0
IsNewest attached position x = (a : Attached) × (slice_get attached (length attached - 1) ≡ Some a) × (a.node ≡ Event position) × (a.id ≡ x)
