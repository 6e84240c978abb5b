-- Where a new character goes, by what is kept.
use Rattle.std.specs.Prelude.{◌≡◌, ℕ, zero, suc, ◌+◌, ◌≤◌, Bool, true, false, ◌⊎◌, List, length, take, drop, find, insert, Option, Some, None, option_map, slice_get}
use Rattle.std.specs.List.{list_any}
use Rattle.ew_model.specs.declared.node.Node.{Node}
use Rattle.ew_model.specs.declared.node.Node.TheVariants.{Root, Event}
use Rattle.walker_record.specs.Stretches.{Stretch}
use Rattle.fugue_place.specs.declared.child.Side.TheVariants.{Left as left, Right as right}
use Rattle.fugue_place.specs.declared.neighbour.Place.{Place}
use Rattle.fugue_place.specs.declared.neighbour.Place.TheVariants.{After, Before}
use Rattle.character_runs.specs.declared.characters.Deletion.{Deletion}
use Rattle.character_runs.specs.declared.slot.Slot.{Slot}
use Rattle.character_runs.specs.States.{is_inserted, is_of, visible_in, shown_in, single, deletion_by}

-- the visible character with this index stands at the place k
abbrev pub IsVisibleAt : List Stretch → ℕ → ℕ → Type 0
IsVisibleAt rs at k = (r : Stretch) × (slice_get rs k ≡ Some r) × (r.prepared ≡ 1) × (visible_in (take k rs) ≡ at)

-- a node, and the place right behind its record
pub record Left : Type 0 where
  pub node : Node
  pub behind : ℕ

-- the root before index 0, else the visible character before the index
abbrev pub IsLeft : List Stretch → ℕ → Left → Type 0
IsLeft rs at l =
    ((at ≡ 0) × (l.node ≡ Root) × (l.behind ≡ 0))
    ⊎ ((k : ℕ) × (r : Stretch) × (slice_get rs k ≡ Some r) × (r.prepared ≡ 1) × (at ≡ suc (visible_in (take k rs))) × (l.node ≡ r.from) × (l.behind ≡ suc k))

-- the node of the first record that is inserted in what is prepared
abbrev pub first_known : List Stretch → Option Node
first_known rs = option_map (λ (r : Stretch). r.from) (find is_inserted rs)

-- the deletion of the visible character with this index, and what it does to the text
pub record IsDeletion (rs : List Stretch) (at : ℕ) (deletion : Deletion) : Type 0 where
  pub place : ℕ
  pub here : IsVisibleAt rs at place
  pub node : deletion.node ≡ here.0.from
  pub does : deletion.op ≡ deletion_by here.0.effect (shown_in (take place rs))

-- the node that the new one hangs on, by whether the left one has a right child, and what follows that
abbrev pub slot_by : Bool → Option Node → Node → Slot
slot_by true (Some next) v = record { parent = next; side = left }
slot_by true None v = record { parent = v; side = right }
slot_by false next v = record { parent = v; side = right }

-- what a new node hangs on at the index, where this tells which nodes have right children
pub record IsSlot (has_right : Node → Bool) (rs : List Stretch) (at : ℕ) (slot : Slot) : Type 0 where
  pub left : Left
  pub here : IsLeft rs at left
  pub is : slot ≡ slot_by (has_right left.node) (first_known (drop left.behind rs)) left.node

-- the place of a node, and 0 where none is of it
abbrev pub IsPlaceOf : List Stretch → Node → (ℕ → ℕ) → ℕ → Type 0
IsPlaceOf rs v f i =
    ((k : ℕ) × (r : Stretch) × (slice_get rs k ≡ Some r) × (r.from ≡ v) × (i ≡ f k))
    ⊎ ((list_any (is_of v) rs ≡ false) × (i ≡ 0))

-- the place of a new record
abbrev pub IsIndex : List Stretch → Place → ℕ → Type 0
IsIndex rs (After v) i = IsPlaceOf rs v suc i
IsIndex rs (Before v) i = IsPlaceOf rs v (λ k. k) i

-- the record of an event's new character came to the place, and so many characters of the text stand before it
pub record Comes (old new : List Stretch) (place : Place) (position n : ℕ) : Type 0 where
  pub index : ℕ
  pub here : IsIndex old place index
  pub within : index ≤ length old
  pub before : n ≡ shown_in (take index old)
  pub after : new ≡ insert old index (single (Event position) 1 true)

-- so it came right behind that of a node, and behind so many visible characters of what is prepared
abbrev pub ComesBehind : List Stretch → List Stretch → Node → ℕ → ℕ → ℕ → Type 0
ComesBehind old new v position seen n = (came : Comes old new (After v) position n) × (visible_in (take came.index old) ≡ seen)

-- The characters of so many events behind the one at a position came one after another, each right behind that of the event before it. The first came behind so many visible characters of what is prepared, and so many of the text.
abbrev pub ComeEach : List Stretch → List Stretch → ℕ → ℕ → ℕ → ℕ → Type 0
ComeEach old new position seen zero n = new ≡ old
ComeEach old new position seen (suc k) n = (now : List Stretch) × ComeEach old now position seen k n × ComesBehind now new (Event (position + k)) (position + k + 1) (seen + k) (n + k)
