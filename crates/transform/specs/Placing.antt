-- Where the characters of a history stand in its tree, and which event deletes which of them.
use Rattle.std.specs.Prelude.{◌≡◌, ℕ, List, ◌∷◌, ◌++◌, [], map, filter_map, slice_get, Option, Some, None}
use Rattle.ew_model.specs.declared.id.Id.{Id}
use Rattle.ew_model.specs.declared.event.Event.{Event}
use Rattle.ew_model.specs.Ancestors.{ids_of}
use Rattle.ew_model.specs.Entries.{Inserted, Entry, order}
use Rattle.ew_model.specs.Entries.Entry.{Insertion, Deletion, Mark}
use Rattle.ew_model.specs.Tree.{Noted, all_entries, tree}

-- the ids of all inserted characters, deleted ones too, in the order of the tree
abbrev pub order_ids : List Event → List Id
order_ids history = map (λ (z : Inserted). z.id) (order (all_entries 0 (tree history)))

-- the events at these positions have these ids
abbrev pub AreAt : List Event → List ℕ → List Id → Type 0
AreAt history positions ids = map (slice_get (ids_of history)) positions ≡ map Some ids

-- a deletion's id with that of the character that it deletes
abbrev pub deletion_by : Id → Entry → Option (Id × Id)
deletion_by x (Insertion y) = None
deletion_by x (Deletion target) = Some (x, target)
deletion_by x Mark = None

-- these of all deletions among the entries
abbrev pub deletions_in : List (Noted Id) → List (Id × Id)
deletions_in notes = filter_map (λ (n : Noted Id). deletion_by n.name n.entry) notes

-- the ids of the events at two positions
abbrev pub ids_at : List Event → ℕ × ℕ → Option Id × Option Id
ids_at history pair = (slice_get (ids_of history) pair.0, slice_get (ids_of history) pair.1)

-- the events at these pairs of positions have these ids
abbrev pub ArePairsAt : List Event → List (ℕ × ℕ) → List (Id × Id) → Type 0
ArePairsAt history pairs ids = map (ids_at history) pairs ≡ map (λ (d : Id × Id). (Some d.0, Some d.1)) ids

-- the pairs are the position of each deletion of the history, in order, with that of the insertion whose character it deletes
abbrev pub AreTargets : List Event → List (ℕ × ℕ) → Type 0
AreTargets history pairs = ArePairsAt history pairs (deletions_in (tree history))

-- the pair of a position and another comes behind others, if there is one
abbrev pub with_target : List (ℕ × ℕ) → ℕ → Option ℕ → List (ℕ × ℕ)
with_target pairs n None = pairs
with_target pairs n (Some target) = pairs ++ (n, target) ∷ []
