-- What events leave in the tree, and which characters of it are visible (The Art of the Fugue, 2023: deleted nodes stay).
use Rattle.std.specs.Prelude.{ℕ, Bool, false, not, List, Option, Some, None, filter, filter_map}
use Rattle.std.specs.declared.cmp.Ordering.{Ordering}
use Rattle.std.specs.List.{list_any}
use Rattle.ew_model.specs.declared.id.Id.{Id}
use Rattle.ew_model.specs.Ids.{id_eq}
use Rattle.ew_model.specs.Sorting.{sort_by}
use Rattle.ew_model.specs.Paths.{Step, path_cmp}

-- an inserted character in the tree: a node
pub record Inserted : Type 0 where
  pub id : Id
  pub path : List Step
  pub ch : ℕ

-- what an event leaves in the tree: a character at its path, that a character is deleted, or a mark, which changes nothing
pub data Entry : Type 0 where
  Insertion : (node : Inserted) → Entry
  Deletion : (target : Id) → Entry
  Mark : Entry

-- the character that an entry inserts
abbrev pub insertion_in : Entry → Option Inserted
insertion_in (Insertion x) = Some x
insertion_in (Deletion target) = None
insertion_in Mark = None

-- the inserted characters among the entries
abbrev pub insertions : List Entry → List Inserted
insertions entries = filter_map insertion_in entries

-- the entry deletes this id
abbrev pub deletes : Id → Entry → Bool
deletes x (Insertion y) = false
deletes x (Deletion target) = id_eq target x
deletes x Mark = false

-- a deletion among the entries targets the id: its node is a tombstone
abbrev pub is_deleted : List Entry → Id → Bool
is_deleted entries x = list_any (deletes x) entries

-- the characters go by their paths
abbrev pub inserted_cmp : Inserted → Inserted → Ordering
inserted_cmp x y = path_cmp x.path y.path

-- all characters in the order of the walk, tombstones too
unfoldable pub order : List Entry → List Inserted
order entries = sort_by inserted_cmp (insertions entries)

-- those of them that no deletion targets
unfoldable pub visible : List Entry → List Inserted
visible entries = filter (λ x. not (is_deleted entries x.id)) (order entries)
