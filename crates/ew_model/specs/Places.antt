-- Where a new character goes, and what a deletion targets, over the entries of the event's ancestors (The Art of the
-- Fugue, 2023: the left origin decides, and the right one where the left has a right child already).
use Rattle.std.specs.Prelude.{ℕ, zero, suc, List, [], Option, Some, None, if◌then◌else◌, find, slice_get, option_map}
use Rattle.std.specs.List.{list_any}
use Rattle.ew_model.specs.declared.id.Id.{Id}
use Rattle.ew_model.specs.Paths.{Step, path_lt, is_right_child, step_down}
use Rattle.ew_model.specs.Paths.Side.{Left, Right}
use Rattle.ew_model.specs.Entries.{Inserted, Entry, order, visible}
use Rattle.ew_model.specs.Entries.Entry.{Insertion, Deletion, Mark}

-- the path of the visible character before the index: the root's for 0, none where the index is past the end
abbrev pub path_before : List Inserted → ℕ → Option (List Step)
path_before chars zero = Some []
path_before chars (suc i) = option_map (λ x. x.path) (slice_get chars i)

-- The path of a new left child of the node found. (A node with a right child has one behind it in the walk, so one is
-- always found where this is asked; with none the new node would be a right child of p.)
abbrev pub left_of_or_right_of : Option Inserted → List Step → Id → List Step
left_of_or_right_of (Some next) p x = step_down next.path Left x
left_of_or_right_of None p x = step_down p Right x

-- Where a new node goes whose left origin has path p. With no right child there it is a right child of that one; else it
-- is a left child of the node that follows in the walk, tombstones counted.
abbrev pub new_path : List Inserted → List Step → Id → List Step
new_path walk p x =
    if list_any (λ y. is_right_child p y.path) walk
    then left_of_or_right_of (find (λ y. path_lt p y.path) walk) p x
    else step_down p Right x

-- what is to be done over the entries of some ancestors: a character with this id is inserted, one is deleted, or a mark is left
pub data Act : Type 0 where
  InsertAs : (id : Id) (at ch : ℕ) → Act
  DeleteAt : (at : ℕ) → Act
  MarkAs : Act

-- the entry that an act leaves over the entries of its ancestors; none where its index is out of range
unfoldable pub place : Act → List Entry → Option Entry
place (InsertAs x at ch) entries =
    option_map (λ p. Insertion (record { id = x; path = new_path (order entries) p x; ch = ch })) (path_before (visible entries) at)
place (DeleteAt at) entries = option_map (λ target. Deletion target.id) (slice_get (visible entries) at)
place MarkAs entries = Some Mark
