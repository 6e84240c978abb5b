-- What the deletions of a history say of a character where some events are undone.
use Rattle.std.specs.Prelude.{ℕ, Bool, true, false, List, map, slice_get, Option, Some, None}
use Rattle.std.specs.Option.{option_and_then}
use Rattle.ew_model.specs.declared.id.Id.{Id}
use Rattle.ew_model.specs.declared.event.Op.{Op}
use Rattle.ew_model.specs.declared.event.Op.TheVariants.{Ins, Del, Mark}
use Rattle.ew_model.specs.declared.event.Event.{Event}
use Rattle.ew_model.specs.Ancestors.{ids_of}
use Rattle.ew_model.specs.Entries.{is_deleted}
use Rattle.ew_model.specs.Tree.{all_entries, tree}
use Rattle.undo.specs.declared.fate.Fate.{Fate}
use Rattle.undo.specs.declared.fate.Fate.TheVariants.{Shown, Undone, Gone}
use Rattle.undo_definitions.specs.Wanted.{left_by_others}

-- by whether it is deleted at all, and whether an event deletes it that isn't undone
abbrev pub fate_by : (deleted by_others : Bool) → Fate
fate_by deleted true = Gone
fate_by true false = Undone
fate_by false false = Shown

-- the fate of the character that the event with this id inserted
abbrev pub fate_of : List Event → List Id → Id → Fate
fate_of history undone x = fate_by (is_deleted (all_entries 0 (tree history)) x) (is_deleted (left_by_others undone (tree history)) x)

-- the fates under the ids of all events of a history, in order; that of an event that inserts no character is of no use
abbrev pub fates_of : List Event → List Id → List Fate
fates_of history undone = map (fate_of history undone) (ids_of history)

-- a fate with one deletion more, which is undone or not
abbrev pub with_deletion : Fate → Bool → Fate
with_deletion Gone undone = Gone
with_deletion Undone true = Undone
with_deletion Undone false = Gone
with_deletion Shown true = Undone
with_deletion Shown false = Gone

-- the character is deleted
abbrev pub is_deleted_by : Fate → Bool
is_deleted_by Shown = false
is_deleted_by Undone = true
is_deleted_by Gone = true

-- an event deletes it that isn't undone
abbrev pub stays_deleted : Fate → Bool
stays_deleted Shown = false
stays_deleted Undone = false
stays_deleted Gone = true

-- the character that an operation inserts
abbrev pub letter_in : Op → Option ℕ
letter_in (Ins at ch) = Some ch
letter_in (Del at) = None
letter_in (Mark label) = None

-- the character that the event at a position inserts
abbrev pub letter_at : List Event → ℕ → Option ℕ
letter_at history position = option_and_then letter_in (slice_get (map (λ (e : Event). e.op) history) position)
