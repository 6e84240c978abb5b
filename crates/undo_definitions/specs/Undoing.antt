-- The events that an undo makes, and why an undo is refused. No event is ever taken back: an undo makes new ones, by what is shown.
use Rattle.std.specs.Prelude.{ℕ, ◌+◌, Bool, true, false, not, List, filter_map, find, length, count_by, nat_lt, ◌==◌, if◌then◌else◌, Option, Some, None}
use Rattle.ew_model.specs.declared.id.Id.{Id}
use Rattle.ew_model.specs.declared.event.Op.{Op}
use Rattle.ew_model.specs.declared.event.Op.TheVariants.{Ins, Del}
use Rattle.ew_model.specs.declared.event.Event.{Event}
use Rattle.ew_model.specs.Paths.{path_lt}
use Rattle.ew_model.specs.Entries.{Inserted}
use Rattle.ew_model.specs.Ancestors.{is_held, heads}
use Rattle.ew_model.specs.Limits.{LimitNumbers}
use Rattle.ew_model.specs.Edits.{events_of_ops}
use Rattle.undo_definitions.specs.Wanted.{chars_in_order, is_gone, is_wanted, wanted}

-- What is done about a character at an index: one that is shown and not wanted is deleted, one that is wanted and not shown is
-- inserted, and all others are left.
abbrev pub change_of : (at ch : ℕ) (gone wanted : Bool) → Option Op
change_of at ch false true = None
change_of at ch false false = Some (Del at)
change_of at ch true true = Some (Ins at ch)
change_of at ch true false = None

-- how many of these characters stand before a character: its index where only they are shown
abbrev pub index_among : List Inserted → Inserted → ℕ
index_among chars z = count_by (λ y. path_lt y.path z.path) chars

-- what an undo does about a character of the history
abbrev pub change_about : List Event → List Id → Inserted → Option Op
change_about history undone z = change_of (index_among (wanted history undone) z) z.ch (is_gone history z) (is_wanted history undone z)

-- The operations of an undo: those about all characters, in the order of the tree. Where one is done, all that stands before it is
-- as it is wanted already.
unfoldable pub ops_of_undo : List Event → List Id → List Op
ops_of_undo history undone = filter_map (change_about history undone) (chars_in_order history)

-- the events of an undo by an agent
abbrev pub events_of_undo : List Event → List ℕ → List Id → List Event
events_of_undo history agent undone = events_of_ops history agent (ops_of_undo history undone)

-- why an undo is refused: the first id that no event has, the number of heads, or the number of events held
pub data UndoRefusal : Type 0 where
  NoEvent : (id : Id) → UndoRefusal
  TooManyHeads : (heads : ℕ) → UndoRefusal
  Full : (count : ℕ) → UndoRefusal

-- why events are refused that an undo makes, so many: the heads and the limit count only where there is something to make
abbrev pub making_refusal : LimitNumbers → List Event → ℕ → Option UndoRefusal
making_refusal limits history made =
    if made == 0 then None
    else if nat_lt 16 (length (heads history)) then Some (TooManyHeads (length (heads history)))
    else if nat_lt limits.events (length history + made) then Some (Full (length history))
    else None

-- an id that no event has comes before all else
abbrev pub refusal_behind : Option Id → Option UndoRefusal → Option UndoRefusal
refusal_behind None refusal = refusal
refusal_behind (Some x) refusal = Some (NoEvent x)

-- the first reason that holds
unfoldable pub undo_refusal : LimitNumbers → List Event → List Id → Option UndoRefusal
undo_refusal limits history undone =
    refusal_behind (find (λ x. not (is_held history x)) undone) (making_refusal limits history (length (ops_of_undo history undone)))
