-- What is proved of undoing.
use Rattle.std.specs.Prelude.{◌≡◌, ℕ, ◌+◌, ◌≤◌, true, false, List, [], ◌∷◌, ◌++◌, None, length, map}
use Rattle.ew_model.specs.declared.id.Id.{Id}
use Rattle.ew_model.specs.declared.event.Event.{Event}
use Rattle.ew_model.specs.Sets.{Among, SameElements}
use Rattle.ew_model.specs.Ids.{is_among}
use Rattle.ew_model.specs.Ancestors.{ids_of, is_held}
use Rattle.ew_model.specs.Entries.{Inserted, visible}
use Rattle.ew_model.specs.Limits.{LimitNumbers}
use Rattle.ew_model.specs.Texts.{text_chars, text_of}
use Rattle.ew_model.specs.Tree.{tree}
use Rattle.ew_model.specs.Verdicts.{IsGood}
use Rattle.ew_model.specs.Kept.{IsKept, is_awaited}
use Rattle.ew_model.specs.Edits.{count_of}
use Rattle.undo_definitions.specs.Wanted.{ids_from, is_gone, left_by_others, wanted, restored, taken_out, events_of_others}
use Rattle.undo_definitions.specs.Undoing.{ops_of_undo, events_of_undo, undo_refusal}

-- What is wanted is what would be shown if the undone events had left nothing and all others what they left.
abbrev pub WantedIsLeftByOthers : Type 0
WantedIsLeftByOthers = (history : List Event) (undone : List Id) → IsGood history → wanted history undone ≡ visible (left_by_others undone (tree history))

-- what the events of an undo leave: a good history within the limit, whose text is the wanted characters; one event for each
-- character that goes and for each that is put in again
pub record LeavesWanted (limits : LimitNumbers) (history : List Event) (undone : List Id) (events : List Event) : Type 0 where
  pub good : IsGood (history ++ events)
  pub room : length history ≤ limits.events → length (history ++ events) ≤ limits.events
  pub text : text_of (history ++ events) ≡ map (λ z. z.ch) (wanted history undone)
  pub made : length events ≡ length (taken_out history undone) + length (restored history undone)

-- So does each undo that isn't refused.
abbrev pub UndosLeaveWanted : Type 0
UndosLeaveWanted = (limits : LimitNumbers) (history : List Event) (agent : List ℕ) (undone : List Id) → IsGood history
    → undo_refusal limits history undone ≡ None → LeavesWanted limits history undone (events_of_undo history agent undone)

-- The second character shows the first one after an undo: it is the same letter, it is the character itself where it was shown
-- before, and else a new one.
pub record Shows (history : List Event) (z y : Inserted) : Type 0 where
  pub letter : y.ch ≡ z.ch
  pub itself : is_gone history z ≡ false → y ≡ z
  pub new : is_gone history z ≡ true → is_held history y.id ≡ false

-- the second characters show the first ones, one for one
abbrev pub AreShown : List Event → List Inserted → List Inserted → Type 0
AreShown history [] [] = Unit {0}
AreShown history [] (y ∷ ys) = ⊥
AreShown history (z ∷ zs) [] = ⊥
AreShown history (z ∷ zs) (y ∷ ys) = Shows history z y × AreShown history zs ys

-- After an undo each wanted character is shown at its place, by itself or by a new one, and nothing else is shown.
abbrev pub UndosShowWanted : Type 0
UndosShowWanted = (limits : LimitNumbers) (history : List Event) (agent : List ℕ) (undone : List Id) → IsGood history
    → undo_refusal limits history undone ≡ None → AreShown history (wanted history undone) (text_chars (history ++ events_of_undo history agent undone))

-- the later history shows no character of the undone events, and all those of others that the earlier one shows, as they are
pub record OnlyUndoneGo (earlier later : List Event) (undone : List Id) : Type 0 where
  pub gone : (z : Inserted) → Among z (text_chars later) → is_among undone z.id ≡ false
  pub stay : (z : Inserted) → Among z (text_chars earlier) → is_among undone z.id ≡ false → Among z (text_chars later)

-- An undo takes out the characters of the undone events, and leaves the others' work.
abbrev pub UndosLeaveOthersWork : Type 0
UndosLeaveOthersWork = (limits : LimitNumbers) (history : List Event) (agent : List ℕ) (undone : List Id) → IsGood history
    → undo_refusal limits history undone ≡ None → OnlyUndoneGo history (history ++ events_of_undo history agent undone) undone

-- Where the other events are a good history of their own, an undo leaves the text of that history.
abbrev pub UndosLeaveOthersText : Type 0
UndosLeaveOthersText = (limits : LimitNumbers) (history others : List Event) (agent : List ℕ) (undone : List Id) → IsGood history → IsGood others
    → SameElements others (events_of_others undone history) → undo_refusal limits history undone ≡ None
    → text_of (history ++ events_of_undo history agent undone) ≡ text_of others

-- So an undo of the last events of a history leaves the text from before them.
abbrev pub UndosGoBack : Type 0
UndosGoBack = (limits : LimitNumbers) (before last : List Event) (agent : List ℕ) → IsGood (before ++ last) → undo_refusal limits (before ++ last) (ids_of last) ≡ None
    → text_of ((before ++ last) ++ events_of_undo (before ++ last) agent (ids_of last)) ≡ text_of before

-- And an undo of all that an undo made gives back the text from before the first one, whoever makes it.
abbrev pub UndosAreUndone : Type 0
UndosAreUndone = (limits : LimitNumbers) (history : List Event) (agent other : List ℕ) (undone : List Id) → IsGood history → undo_refusal limits history undone ≡ None
    → let undo = events_of_undo history agent undone in
    let made = ids_from agent (count_of history agent) (length undo) in
    undo_refusal limits (history ++ undo) made ≡ None → text_of ((history ++ undo) ++ events_of_undo (history ++ undo) other made) ≡ text_of history

-- In good histories with the same events an undo wants the same, and makes the same operations.
abbrev pub EqualSetsUndoAlike : Type 0
EqualSetsUndoAlike = (xs ys : List Event) (undone : List Id) → IsGood xs → IsGood ys → SameElements xs ys
    → (wanted xs undone ≡ wanted ys undone) × (ops_of_undo xs undone ≡ ops_of_undo ys undone)

-- A replica keeps what it keeps where an agent undoes for which no waiting event waits.
abbrev pub UndosKeep : Type 0
UndosKeep = (limits : LimitNumbers) (held waiting : List Event) (agent : List ℕ) (undone : List Id) → IsKept limits held waiting → is_awaited held waiting agent ≡ false
    → undo_refusal limits held undone ≡ None → IsKept limits (held ++ events_of_undo held agent undone) waiting
