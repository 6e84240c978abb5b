-- What is proved of local edits: the agent's number is free, the events are good, the text changes at the index, and one
-- head is left.
use Rattle.std.specs.Prelude.{◌≡◌, ℕ, ◌+◌, ◌-◌, ◌/◌, ◌≤◌, nat_lt, false, List, [], ◌∷◌, ◌++◌, None, length, take, drop}
use Rattle.ew_model.specs.declared.event.Op.TheVariants as op
use Rattle.ew_model.specs.declared.event.Event.{Event}
use Rattle.ew_model.specs.Ids.{id_cmp}
use Rattle.ew_model.specs.Sorting.{sort_by}
use Rattle.ew_model.specs.Ancestors.{is_held, heads}
use Rattle.ew_model.specs.Limits.{LimitNumbers}
use Rattle.ew_model.specs.Texts.{text_of}
use Rattle.ew_model.specs.Verdicts.{IsGood}
use Rattle.ew_model.specs.Kept.{IsKept, is_awaited}
use Rattle.ew_model.specs.Edits.{Edit, count_of, events_of_mark, events_of_edit, edit_refusal}
use Rattle.ew_model.specs.Edits.Edit.{Insert, Delete, Mark}

-- the events of each agent have the numbers 0, 1, 2, .. in order, so those below its count are held and no others
pub record AgentsCount (history : List Event) : Type 0 where
  pub in_order : (before later : List Event) (e : Event) → history ≡ before ++ e ∷ later → e.id.seq ≡ count_of before e.id.agent
  pub held : (agent : List ℕ) (n : ℕ) → is_held history (record { agent = agent; seq = n }) ≡ nat_lt n (count_of history agent)

-- In a good history the numbers of an agent run on.
abbrev pub NumbersRunOn : Type 0
NumbersRunOn = (history : List Event) → IsGood history → AgentsCount history

-- An edit that isn't refused makes good events, and no more than there is room for.
abbrev pub EditsAreGood : Type 0
EditsAreGood = (limits : LimitNumbers) (history : List Event) (agent : List ℕ) (edit : Edit) → IsGood history → length history ≤ limits.events
    → edit_refusal limits history agent edit ≡ None
    → IsGood (history ++ events_of_edit history agent edit) × (length history + length (events_of_edit history agent edit) ≤ limits.events)

-- A replica keeps what it keeps where an agent edits for which no waiting event waits.
abbrev pub EditsKeep : Type 0
EditsKeep = (limits : LimitNumbers) (held waiting : List Event) (agent : List ℕ) (edit : Edit) → IsKept limits held waiting → is_awaited held waiting agent ≡ false
    → edit_refusal limits held agent edit ≡ None → IsKept limits (held ++ events_of_edit held agent edit) waiting

-- a text with the edit done to it; a mark changes nothing
abbrev pub edited : Edit → List ℕ → List ℕ
edited (Insert at text) t = take at t ++ (text ++ drop at t)
edited (Delete at count) t = take at t ++ drop (at + count) t
edited (Mark label) t = t

-- how many characters an edit inserts or deletes
abbrev pub size_of : Edit → ℕ
size_of (Insert at text) = length text
size_of (Delete at count) = count
size_of (Mark label) = 0

-- how many events an edit makes over a history: one for each character; a mark's first joins 16 heads, each further 15
abbrev pub number_made : List Event → Edit → ℕ
number_made history (Insert at text) = length text
number_made history (Delete at count) = count
number_made history (Mark label) = 1 + (length (heads history) - 2) / 15

-- An edit that isn't refused puts its characters in, or takes them out, at its index, with one event for each; a mark
-- changes no text.
abbrev pub EditsChangeText : Type 0
EditsChangeText = (limits : LimitNumbers) (history : List Event) (agent : List ℕ) (edit : Edit) → IsGood history → edit_refusal limits history agent edit ≡ None
    → (text_of (history ++ events_of_edit history agent edit) ≡ edited edit (text_of history)) × (length (events_of_edit history agent edit) ≡ number_made history edit)

-- Over at most 16 heads a mark is one event, on all of them in order.
abbrev pub MarksJoinHeads : Type 0
MarksJoinHeads = (history : List Event) (agent label : List ℕ) → IsGood history → length (heads history) ≤ 16
    → events_of_mark history agent label ≡ record { id = record { agent = agent; seq = count_of history agent }; parents = sort_by id_cmp (heads history); op = op.Mark label } ∷ []

-- After an edit that makes an event, the last one made is the only head.
abbrev pub HeadsAfterEdit : Type 0
HeadsAfterEdit = (limits : LimitNumbers) (history : List Event) (agent : List ℕ) (edit : Edit) → IsGood history → edit_refusal limits history agent edit ≡ None
    → (front : List Event) (last : Event) → events_of_edit history agent edit ≡ front ++ last ∷ []
    → heads (history ++ events_of_edit history agent edit) ≡ last.id ∷ []
