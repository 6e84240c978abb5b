-- What a text is to show once events are undone: all that the other events left.
use Rattle.std.specs.Prelude.{ℕ, zero, suc, ◌+◌, Bool, not, ◌&&◌, List, [], ◌∷◌, filter, map}
use Rattle.ew_model.specs.declared.id.Id.{Id}
use Rattle.ew_model.specs.declared.event.Event.{Event}
use Rattle.ew_model.specs.Ids.{is_among}
use Rattle.ew_model.specs.Entries.{Inserted, Entry, is_deleted, order}
use Rattle.ew_model.specs.Texts.{text_chars}
use Rattle.ew_model.specs.Tree.{Noted, all_entries, tree}

-- the ids of so many events of one agent, from a number on
abbrev pub ids_from : List ℕ → ℕ → ℕ → List Id
ids_from agent first zero = []
ids_from agent first (suc n) = record { agent = agent; seq = first } ∷ ids_from agent (first + 1) n

-- all inserted characters of a history, deleted ones too, in the order of the tree
abbrev pub chars_in_order : List Event → List Inserted
chars_in_order history = order (all_entries 0 (tree history))

-- an event of the history deletes the character
abbrev pub is_gone : List Event → Inserted → Bool
is_gone history z = is_deleted (all_entries 0 (tree history)) z.id

-- the entries of the events that aren't undone
abbrev pub left_by_others : List Id → List (Noted Id) → List Entry
left_by_others undone notes = map (λ n. n.entry) (filter (λ n. not (is_among undone n.name)) notes)

-- A character is wanted where its own event isn't undone, and no event deletes it but undone ones.
abbrev pub is_wanted : List Event → List Id → Inserted → Bool
is_wanted history undone z = not (is_among undone z.id) && not (is_deleted (left_by_others undone (tree history)) z.id)

-- the characters that are wanted, in the order of the tree, whether they are shown or not
unfoldable pub wanted : List Event → List Id → List Inserted
wanted history undone = filter (is_wanted history undone) (chars_in_order history)

-- those of them that aren't shown: they have to be put in again
abbrev pub restored : List Event → List Id → List Inserted
restored history undone = filter (is_gone history) (wanted history undone)

-- the characters that are shown and were inserted by undone events: they have to go
abbrev pub taken_out : List Event → List Id → List Inserted
taken_out history undone = filter (λ z. is_among undone z.id) (text_chars history)

-- the events that aren't undone
abbrev pub events_of_others : List Id → List Event → List Event
events_of_others undone history = filter (λ e. not (is_among undone e.id)) history
