-- The events of a local edit, and why an edit is refused.
use Rattle.std.specs.Prelude.{ℕ, zero, suc, ◌+◌, ◌-◌, Bool, true, false, not, ◌&&◌, List, [], ◌∷◌, ◌++◌, length, filter, find, if◌then◌else◌, nat_lt, count_by, Option, Some, None, ◌==◌}
use Rattle.std.specs.List.{onto_first}
use Rattle.ew_model.specs.declared.id.Id.{Id}
use Rattle.ew_model.specs.declared.event.Op.{Op}
use Rattle.ew_model.specs.declared.event.Op.TheVariants as op
use Rattle.ew_model.specs.declared.event.Event.{Event}
use Rattle.ew_model.specs.Ids.{id_cmp, id_eq, name_eq}
use Rattle.ew_model.specs.Sorting.{sort_by}
use Rattle.ew_model.specs.Ancestors.{ancestors, heads}
use Rattle.ew_model.specs.Limits.{LimitNumbers}
use Rattle.ew_model.specs.Texts.{text_of}
use Rattle.ew_model.specs.Verdicts.{has_number_below}

-- an edit: characters inserted at an index, a number of characters deleted from it on, or a mark with a label
pub data Edit : Type 0 where
  Insert : (at : ℕ) (text : List ℕ) → Edit
  Delete : (at count : ℕ) → Edit
  Mark : (label : List ℕ) → Edit

-- how many events of the agent are held; in a good history this is the number of its next one
abbrev pub count_of : List Event → List ℕ → ℕ
count_of history agent = count_by (λ e. name_eq e.id.agent agent) history

-- events of one agent from a number on, each with the one before as its only parent
abbrev pub chain_of : List ℕ → ℕ → List Id → List Op → List Event
chain_of agent n parents [] = []
chain_of agent n parents (op ∷ ops) =
    let x : Id = record { agent = agent; seq = n } in
    record { id = x; parents = parents; op = op } ∷ chain_of agent (n + 1) (x ∷ []) ops

-- the operations of the characters, one behind the other
abbrev pub insertions_at : ℕ → List ℕ → List Op
insertions_at at [] = []
insertions_at at (ch ∷ text) = op.Ins at ch ∷ insertions_at (at + 1) text

-- the operations that delete so many characters, each at the same index
abbrev pub deletions_at : ℕ → ℕ → List Op
deletions_at at zero = []
deletions_at at (suc n) = op.Del at ∷ deletions_at at n

-- the operations that delete so many characters, each at the index below the one before
abbrev pub back_deletions_at : ℕ → ℕ → List Op
back_deletions_at at zero = []
back_deletions_at at (suc n) = op.Del at ∷ back_deletions_at (at - 1) n

-- the operations of an edit of the text, in order; a mark has none of these
abbrev pub ops_of : Edit → List Op
ops_of (Insert at text) = insertions_at at text
ops_of (Delete at count) = deletions_at at count
ops_of (Mark label) = []

-- the events of operations that an agent does in a row: the first has all heads as parents, ascending
unfoldable pub events_of_ops : List Event → List ℕ → List Op → List Event
events_of_ops history agent ops = chain_of agent (count_of history agent) (sort_by id_cmp (heads history)) ops

-- The head holds the agent's last event: it is among the head's ancestors, itself included. Where the agent has no event
-- each head passes.
abbrev pub knows_agent : List Event → List ℕ → Id → Bool
knows_agent history agent head = has_number_below (ancestors history (head ∷ [])) agent (count_of history agent)

-- the ids with this one, if there is one, in front of the others
abbrev pub with_front : Option Id → List Id → List Id
with_front None ids = ids
with_front (Some x) ids = x ∷ filter (λ y. not (id_eq x y)) ids

-- the heads in the order in which a mark joins them: first the lowest that holds the agent's last event, then the others,
-- ascending
unfoldable pub joining_order : List Event → List ℕ → List Id
joining_order history agent =
    let ids = sort_by id_cmp (heads history) in
    with_front (find (knows_agent history agent) ids) ids

-- the ids in groups, in order: the first has room for so many, each further one for 15
abbrev pub in_groups : ℕ → List Id → List (List Id)
in_groups room [] = [] ∷ []
in_groups zero (x ∷ ids) = [] ∷ onto_first x (in_groups 14 ids)
in_groups (suc room) (x ∷ ids) = onto_first x (in_groups room ids)

-- the groups of heads that the events of a mark join: 16 heads in the first, and then 15 and the event before
abbrev pub joining_groups : List Event → List ℕ → List (List Id)
joining_groups history agent = in_groups 16 (joining_order history agent)

-- events of one agent from a number on, all with the label: each has as parents the event before it and the heads of its
-- group, ascending
abbrev pub joins_of : List ℕ → List ℕ → ℕ → List Id → List (List Id) → List Event
joins_of agent label n before [] = []
joins_of agent label n before (group ∷ groups) =
    let x : Id = record { agent = agent; seq = n } in
    record { id = x; parents = sort_by id_cmp (before ++ group); op = op.Mark label } ∷ joins_of agent label (n + 1) (x ∷ []) groups

-- the events of a mark: they join all heads, so with at most 16 heads there is one
unfoldable pub events_of_mark : List Event → List ℕ → List ℕ → List Event
events_of_mark history agent label = joins_of agent label (count_of history agent) [] (joining_groups history agent)

-- the events of an edit
abbrev pub events_of_edit : List Event → List ℕ → Edit → List Event
events_of_edit history agent (Insert at text) = events_of_ops history agent (ops_of (Insert at text))
events_of_edit history agent (Delete at count) = events_of_ops history agent (ops_of (Delete at count))
events_of_edit history agent (Mark label) = events_of_mark history agent label

-- why an edit is refused: the length of the text, the number of heads, or the number of events held
pub data EditRefusal : Type 0 where
  OutOfRange : (len : ℕ) → EditRefusal
  TooManyHeads : (heads : ℕ) → EditRefusal
  Full : (count : ℕ) → EditRefusal

-- how long the text has to be; a mark needs none of it
abbrev pub needed_length : Edit → ℕ
needed_length (Insert at text) = at
needed_length (Delete at count) = at + count
needed_length (Mark label) = 0

-- the edit needs heads that one event can have as parents; a mark joins them, however many
abbrev pub needs_few_heads : Edit → Bool
needs_few_heads (Insert at text) = true
needs_few_heads (Delete at count) = true
needs_few_heads (Mark label) = false

-- the first reason that holds; the heads and the limit count only where there is something to make
unfoldable pub edit_refusal : LimitNumbers → List Event → List ℕ → Edit → Option EditRefusal
edit_refusal limits history agent edit =
    let made = length (events_of_edit history agent edit) in
    if nat_lt (length (text_of history)) (needed_length edit) then Some (OutOfRange (length (text_of history)))
    else if made == 0 then None
    else if needs_few_heads edit && nat_lt 16 (length (heads history)) then Some (TooManyHeads (length (heads history)))
    else if nat_lt limits.events (length history + made) then Some (Full (length history))
    else None
