-- What each event does to the text of the events before it (Eg-walker, EuroSys 2025, section 3: the operations that a walk
-- hands to the text).
use Rattle.std.specs.Prelude.{ℕ, Bool, List, [], ◌∷◌, Option, Some, None, count_by, position, insert, remove}
use Rattle.ew_model.specs.declared.event.Event.{Event}
use Rattle.ew_model.specs.declared.text_op.TextOp.{TextOp}
use Rattle.ew_model.specs.declared.text_op.TextOp.TheVariants.{Ins, Del, Nothing}
use Rattle.ew_model.specs.Ids.{id_eq}
use Rattle.ew_model.specs.Paths.{path_lt}
use Rattle.ew_model.specs.Entries.{Inserted, Entry, visible}
use Rattle.ew_model.specs.Entries.Entry.{Insertion, Deletion, Mark}
use Rattle.ew_model.specs.Tree.{Applied, Noted, all_entries, next_entry, grow, applied_after}

-- a deletion at the place where the target is seen, or nothing where it isn't
abbrev pub deletion_at : Option ℕ → TextOp
deletion_at None = Nothing
deletion_at (Some at) = Del at

-- what an entry does to a text, by its visible characters; a mark does nothing, and so does an event out of range, which
-- leaves none
abbrev pub operation_of : List Inserted → Option Entry → TextOp
operation_of chars None = Nothing
operation_of chars (Some (Insertion x)) = Ins (count_by (λ y. path_lt y.path x.path) chars) x.ch
operation_of chars (Some (Deletion target)) = deletion_at (position (λ y. id_eq y.id target) chars)
operation_of chars (Some Mark) = Nothing

-- what the next event does to the text of all events before it
unfoldable pub next_operation : {N : Type 0} → (N → N → Bool) → ℕ → List (Noted N) → Applied N → TextOp
next_operation same b notes a = operation_of (visible (all_entries b notes)) (next_entry same b notes a)

-- the operations of events, from a tree on
abbrev pub operations_after : {N : Type 0} → (N → N → Bool) → ℕ → List (Noted N) → List (Applied N) → List TextOp
operations_after same b notes [] = []
operations_after same b notes (a ∷ events) = next_operation same b notes a ∷ operations_after same b (grow same b notes a) events

-- the operations of events over a base of b characters, one for each
unfoldable pub operations_of : {N : Type 0} → (N → N → Bool) → ℕ → List (Applied N) → List TextOp
operations_of same b events = operations_after same b [] events

-- the operation of each event of a history, in order
unfoldable pub operations : List Event → List TextOp
operations history = operations_of id_eq 0 (applied_after [] history)

-- a text after an operation
abbrev pub changed_by : TextOp → List ℕ → List ℕ
changed_by (Ins at ch) text = insert text at ch
changed_by (Del at) text = remove text at
changed_by Nothing text = text

-- a text after operations, one after another
abbrev pub changed_by_all : List TextOp → List ℕ → List ℕ
changed_by_all [] text = text
changed_by_all (op ∷ ops) text = changed_by_all ops (changed_by op text)
