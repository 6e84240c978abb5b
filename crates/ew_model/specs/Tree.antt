-- The tree that events leave, one after another, each placed over the entries of its ancestors alone (Eg-walker, EuroSys
-- 2025, section 2: an index is meant in the text at the event's parents).
use Rattle.std.specs.Prelude.{ℕ, zero, suc, Bool, List, [], ◌∷◌, ◌++◌, map, Option, Some, None, filter, fold}
use Rattle.std.specs.List.{list_any}
use Rattle.ew_model.specs.declared.id.Id.{Id}
use Rattle.ew_model.specs.declared.event.Op.{Op}
use Rattle.ew_model.specs.declared.event.Op.TheVariants.{Ins, Del, Mark}
use Rattle.ew_model.specs.declared.event.Event.{Event}
use Rattle.ew_model.specs.Ids.{id_eq}
use Rattle.ew_model.specs.Ancestors.{ancestors}
use Rattle.ew_model.specs.Paths.{Step, step_down}
use Rattle.ew_model.specs.Paths.Side.{Right}
use Rattle.ew_model.specs.Entries.{Entry}
use Rattle.ew_model.specs.Entries.Entry.{Insertion}
use Rattle.ew_model.specs.Places.{Act, place}
use Rattle.ew_model.specs.Places.Act.{InsertAs, DeleteAt, MarkAs}

-- The name of the base character n. It has no agent, so it is below every id that an event can have, and is none.
abbrev pub base_id : ℕ → Id
base_id n = record { agent = []; seq = n }

-- the path of the base character n: n + 1 steps to the right
abbrev pub base_path : ℕ → List Step
base_path zero = step_down [] Right (base_id zero)
base_path (suc n) = step_down (base_path n) Right (base_id (suc n))

-- The base: b characters that stand before all events, a chain of right children. What the characters are isn't known.
abbrev pub based : ℕ → List Entry
based zero = []
based (suc n) = based n ++ Insertion (record { id = base_id n; path = base_path n; ch = 0 }) ∷ []

-- An event under a name, with its act and the names of the events that it is applied over. Histories name events by
-- their ids, a walker by their positions.
pub record Applied (N : Type 0) : Type 0 where
  pub name : N
  pub act : Act
  pub over : List N

-- an entry, under the name of its event
pub record Noted (N : Type 0) : Type 0 where
  pub name : N
  pub entry : Entry

-- all entries, those of b base characters first
abbrev pub all_entries : {N : Type 0} → ℕ → List (Noted N) → List Entry
all_entries b notes = based b ++ map (λ n. n.entry) notes

-- the entries of the base and of the events with these names
abbrev pub entries_over : {N : Type 0} → (N → N → Bool) → ℕ → List (Noted N) → List N → List Entry
entries_over same b notes names = all_entries b (filter (λ n. list_any (same n.name) names) notes)

-- what the next event leaves
unfoldable pub next_entry : {N : Type 0} → (N → N → Bool) → ℕ → List (Noted N) → Applied N → Option Entry
next_entry same b notes a = place a.act (entries_over same b notes a.over)

-- an entry with its name, or nothing
abbrev pub noted_as : {N : Type 0} → N → Option Entry → List (Noted N)
noted_as name None = []
noted_as name (Some entry) = record { name = name; entry = entry } ∷ []

-- the tree with one more event
abbrev pub grow : {N : Type 0} → (N → N → Bool) → ℕ → List (Noted N) → Applied N → List (Noted N)
grow same b notes a = notes ++ noted_as a.name (next_entry same b notes a)

-- the entries that events leave over a base, one event after another
unfoldable pub tree_of : {N : Type 0} → (N → N → Bool) → ℕ → List (Applied N) → List (Noted N)
tree_of same b events = fold (grow same b) [] events

-- the operation of the event with this id, as an act
abbrev pub act_by : Id → Op → Act
act_by x (Ins at ch) = InsertAs x at ch
act_by x (Del at) = DeleteAt at
act_by x (Mark label) = MarkAs

-- an event of a history, over its ancestors
abbrev pub applied : List Event → Event → Applied Id
applied history e = record { name = e.id; act = act_by e.id e.op; over = ancestors history e.parents }

-- events that come behind a history, each over its ancestors
abbrev pub applied_after : List Event → List Event → List (Applied Id)
applied_after history [] = []
applied_after history (e ∷ events) = applied history e ∷ applied_after (history ++ e ∷ []) events

-- the tree of a history over a base
unfoldable pub tree_on : ℕ → List Event → List (Noted Id)
tree_on b history = tree_of id_eq b (applied_after [] history)

-- the tree of a history
unfoldable pub tree : List Event → List (Noted Id)
tree history = tree_on 0 history
