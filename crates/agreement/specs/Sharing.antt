-- Events of one history among those of another.
use Rattle.std.specs.Prelude.{◌≡◌, ℕ, ◌+◌, ◌-◌, ◌<◌, ◌≤◌, true, List, map, length, Option, Some, IsSome, slice_get}
use Rattle.ew_model.specs.declared.id.Id.{Id}
use Rattle.ew_model.specs.declared.event.Event.{Event}
use Rattle.ew_model.specs.Ancestors.{ids_of, is_held}
use Rattle.ew_model.specs.declared.text_op.TextOp.{TextOp}
use Rattle.ew_model.specs.declared.text_op.TextOp.TheVariants.{Nothing}
use Rattle.ew_model.specs.Positions.{parent_positions}
use Rattle.ew_model.specs.Sets.{Among}
use Rattle.ew_model.specs.TextLaws.{own_change}
use Rattle.agent_ids.specs.IdRuns.{AreNextFrom}
use Rattle.frontier.specs.Chains.{IsChain}
use Rattle.event_graph.specs.Keeping.{id_of}

-- the event at a position of the one history is among those of the other
abbrev pub IsShared : List Event → ℕ → List Event → Type 0
IsShared history place other = (e : Event) → slice_get history place ≡ Some e → Among e other

-- where the other history holds the id of the event at a position of the one, this event is among its events
abbrev pub Fits : List Event → ℕ → List Event → Type 0
Fits history place other = (e : Event) → slice_get history place ≡ Some e → is_held other e.id ≡ true → Among e other

-- the events at a position of the one history and at a position of the other have the same parents
abbrev pub HaveSameParents : List Event → ℕ → List Event → ℕ → Type 0
HaveSameParents history p other q = (e f : Event) → slice_get history p ≡ Some e → slice_get other q ≡ Some f → e.parents ≡ f.parents

-- the ids of the events at these positions
abbrev pub ids_at : List Event → List ℕ → List Id
ids_at history positions = map (id_of (ids_of history)) positions

-- the events from one position up to another one behind it are among those of the other history
abbrev pub AreSharedTo : List Event → ℕ → ℕ → List Event → Type 0
AreSharedTo history from to other = (from < to) × (to ≤ length history) × ((p : ℕ) → from ≤ p → p < to → IsShared history p other)

-- the events from one position up to another one behind it are among those of the other history, where it holds their ids
abbrev pub FitTo : List Event → ℕ → ℕ → List Event → Type 0
FitTo history from to other = (from < to) × (to ≤ length history) × ((p : ℕ) → from ≤ p → p < to → Fits history p other)

-- both are there, and are one operation, which is an insertion or a deletion
abbrev pub IsSameEdit : Option TextOp → Option TextOp → Type 0
IsSameEdit x y = (x ≡ y) × (x ≡ Some Nothing → ⊥) × IsSome x

-- the first so many operations of both lists are the same insertions and deletions
abbrev pub AreSameEdits : List TextOp → List TextOp → ℕ → Type 0
AreSameEdits xs ys n = (k : ℕ) → k < n → IsSameEdit (slice_get xs k) (slice_get ys k)

-- what each event does to the text at its parents
abbrev pub own_changes : List Event → List TextOp
own_changes history = map (λ (e : Event). own_change e.op) history

-- So many events of the one history from a position on, and as many of the other, have the same edits. In both each behind the first
-- has the next id of its agent, and the event before it as its only parent.
pub record GoOnAlike (history : List Event) (p : ℕ) (other : List Event) (q : ℕ) (n : ℕ) : Type 0 where
  pub some : 0 < n
  pub within : p + n ≤ length history
  pub among : q + n ≤ length other
  pub ids : AreNextFrom (ids_of history) p (n - 1)
  pub other_ids : AreNextFrom (ids_of other) q (n - 1)
  pub chain : IsChain (parent_positions history) p (p + n - 1)
  pub other_chain : IsChain (parent_positions other) q (q + n - 1)
  pub edits : (k : ℕ) → k < n → IsSameEdit (slice_get (own_changes history) (p + k)) (slice_get (own_changes other) (q + k))
