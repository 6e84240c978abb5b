-- Ids of one agent that follow on each other, and the event at a position with the one before it.
use Rattle.std.specs.Prelude.{◌≡◌, ℕ, suc, ◌+◌, ◌<◌, List, [], ◌∷◌, Some, slice_get}
use Rattle.ew_model.specs.declared.id.Id.{Id}
use Rattle.ew_model.specs.declared.event.Event.{Event}
use Rattle.ew_model.specs.Ancestors.{ids_of}
use Rattle.history_definitions.specs.Chains.{next_id}

-- the ids from a position up to another are one agent's, with the numbers from the first one's on
abbrev pub GoOnTo : List Id → Id → ℕ → ℕ → Type 0
GoOnTo ids first position end = (k : ℕ) → position + k < end → slice_get ids (position + k) ≡ Some (record { agent = first.agent; seq = first.seq + k })

-- the id at a position is the next one of the agent of the id before it
abbrev pub FollowAt : List Id → ℕ → Type 0
FollowAt ids position = (n : ℕ) × (x : Id) × (position ≡ suc n) × (slice_get ids n ≡ Some x) × (slice_get ids position ≡ Some (next_id x))

-- the event at a position has the one before it as its only parent
abbrev pub StandsOnOne : List Event → ℕ → Type 0
StandsOnOne history position =
    (e : Event) (n : ℕ) (x : Id) → slice_get history position ≡ Some e → position ≡ suc n → slice_get (ids_of history) n ≡ Some x → e.parents ≡ x ∷ []
