-- A history seen through its events' positions alone: the list of each event's parents' positions, the oldest event first.
use Rattle.std.specs.Prelude.{ℕ, suc, Bool, not, ◌<◌, ◌≤◌, List, [], ◌∷◌, length, filter, nat_eq, slice_index_or, map}
use Rattle.std.specs.List.{All}
use Rattle.std.specs.List.Sorted.{IsStrictlyIncreasing}
use Rattle.ew_model.specs.declared.id.Id.{Id}
use Rattle.ew_model.specs.declared.event.Event.{Event}
use Rattle.ew_model.specs.Walks.{positions_among}
use Rattle.ew_model.specs.Graph.{is_named, names_known, childless, none_below, is_cut, greatest_to, passing_to}

-- ascending positions below that of the event, at most 16
pub record AreParents (position : ℕ) (parents : List ℕ) : Type 0 where
  pub rising : IsStrictlyIncreasing parents
  pub lower : All (λ p. p < position) parents
  pub few : length parents ≤ 16

-- the parents' positions of the event at a position
abbrev pub parents_at : List (List ℕ) → ℕ → List ℕ
parents_at history position = slice_index_or history position []

-- the parents of each event stand before it
abbrev pub IsHistoryOfParents : List (List ℕ) → Type 0
IsHistoryOfParents history = (j : ℕ) → j < length history → AreParents j (parents_at history j)

-- the event at a position
pub record EventAt : Type 0 where
  pub position : ℕ
  pub parents : List ℕ

-- the events, the first of which has this position
abbrev pub events_from : ℕ → List (List ℕ) → List EventAt
events_from position [] = []
events_from position (parents ∷ later) = record { position = position; parents = parents } ∷ events_from (suc position) later

-- the positions of a version: those named, and all their ancestors, rising
abbrev pub known_positions : List (List ℕ) → List ℕ → List ℕ
known_positions history version = names_known (λ (e : EventAt). e.position) (λ (e : EventAt). e.parents) nat_eq (events_from 0 history) version

-- the position is in the version
abbrev pub is_known_at : List (List ℕ) → List ℕ → ℕ → Bool
is_known_at history version position = is_named nat_eq (known_positions history version) position

-- the positions of the one version that aren't in the other, rising
abbrev pub known_alone : List (List ℕ) → List ℕ → List ℕ → List ℕ
known_alone history one other = filter (λ p. not (is_known_at history other p)) (known_positions history one)

-- the frontier: the positions of the events that have no child, rising
abbrev pub frontier_of : List (List ℕ) → List ℕ
frontier_of history = childless (λ (e : EventAt). e.position) (λ (e : EventAt). e.parents) nat_eq (events_from 0 history)

-- no position is an ancestor of another
unfoldable pub is_reduced_at : List (List ℕ) → List ℕ → Bool
is_reduced_at history positions = none_below (λ (e : EventAt). e.position) (λ (e : EventAt). e.parents) nat_eq (events_from 0 history) positions

-- the cut k is critical: it is at most the number of events, and every event from position k on has all events below k
-- among its ancestors
unfoldable pub is_cut_at : List (List ℕ) → ℕ → Bool
is_cut_at history k = is_cut (λ (e : EventAt). e.position) (λ (e : EventAt). e.parents) nat_eq (events_from 0 history) k

-- the greatest critical cut that is at most m
abbrev pub latest_cut_at : List (List ℕ) → ℕ → ℕ
latest_cut_at history m = greatest_to (is_cut_at history) m

-- all critical cuts, rising
abbrev pub cuts_at : List (List ℕ) → List ℕ
cuts_at history = passing_to (is_cut_at history) (length history)

-- the positions of the events with these ids, rising
abbrev pub positions_in : List Event → List Id → List ℕ
positions_in history ids = positions_among ids 0 history

-- the positions of each event's parents
abbrev pub parent_positions : List Event → List (List ℕ)
parent_positions history = map (λ e. positions_in history e.parents) history
