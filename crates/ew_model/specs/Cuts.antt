-- Critical cuts: the places of a history behind which every event knows all that stands before (critical versions of
-- Eg-walker, EuroSys 2025, section 3.5).
use Rattle.std.specs.Prelude.{ℕ, Bool, List, length}
use Rattle.std.specs.List.{list_all}
use Rattle.ew_model.specs.declared.id.Id.{Id}
use Rattle.ew_model.specs.declared.event.Event.{Event}
use Rattle.ew_model.specs.Ids.{id_eq, is_among}
use Rattle.ew_model.specs.Graph.{is_cut, greatest_to, passing_to}

-- all the ids are among the others
abbrev pub are_among : List Id → List Id → Bool
are_among others ids = list_all (is_among others) ids

-- the cut k is critical: it is at most the number of events, and every event from position k on has all events below k
-- among its ancestors
unfoldable pub is_critical : List Event → ℕ → Bool
is_critical history k = is_cut (λ e. e.id) (λ e. e.parents) id_eq history k

-- the greatest critical cut that is at most m
abbrev pub latest_cut : List Event → ℕ → ℕ
latest_cut history m = greatest_to (is_critical history) m

-- the critical cuts up to m, rising
abbrev pub cuts_to : List Event → ℕ → List ℕ
cuts_to history m = passing_to (is_critical history) m

-- all critical cuts of a history
abbrev pub cuts_of : List Event → List ℕ
cuts_of history = cuts_to history (length history)
