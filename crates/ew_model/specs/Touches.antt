-- How many touches a walk needs: an apply, an advance or a retreat of one event is one touch.
use Rattle.std.specs.Prelude.{ℕ, ◌+◌, not, List, [], ◌∷◌, ◌++◌, length, filter, take, drop}
use Rattle.ew_model.specs.declared.id.Id.{Id}
use Rattle.ew_model.specs.declared.event.Event.{Event}
use Rattle.ew_model.specs.Ids.{is_among}
use Rattle.ew_model.specs.Ancestors.{ancestors, ids_of}

-- how many of the ids aren't among the others
abbrev pub number_outside : List Id → List Id → ℕ
number_outside others ids = length (filter (λ x. not (is_among others x)) ids)

-- how many ids are in one of two lists alone (of lists without repeats: of two sets)
abbrev pub difference : List Id → List Id → ℕ
difference xs ys = number_outside ys xs + number_outside xs ys

-- The touches of a walk over the events, from a history and the ids that are prepared: for each event one, and one
-- for each id in which the prepared ids differ from the ancestors of its parents.
abbrev pub touches_after : List Event → List Id → List Event → ℕ
touches_after history prepared [] = 0
touches_after history prepared (e ∷ events) =
    1 + difference prepared (ancestors history e.parents)
    + touches_after (history ++ e ∷ []) (ancestors (history ++ e ∷ []) (e.id ∷ [])) events

-- the touches of a walk from the cut k on, before which all is prepared (where an id stands twice they may be more than
-- the sets tell)
unfoldable pub touches : List Event → ℕ → ℕ
touches history k = touches_after (take k history) (ids_of (take k history)) (drop k history)
