-- Lists of events that others begin with.
use Rattle.std.specs.Prelude.{◌≡◌, false, List, ◌∷◌, ◌++◌, Option, Some, None}
use Rattle.ew_model.specs.declared.event.Event.{Event}
use Rattle.ew_model.specs.Verdicts.{Ruling, graph_verdict, is_verdict_good}

-- the events begin with these
abbrev pub IsFront : List Event → List Event → Type 0
IsFront front events = (later : List Event) × (events ≡ front ++ later)

-- The events begin with these, and go on with one that isn't good by the ids and the parents alone, by this ruling; where
-- there is no ruling these are all.
abbrev pub IsAdmittedFront : List Event → Option Ruling → List Event → Type 0
IsAdmittedFront front None events = events ≡ front
IsAdmittedFront front (Some ruling) events =
    (e : Event) × (later : List Event) × (events ≡ front ++ e ∷ later) × (graph_verdict front e ≡ ruling) × (is_verdict_good ruling ≡ false)
