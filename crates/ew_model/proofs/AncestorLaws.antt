-- Ancestors in a history that goes on.
use Rattle.std.proofs.Common.{◌≡◌, true, ◌||◌, List, [], ◌∷◌, ◌++◌, ap}
use Rattle.ew_model.specs.declared.id.Id.{Id}
use Rattle.ew_model.specs.declared.event.Event.{Event}
use Rattle.ew_model.specs.Ids.{id_eq, is_among}
use Rattle.ew_model.specs.Ancestors.{ids_of, version_events, ancestors}
use Rattle.ew_model.proofs.GraphVersions.{all_parents, named-append, version-append, AreUnnamed, version_none, version_before, version_of_last}

-- the parents of all the events
abbrev pub parents_of : List Event → List Id
parents_of events = all_parents (λ (e : Event). e.id) (λ (e : Event). e.parents) id_eq events

pub among-append : (xs ys : List Id) (x : Id) → is_among (xs ++ ys) x ≡ (is_among xs x || is_among ys x)
among-append xs ys x = named-append (λ (e : Event). e.id) (λ (e : Event). e.parents) id_eq xs ys x

-- A version of a history in two parts: its events of the second part, and the version of the first part in which
-- these events' parents are named too.
pub version_events-append : (history later : List Event) (named : List Id) → version_events (history ++ later) named ≡ version_events history (named ++ parents_of (version_events later named)) ++ version_events later named
version_events-append history later named = version-append (λ (e : Event). e.id) (λ (e : Event). e.parents) id_eq history later named

-- none of the events has one of the ids
abbrev pub NoneNamed : List Event → List Id → Type 0
NoneNamed events named = AreUnnamed (λ (e : Event). e.id) (λ (e : Event). e.parents) id_eq events named

-- nothing is taken of events that aren't named
pub version_events_none : (events : List Event) (named : List Id) → NoneNamed events named → version_events events named ≡ []
version_events_none events named h = version_none (λ (e : Event). e.id) (λ (e : Event). e.parents) id_eq events named h

-- Events that come later and aren't named change no version.
pub version_events_before : (history later : List Event) (named : List Id) → NoneNamed later named → version_events (history ++ later) named ≡ version_events history named
version_events_before history later named h = version_before (λ (e : Event). e.id) (λ (e : Event). e.parents) id_eq history later named h

pub ancestors_before : (history later : List Event) (named : List Id) → NoneNamed later named → ancestors (history ++ later) named ≡ ancestors history named
ancestors_before history later named h = ap ids_of (version_events_before history later named h)

-- the version of one new event is its parents' version and itself
pub version_events_of_last : (history : List Event) (e : Event) (named : List Id) → is_among named e.id ≡ true → version_events (history ++ e ∷ []) named ≡ version_events history (named ++ e.parents) ++ e ∷ []
version_events_of_last history e named h = version_of_last (λ (e : Event). e.id) (λ (e : Event). e.parents) id_eq history e named h
