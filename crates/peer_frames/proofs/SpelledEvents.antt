-- Bodies of events alone: what is read is what is spelled there, and the other way round.
use Rattle.std.proofs.Common.{◌≡◌, ℕ, List, [], ◌∷◌, Option, Some, None, sym, ap, ◌∙◌, append-nil}
use Rattle.ew_model.specs.declared.event.Event.{Event}
use Rattle.ew_model.specs.Bytes.{AreBytes}
use Rattle.ew_model.proofs.ListPlaces.{some_is}
use Rattle.peer_definitions.specs.Spelling.{events_body}
use Rattle.peer_definitions.specs.Batches.{IsEventsBody}
use Rattle.peer_frames.specs.Reading.{all_of, all_events}
use Rattle.peer_frames.proofs.Cuts.{none_is}
use Rattle.peer_frames.proofs.Bodies.{events_some, events_back, split_event, joined_event}

whole_some : (r : Option (List Event × List ℕ)) (events : List Event) → all_of r ≡ Some events → r ≡ Some (events, [])
whole_some None events e = absurd cc
whole_some (Some (x, [])) events e = ap (λ y. Some (y, [])) (some_is x events e)
whole_some (Some (x, b ∷ left)) events e = absurd cc

-- the events that are read have this body
pub body_some : (bytes : List ℕ) (events : List Event) → AreBytes bytes → all_of (all_events bytes) ≡ Some events → IsEventsBody bytes events
body_some bytes events fits e =
    let s = events_some bytes (events, []) fits (whole_some (all_events bytes) events e) in
    let parts = split_event events s.each in
    record { sound = parts.0; few = s.few; parents = parts.1; spelled = sym (append-nil (events_body events)) ∙ sym s.takes.parts }

-- the events that have this body are read
pub body_back : (bytes : List ℕ) (events : List Event) → IsEventsBody bytes events → all_of (all_events bytes) ≡ Some events
body_back bytes events h =
    ap (λ bs. all_of (all_events bs)) (sym h.spelled ∙ sym (append-nil (events_body events)))
    ∙ ap all_of (events_back events [] h.few (joined_event events h.sound h.parents))

-- where nothing is read there is no body
pub body_none : (bytes : List ℕ) → all_of (all_events bytes) ≡ None → (events : List Event) → IsEventsBody bytes events → ⊥
body_none bytes none events h = none_is events (sym none ∙ body_back bytes events h)
