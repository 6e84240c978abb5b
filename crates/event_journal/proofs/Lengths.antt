-- How long a batch is.
use Rattle.std.proofs.Common.{ℕ, ◌+◌, ◌-◌, ◌*◌, ◌≤◌, List, [], ◌∷◌, ◌++◌, length, flat_map, arith}
use Rattle.std.specs.Prelude.{◌/◌}
use Rattle.std.specs.List.{AllByRecursion}
use Rattle.std.proofs.lemmas.List.{length-append}
use Rattle.std.proofs.Math.Nat.{div-mul-le_self}
use Rattle.ew_model.specs.declared.event.Event.{Event}
use Rattle.ew_model.specs.Bytes.{four_bytes, op_bytes}
use Rattle.ew_model.specs.declared.limits.TheConstants.{COUNT_BYTES, MOST_EVENT_BYTES, MOST_PARENTS}
use Rattle.ew_model.specs.Sound.{IsSound, AreSound}
use Rattle.peer_definitions.specs.Spelling.{id_bytes, event_bytes, events_body}
use Rattle.peer_frames.proofs.ShortNames.{id_short, ids_short, op_short}

event_short : (e : Event) → IsSound e → length e.parents ≤ MOST_PARENTS → length (event_bytes e) ≤ MOST_EVENT_BYTES
event_short e h few =
    let id = id_short e.id h.id in
    let parents = ids_short e.parents h.parents in
    let op = op_short e.op h.op in
    let front = length-append (id_bytes e.id) (length e.parents ∷ flat_map id_bytes e.parents) in
    let whole = length-append (id_bytes e.id ++ length e.parents ∷ flat_map id_bytes e.parents) (op_bytes e.op) in
    omega (arith, id, parents, op, front, whole, few)

events_short : (events : List Event) → AreSound events → AllByRecursion (λ (e : Event). length e.parents ≤ MOST_PARENTS) events → length (flat_map event_bytes events) ≤ MOST_EVENT_BYTES * length events
events_short [] h few = omega arith
events_short (e ∷ events) h few =
    let one = event_short e h.0 few.0 in
    let rest = events_short events h.1 few.1 in
    let both = length-append (event_bytes e) (flat_map event_bytes events) in
    omega (arith, one, rest, both)

pub body_short : (events : List Event) → AreSound events → AllByRecursion (λ (e : Event). length e.parents ≤ MOST_PARENTS) events → length (events_body events) ≤ COUNT_BYTES + MOST_EVENT_BYTES * length events
body_short events h few = omega (arith, events_short events h few, length-append (four_bytes (length events)) (flat_map event_bytes events))

-- so few events have a body that is short enough
pub room_enough : (most : ℕ) (events : List Event) → AreSound events → AllByRecursion (λ (e : Event). length e.parents ≤ MOST_PARENTS) events → COUNT_BYTES + MOST_EVENT_BYTES ≤ most → length events ≤ (most - COUNT_BYTES) / MOST_EVENT_BYTES → length (events_body events) ≤ most
room_enough most events h few least within =
    let room = div-mul-le_self (most - COUNT_BYTES) MOST_EVENT_BYTES in
    omega (arith, body_short events h few, room, within, least)

pub fewer_parents : (events : List Event) → AllByRecursion (λ (e : Event). length e.parents ≤ MOST_PARENTS) events → AllByRecursion (λ (e : Event). length e.parents ≤ 255) events
fewer_parents [] few = tt
fewer_parents (e ∷ events) few = (omega (arith, few.0), fewer_parents events few.1)
