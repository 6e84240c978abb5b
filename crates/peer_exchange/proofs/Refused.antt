-- How many refusals there can be.
use Rattle.std.proofs.Common.{ℕ, zero, suc, ◌*◌, ◌<◌, ◌≤◌, ◌^◌, Bool, true, List, [], ◌∷◌, ◌++◌, length, flat_map, Option, Some, None, arith}
use Rattle.std.specs.Option.{option_map, option_to_list}
use Rattle.std.proofs.lemmas.List.{length-append}
use Rattle.ew_model.specs.declared.event.Event.{Event}
use Rattle.ew_model.specs.declared.id.Id.{Id}
use Rattle.ew_model.specs.declared.verdict.Refusal.{Refusal}
use Rattle.ew_model.specs.Arrival.{Answer, Desk, Judgement, judgements, next_judgement, most_judgements, desk_of, arrive}
use Rattle.ew_model.specs.Bytes.{four_bytes, name_bytes, op_bytes}
use Rattle.ew_model.specs.Limits.{LimitNumbers}
use Rattle.ew_model.proofs.RoundLaws.{then}
use Rattle.history_definitions.specs.Tallies.{refusal_in, refused_by, refused_in}
use Rattle.peer_frames.proofs.ShortNames.{four_long}
use Rattle.peer_definitions.specs.Spelling.{id_bytes, event_bytes, events_body}

-- each judgement gives one answer
answers_few : (limits : LimitNumbers) (b : Bool) (n : ℕ) (d : Desk) → length (judgements limits b n d).answers ≤ n
answers_few limits b zero d = omega arith
answers_few limits b (suc n) d = at (next_judgement limits b d) (λ e. answers_few limits b n e)
  where
    at : (j : Option Judgement) → ((e : Desk) → length (judgements limits b n e).answers ≤ n) → length (then limits b n d j).answers ≤ suc n
    at None few = omega arith
    at (Some j) few = let less = few j.desk in omega (arith, less)

-- an answer refuses once at most
refused_once : (a : Answer) → length (refused_by a) ≤ 1
refused_once a = at (refusal_in a.ruling)
  where
    told : Refusal → Id × Refusal
    told reason = (a.event.id, reason)

    at : (r : Option Refusal) → length (option_to_list (option_map told r)) ≤ 1
    at None = omega arith
    at (Some reason) = omega arith

pub refused_each : (answers : List Answer) → length (refused_in answers) ≤ length answers
refused_each [] = omega arith
refused_each (a ∷ answers) =
    let one = refused_once a in
    let rest = refused_each answers in
    let both = length-append (refused_by a) (refused_in answers) in
    omega (arith, one, rest, both)

-- an event has at least the four bytes of its number
four_of : (e : Event) → 4 ≤ length (event_bytes e)
four_of e =
    let front = length-append (id_bytes e.id) (length e.parents ∷ flat_map id_bytes e.parents) in
    let whole = length-append (id_bytes e.id ++ length e.parents ∷ flat_map id_bytes e.parents) (op_bytes e.op) in
    let id = length-append (name_bytes e.id.agent) (four_bytes e.id.seq) in
    omega (arith, front, whole, id, four_long e.id.seq)

bytes_each : (events : List Event) → 4 * length events ≤ length (flat_map event_bytes events)
bytes_each [] = omega arith
bytes_each (e ∷ events) =
    let rest = bytes_each events in
    let both = length-append (event_bytes e) (flat_map event_bytes events) in
    omega (arith, rest, both, four_of e)

-- the events of a frame are fewer than its bytes
events_few : (events : List Event) → length (events_body events) < 2 ^ 32 → 4 * length events < 2 ^ 32
events_few events h =
    let each = bytes_each events in
    let both = length-append (four_bytes (length events)) (flat_map event_bytes events) in
    omega (arith, h, each, both)

-- fewer than a number of 32 bits are refused of the events of a frame and of those that waited
pub refused_few : (limits : LimitNumbers) (held waiting events : List Event) → length waiting ≤ 16777216 → length (events_body events) < 2 ^ 32
    → length (refused_in (arrive limits held waiting events).answers) < 2 ^ 32
unfolding arrive
refused_few limits held waiting events wait body =
    let each = refused_each (arrive limits held waiting events).answers in
    let few = answers_few limits true (most_judgements (desk_of held waiting events)) (desk_of held waiting events) in
    let sent = events_few events body in
    omega (arith, wait, each, few, sent)
