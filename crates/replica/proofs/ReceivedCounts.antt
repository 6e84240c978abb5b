-- How many steps receiving takes.
use Rattle.std.proofs.Common.{◌≡◌, ℕ, ◌+◌, ◌≤◌, List, None, ap, ◌∙◌, arith}
use Rattle.ew_model.specs.declared.event.Event.{Event}
use Rattle.ew_model.specs.Arrival.{Desk, arrive, desk_of, most_judgements}
use Rattle.ew_model.specs.Kept.{ReplicaState}
use Rattle.ew_model.specs.Rounds.{after_out_of_range, most_touches, round_touches, rounds_touches}
use Rattle.ew_model.specs.TouchLaws.{NoneOutOfRange}
use Rattle.ew_model.specs.Touches.{touches}
use Rattle.replica.specs.declared.took.Took.{Took}
use Rattle.replica.specs.Counting.{Counted}
use Rattle.replica.specs.Desks.{desk_of_replica}
use Rattle.replica.specs.Receiving.{Receives}
use Rattle.replica.proofs.Received.{none_counted}
use Rattle.replica.proofs.RoundCounts.{most_is, one_alone, touches_told}

-- the desk that receiving begins with, known by other names
first_desk : (old : ReplicaState) (given events : List Event) (begun : Counted) → begun ≡ none_counted → given ≡ events → desk_of_replica old given begun ≡ desk_of old.held old.waiting events
first_desk old given events begun b e = ap (λ (c : Counted). desk_of_replica old given c) b ∙ ap (λ (es : List Event). desk_of_replica old es none_counted) e

-- no more than the bound
pub most_taken : (old : ReplicaState) (given events : List Event) (begun : Counted) (was now : ℕ) → begun ≡ none_counted → given ≡ events
    → now ≤ was + rounds_touches old.limits (most_judgements (desk_of_replica old given begun)) (desk_of_replica old given begun) → now ≤ was + most_touches old.limits old.held old.waiting events
most_taken old given events begun was now b e took =
    let same = ap (λ (d : Desk). rounds_touches old.limits (most_judgements d) d) (first_desk old given events begun b e) in
    let bound = most_is old.limits old.held old.waiting events in
    omega (arith, took, same, bound)

-- and just the touches from the cut that is told, where no index is out of range
pub touches_taken : (old new : ReplicaState) (given events : List Event) (begun : Counted) (took : Took) (was now : ℕ) → begun ≡ none_counted → given ≡ events → NoneOutOfRange (arrive old.limits old.held old.waiting events).answers → Receives old events new took
    → (after_out_of_range old.limits (most_judgements (desk_of_replica old given begun)) (desk_of_replica old given begun) ≡ None → now ≡ was + round_touches old.limits (desk_of_replica old given begun))
    → now ≡ was + touches new.held took.cut
touches_taken old new given events begun took was now b e none is counted =
    let same = first_desk old given events begun b e in
    let alone = ap (λ (d : Desk). after_out_of_range old.limits (most_judgements d) d) same ∙ one_alone old.limits old.held old.waiting events none in
    counted alone ∙ ap (λ n. was + n) (ap (round_touches old.limits) same ∙ touches_told old new events took none is)
