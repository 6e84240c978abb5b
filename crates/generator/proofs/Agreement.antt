-- Replicas hold the same events just where the test of events says so.
use Rattle.std.proofs.Common.{◌≡◌, Bool, true, false, ◌&&◌, IsTrue, ◌↔◌, List, [], ◌∷◌, length, arith, refl}
use Rattle.std.specs.List.{list_any, list_all}
use Rattle.std.proofs.lemmas.Bool.{and_from, and_parts}
use Rattle.ew_model.specs.declared.event.Event.{Event}
use Rattle.ew_model.specs.Events.{event_eq}
use Rattle.ew_model.specs.Sets.{Among, SameElements}
use Rattle.ew_model.proofs.ListTests.{any_from, passes, pass_all, same_truth}
use Rattle.ew_model.proofs.MergeSteps.{same_event}
use Rattle.ew_model.proofs.SameEvents.{event_among}
use Rattle.ew_model.specs.Kept.{ReplicaState}
use Rattle.peer_definitions.specs.Making.{neighbours_agree, peer_at, same_events}

all_there : (xs ys : List Event) → ((z : Event) → Among z xs → Among z ys) → list_all (λ (x : Event). list_any (event_eq x) ys) xs ≡ true
all_there xs ys there = pass_all (λ (x : Event). list_any (event_eq x) ys) xs (λ x m. any_from (event_eq x) ys x (there x m) (same_event x))

there_all : (xs ys : List Event) → list_all (λ (x : Event). list_any (event_eq x) ys) xs ≡ true → (z : Event) → Among z xs → Among z ys
there_all xs ys all z m = event_among z ys (passes (λ (x : Event). list_any (event_eq x) ys) xs z all m)

-- the test tells whether they are the same
pub tells_same : (b : Bool) (xs ys : List Event) → IsTrue b ↔ SameElements xs ys → b ≡ same_events xs ys
unfolding same_events
tells_same b xs ys is =
    same_truth b (same_events xs ys)
    (λ t. let same = is.0 t in and_from _ _ (all_there xs ys same.there) (all_there ys xs same.back))
    (λ t. let both = and_parts _ _ t in is.1 (record { there = there_all xs ys both.0; back = there_all ys xs both.1 }))

and_true : (a b : Bool) → (a && (b && true)) ≡ (a && b)
and_true a true = refl
and_true a false = refl

-- of three, the first two and the last two are looked at
pub agree_of_three : (peers : List ReplicaState) → length peers ≡ 3 → neighbours_agree peers ≡ (same_events (peer_at peers 0).held (peer_at peers 1).held && same_events (peer_at peers 1).held (peer_at peers 2).held)
unfolding peer_at
agree_of_three [] e = absurd (omega (arith, e))
agree_of_three (p ∷ []) e = absurd (omega (arith, e))
agree_of_three (p ∷ q ∷ []) e = absurd (omega (arith, e))
agree_of_three (p ∷ q ∷ r ∷ []) e = and_true (same_events p.held q.held) (same_events q.held r.held)
agree_of_three (p ∷ q ∷ r ∷ s ∷ more) e = absurd (omega (arith, e))
