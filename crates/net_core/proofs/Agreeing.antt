-- All peers hold equal events where each holds those of the first.
use Rattle.std.proofs.Common.{◌≡◌, ℕ, ◌<◌, Bool, true, false, ◌&&◌, ◌↔◌, IsTrue, inl, inr, ⊎_elim, List, ◌∷◌, length, refl, sym, subst}
use Rattle.std.specs.Bool.{MatchBool}
use Rattle.std.specs.List.{list_all, list_any, AllWithin, HoldsAt}
use Rattle.std.proofs.lemmas.Bool.{and_from, and_parts, false_from_ne_true, false≢true}
use Rattle.std.proofs.lemmas.List.Elements.{recursion_from_All, All-from_all_within}
use Rattle.std.proofs.lemmas.Option.{get_or_from_slice_get}
use Rattle.ew_model.specs.declared.event.Event.{Event}
use Rattle.ew_model.specs.Events.{event_eq}
use Rattle.ew_model.specs.Sets.{Among, SameElements}
use Rattle.ew_model.proofs.ListParts.{element_there}
use Rattle.ew_model.proofs.ListTests.{any_from, passes, pass_all}
use Rattle.ew_model.proofs.MergeSteps.{same_event}
use Rattle.ew_model.proofs.OperationLaws.{got}
use Rattle.ew_model.proofs.SameEvents.{event_among}
use Rattle.ew_model.proofs.SortingLaws.{all_at}
use Rattle.peer_definitions.specs.Machine.{Peer, all_agree, are_held_by}

-- the test of lists is their inclusion
held_by : (xs ys : List Event) → are_held_by xs ys ≡ true → (e : Event) → Among e xs → Among e ys
held_by xs ys h e m = event_among e ys (passes (λ x. list_any (event_eq x) ys) xs e h m)

by_held : (xs ys : List Event) → ((e : Event) → Among e xs → Among e ys) → are_held_by xs ys ≡ true
by_held xs ys h = pass_all (λ x. list_any (event_eq x) ys) xs (λ e m. any_from (event_eq e) ys e (h e m) (same_event e))

-- two peers hold the same events
abbrev pub SameHeld : Peer → Peer → Type 0
SameHeld p q = SameElements p.replica.held q.replica.held

abbrev both_held : Peer → Peer → Bool
both_held p q = are_held_by p.replica.held q.replica.held && are_held_by q.replica.held p.replica.held

both_from : (p q : Peer) → SameHeld p q → both_held p q ≡ true
both_from p q h = and_from _ _ (by_held p.replica.held q.replica.held h.there) (by_held q.replica.held p.replica.held h.back)

from_both : (p q : Peer) → both_held p q ≡ true → SameHeld p q
from_both p q h =
    let parts = and_parts _ _ h in record { there = held_by p.replica.held q.replica.held parts.0; back = held_by q.replica.held p.replica.held parts.1 }

-- where each holds the events of one, all agree
pub agree_by_one : (first : Peer) (peers : List Peer) → ((p : Peer) → Among p peers → SameHeld first p) → all_agree peers ≡ true
agree_by_one first peers h =
    pass_all (λ p. list_all (λ q. both_held p q) peers) peers
    (λ p m. pass_all (λ q. both_held p q) peers
    (λ q n. both_from p q (record { there = λ e k. (h q n).there e ((h p m).back e k); back = λ e k. (h p m).there e ((h q n).back e k) })))

-- and where all agree, they do
pub all_as_one : (peers : List Peer) (p q : Peer) → all_agree peers ≡ true → Among p peers → Among q peers → SameHeld p q
all_as_one peers p q h m n =
    from_both p q (passes (λ x. both_held p x) peers q (passes (λ y. list_all (λ x. both_held y x) peers) peers p h m) n)

-- a test that tells whether something holds
pub match_told : {P : Type 0} (r : Bool) → (IsTrue r ↔ P) → MatchBool r P (P → ⊥)
match_told true h = h.0 refl
match_told false h = λ p. absurd (false≢true (h.1 p))

-- what is told where each of the others is compared with the first
pub told_by_first : (first : Peer) (others : List Peer) (r : Bool)
    → MatchBool r (AllWithin (SameHeld first) others 0 (length others)) ((k : ℕ) × (k < length others) × HoldsAt (λ q. SameHeld first q → ⊥) others k)
    → r ≡ all_agree (first ∷ others)
told_by_first first others true h =
    let each = recursion_from_All (SameHeld first) others (All-from_all_within (SameHeld first) others h) in
    sym (agree_by_one first (first ∷ others) (λ p m. ⊎_elim (λ e. subst (SameHeld first) (sym e) (record { there = λ z k. k; back = λ z k. k }))
    (λ k. all_at (SameHeld first) others p each k) m))
told_by_first first others false h =
    let q = element_there others h.0 h.1 in
    let is = get_or_from_slice_get others h.0 q.0 first q.1 in
    sym (false_from_ne_true (all_agree (first ∷ others)) (λ e.
    h.2 first (subst (SameHeld first) (sym is) (all_as_one (first ∷ others) first q.0 e (inl refl) (inr (got others h.0 q.0 q.1))))))
