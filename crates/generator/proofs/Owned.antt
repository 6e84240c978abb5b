-- A peer that is replaced by one that holds more, and knows of no more than was known.
use Rattle.std.proofs.Common.{◌≡◌, ◌≢◌, ℕ, zero, suc, ◌<◌, true, ◌⊎◌, inl, inr, ⊎_elim, List, [], ◌∷◌, length, set, get_or, arith, refl, sym, ap, ◌∙◌, subst}
use Rattle.std.specs.List.{AllByRecursion}
use Rattle.std.proofs.lemmas.List.{get_or_default, get_or-set_same, get_or-set_other, length-set}
use Rattle.ew_model.specs.declared.id.Id.{Id}
use Rattle.ew_model.specs.declared.event.Event.{Event}
use Rattle.ew_model.specs.Ancestors.{is_held}
use Rattle.ew_model.specs.Arrival.{arrive, desk_of, most_judgements}
use Rattle.ew_model.specs.ArrivalLaw.{NoneReady}
use Rattle.ew_model.specs.Kept.{ReplicaState}
use Rattle.ew_model.specs.Limits.{program_limits}
use Rattle.history_definitions.specs.Outcomes.{state_at}
use Rattle.history_laws.specs.Repeats.{without_held}
use Rattle.history_laws.proofs.Repeats.{held_events_change_nothing}
use Rattle.history_laws.proofs.Settling.{none_ready_behind}
use Rattle.peer_definitions.specs.Making.{gives, newcomer, peer_at}
use Rattle.generator.specs.Owning.{ArePeers, HasOwned, IsOwned, NamesOwned}
use Rattle.generator.proofs.Growing.{HoldsMore, judgements_grow}

pub equal_or_not : (m n : ℕ) → (m ≡ n) ⊎ (m ≢ n)
equal_or_not zero zero = inl refl
equal_or_not zero (suc n) = inr (λ e. omega (arith, e))
equal_or_not (suc m) zero = inr (λ e. omega (arith, e))
equal_or_not (suc m) (suc n) = ⊎_elim (λ e. inl (ap suc e)) (λ ne. inr (λ e. ne (omega (arith, e)))) (equal_or_not m n)

pub here : (peers : List ReplicaState) (n : ℕ) (p : ReplicaState) → n < length peers → peer_at (set peers n p) n ≡ p
unfolding peer_at
here peers n p less = get_or-set_same peers n p (newcomer program_limits) less

pub elsewhere : (peers : List ReplicaState) (n m : ℕ) (p : ReplicaState) → m ≢ n → peer_at (set peers n p) m ≡ peer_at peers m
unfolding peer_at
elsewhere peers n m p ne = get_or-set_other peers n m p (newcomer program_limits) ne

pub within : (peers : List ReplicaState) (n : ℕ) → n < 3 → length peers ≡ 3 → n < length peers
within peers n less three = subst (λ k. n < k) (sym three) less

pub owned_more : (peers : List ReplicaState) (n : ℕ) (p : ReplicaState) → n < 3 → length peers ≡ 3 → HoldsMore (peer_at peers n).held p.held → (x : Id) → IsOwned peers x → IsOwned (set peers n p) x
owned_more peers n p less three more x own m small same =
    ⊎_elim
    (λ (e : m ≡ n). subst (λ k. is_held (peer_at (set peers n p) k).held x ≡ true) (sym e)
    (subst (λ (q : ReplicaState). is_held q.held x ≡ true) (sym (here peers n p (within peers n less three)))
    (more x (subst (λ k. is_held (peer_at peers k).held x ≡ true) e (own m small same)))))
    (λ ne. subst (λ (q : ReplicaState). is_held q.held x ≡ true) (sym (elsewhere peers n m p ne)) (own m small same))
    (equal_or_not m n)

all_weaker : {X : Type 0} (P Q : X → Type 0) → ((x : X) → P x → Q x) → (xs : List X) → AllByRecursion P xs → AllByRecursion Q xs
all_weaker P Q f [] a = tt
all_weaker P Q f (x ∷ xs) (p, ps) = (f x p, all_weaker P Q f xs ps)

pub names_more : (peers : List ReplicaState) (n : ℕ) (p : ReplicaState) → n < 3 → length peers ≡ 3 → HoldsMore (peer_at peers n).held p.held → (events : List Event) → AllByRecursion (NamesOwned peers) events → AllByRecursion (NamesOwned (set peers n p)) events
names_more peers n p less three more events a =
    all_weaker (NamesOwned peers) (NamesOwned (set peers n p)) (λ e names. all_weaker (IsOwned peers) (IsOwned (set peers n p)) (owned_more peers n p less three more) (e.id ∷ e.parents) names) events a

-- the peers with one replaced
pub replaced : (peers : List ReplicaState) (n : ℕ) (p : ReplicaState) → n < 3 → ArePeers peers → HoldsMore (peer_at peers n).held p.held → HasOwned (set peers n p) p → ArePeers (set peers n p)
replaced peers n p less are more has = record {
  three = length-set peers n p ∙ are.three;
  own = λ m small. ⊎_elim
      (λ (e : m ≡ n). subst (HasOwned (set peers n p)) (sym (ap (peer_at (set peers n p)) e ∙ here peers n p (within peers n less are.three))) has)
      (λ ne. subst (HasOwned (set peers n p)) (sym (elsewhere peers n m p ne)) (record {
        held = names_more peers n p less are.three more (peer_at peers m).held (are.own m small).held;
        waiting = names_more peers n p less are.three more (peer_at peers m).waiting (are.own m small).waiting;
        settled = (are.own m small).settled;
      }))
      (equal_or_not m n);
}

-- a gift keeps the peers
pub given : (peers : List ReplicaState) (giver taker : ℕ) → giver < 3 → taker < 3 → ArePeers peers → ArePeers (gives giver taker peers)
unfolding gives arrive
given peers giver taker first second are =
    let p = peer_at peers taker in
    let own = are.own taker second in
    let desk = desk_of p.held p.waiting (peer_at peers giver).held in
    let grown = judgements_grow (NamesOwned peers) p.limits (most_judgements desk) desk (record { held = own.held; waiting = own.waiting; coming = (are.own giver first).held }) in
    replaced peers taker _ second are grown.1 (record {
      held = names_more peers taker _ second are.three grown.1 _ grown.0.held;
      waiting = names_more peers taker _ second are.three grown.1 _ grown.0.waiting;
      settled = none_ready_behind p.limits p.held p.waiting (peer_at peers giver).held own.settled;
    })

-- what stands at a peer's place
pub read : (peers : List ReplicaState) (n : ℕ) (q : ReplicaState) → n < 3 → length peers ≡ 3 → q ≡ get_or peers n q → q ≡ peer_at peers n
unfolding peer_at
read peers n q less three is = is ∙ get_or_default peers n q (newcomer program_limits) (within peers n less three)

-- the taker stands for what it comes to by the events that it didn't hold
pub gift : (peers : List ReplicaState) (giver taker : ℕ) (p new : ReplicaState) (events : List Event) → NoneReady (peer_at peers taker).held (peer_at peers taker).waiting → p ≡ peer_at peers taker
    → events ≡ without_held (peer_at peers taker).held (peer_at peers giver).held → new ≡ state_at p.limits (arrive p.limits p.held p.waiting events) → set peers taker new ≡ gives giver taker peers
unfolding gives
gift peers giver taker p new events none is few comes =
    let q = peer_at peers taker in
    let same = held_events_change_nothing q.limits q.held q.waiting (peer_at peers giver).held none in
    ap (set peers taker) comes
    ∙ (λ i. set peers taker (state_at (is i).limits (arrive (is i).limits (is i).held (is i).waiting (few i))))
    ∙ (λ i. set peers taker (record { limits = q.limits; held = same.held i; waiting = same.waits i }))
