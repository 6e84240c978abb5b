-- The touches of a making add up over its steps.
use Rattle.std.proofs.Common.{◌≡◌, ◌≤◌, ℕ, zero, suc, ◌+◌, ◌-◌, ◌%◌, ◌/◌, List, cond, arith, ap, ◌∙◌, subst, add-one, zero-add}
use Rattle.std.proofs.lemmas.Bool.{eq-eqb, ne_eqb}
use Rattle.ew_model.specs.declared.event.Event.{Event}
use Rattle.ew_model.specs.ArrivalLaw.{NoneReady}
use Rattle.ew_model.specs.Kept.{ReplicaState}
use Rattle.ew_model.specs.Limits.{LimitNumbers}
use Rattle.ew_model.specs.Rounds.{most_touches}
use Rattle.history_laws.specs.Repeats.{without_held}
use Rattle.history_laws.proofs.Repeats.{held_events_change_nothing}
use Rattle.peer_definitions.specs.Making.{Made, drawn_step, gives, peer_at}
use Rattle.peer_definitions.specs.Making.Made.{Going}
use Rattle.peer_definitions.specs.Touches.{end_touches, gift_touches, made_touches, rounding_touches, step_touches, steps_touches, turn_touches}
use Rattle.generator.specs.Owning.{ArePeers}
use Rattle.generator.proofs.Steps.{HaveMade, made_between, made_turn}

-- so many steps have made this, and the touches of walks rose by no more than theirs
pub record HasGone (limits : LimitNumbers) (seed t state : ℕ) (peers : List ReplicaState) (before now : ℕ) : Type 0 where
  pub made : HaveMade limits seed t state peers
  pub most : now ≤ before + steps_touches limits seed t

pub none_gone : (limits : LimitNumbers) (seed state n : ℕ) (peers : List ReplicaState) → HaveMade limits seed 0 state peers → HasGone limits seed 0 state peers n n
none_gone limits seed state n peers made = record { made = made; most = omega arith }

-- what receiving takes, by the events that the taker didn't hold
pub gift_most : (peers : List ReplicaState) (giver taker before now : ℕ) (p : ReplicaState) (events : List Event) → NoneReady (peer_at peers taker).held (peer_at peers taker).waiting → p ≡ peer_at peers taker
    → events ≡ without_held (peer_at peers taker).held (peer_at peers giver).held → now ≤ before + most_touches p.limits p.held p.waiting events → now ≤ before + gift_touches giver taker peers
unfolding gift_touches
gift_most peers giver taker before now p events none is few most =
    let q = peer_at peers taker in
    let same = held_events_change_nothing q.limits q.held q.waiting (peer_at peers giver).held none in
    subst (λ n. now ≤ before + n) ((λ i. most_touches (is i).limits (is i).held (is i).waiting (few i)) ∙ same.touches) most

-- the touches of the step behind these
one_more : (limits : LimitNumbers) (seed t state after : ℕ) (peers next : List ReplicaState) → HaveMade limits seed t state peers → drawn_step (record { state = state; peers = peers }) ≡ Going (record { state = after; peers = next })
    → steps_touches limits seed (t + 1) ≡ steps_touches limits seed t + turn_touches t (Going (record { state = after; peers = next }))
one_more limits seed t state after peers next have step =
    ap (steps_touches limits seed) (add-one t) ∙ ap (λ (m : Made). steps_touches limits seed t + step_touches t m) have.going ∙ ap (λ (m : Made). steps_touches limits seed t + turn_touches t m) step

at_turn : (t state : ℕ) (peers : List ReplicaState) → t % 64 ≡ 63 → turn_touches t (Going (record { state = state; peers = peers })) ≡ gift_touches (t / 64 % 3) ((t / 64 % 3 + 1) % 3) peers
at_turn t state peers turn = ap (λ b. cond b (gift_touches (t / 64 % 3) ((t / 64 % 3 + 1) % 3) peers) 0) (eq-eqb (t % 64) 63 turn)

between : (t state : ℕ) (peers : List ReplicaState) → (t % 64 ≡ 63 → ⊥) → turn_touches t (Going (record { state = state; peers = peers })) ≡ 0
between t state peers off = ap (λ b. cond b (gift_touches (t / 64 % 3) ((t / 64 % 3 + 1) % 3) peers) 0) (ne_eqb (t % 64) 63 off)

pub touched_turn : (limits : LimitNumbers) (seed t state after before mid edited now : ℕ) (peers next : List ReplicaState) → HasGone limits seed t state peers before mid
    → drawn_step (record { state = state; peers = peers }) ≡ Going (record { state = after; peers = next }) → edited ≡ mid → t % 64 ≡ 63
    → now ≤ edited + gift_touches (t / 64 % 3) ((t / 64 % 3 + 1) % 3) next → now ≤ before + steps_touches limits seed (t + 1)
touched_turn limits seed t state after before mid edited now peers next have step same turn more =
    let sum : steps_touches limits seed (t + 1) ≡ steps_touches limits seed t + gift_touches (t / 64 % 3) ((t / 64 % 3 + 1) % 3) next =
    one_more limits seed t state after peers next have.made step ∙ ap (λ n. steps_touches limits seed t + n) (at_turn t after next turn) in
    omega (arith, sum, have.most, more, same)

pub gone_turn : (limits : LimitNumbers) (seed t state after before mid edited now : ℕ) (peers next last : List ReplicaState) → HasGone limits seed t state peers before mid
    → drawn_step (record { state = state; peers = peers }) ≡ Going (record { state = after; peers = next }) → edited ≡ mid → t % 64 ≡ 63 → last ≡ gives (t / 64 % 3) ((t / 64 % 3 + 1) % 3) next
    → now ≤ edited + gift_touches (t / 64 % 3) ((t / 64 % 3 + 1) % 3) next → ArePeers last → HasGone limits seed (t + 1) after last before now
gone_turn limits seed t state after before mid edited now peers next last have step same turn given more are = record {
  made = made_turn limits seed t state after peers next last have.made step turn given are;
  most = touched_turn limits seed t state after before mid edited now peers next have step same turn more;
}

pub gone_between : (limits : LimitNumbers) (seed t state after before mid now : ℕ) (peers next : List ReplicaState) → HasGone limits seed t state peers before mid
    → drawn_step (record { state = state; peers = peers }) ≡ Going (record { state = after; peers = next }) → now ≡ mid → (t % 64 ≡ 63 → ⊥) → ArePeers next
    → HasGone limits seed (t + 1) after next before now
gone_between limits seed t state after before mid now peers next have step same off are =
    let sum : steps_touches limits seed (t + 1) ≡ steps_touches limits seed t + 0 =
    one_more limits seed t state after peers next have.made step ∙ ap (λ n. steps_touches limits seed t + n) (between t after next off) in
    record { made = made_between limits seed t state after peers next have.made step off are; most = omega (arith, sum, have.most, same) }

-- further steps take none away
rising : (limits : LimitNumbers) (seed k n : ℕ) → steps_touches limits seed n ≤ steps_touches limits seed (k + n)
rising limits seed zero n = omega (arith, ap (steps_touches limits seed) (zero-add n))
rising limits seed (suc k) n =
    let same : suc (k + n) ≡ suc k + n = omega arith in
    let before = rising limits seed k n in
    subst (λ m. steps_touches limits seed n ≤ steps_touches limits seed m) same (omega (arith, before))

-- a making that ends before its last step
pub touched_early : (limits : LimitNumbers) (seed t count before now : ℕ) → t ≤ count → now ≤ before + steps_touches limits seed t → now ≤ before + made_touches limits seed count
unfolding made_touches
touched_early limits seed t count before now less most =
    let same : (count - t) + t ≡ count = omega (arith, less) in
    let rises = subst (λ m. steps_touches limits seed t ≤ steps_touches limits seed m) same (rising limits seed (count - t) t) in
    omega (arith, most, rises)

-- and one that has come to its end
pub touched_whole : (limits : LimitNumbers) (seed t count state before mid now : ℕ) (peers : List ReplicaState) → t ≡ count → HasGone limits seed t state peers before mid
    → now ≤ mid + rounding_touches peers → now ≤ before + made_touches limits seed count
unfolding made_touches
touched_whole limits seed t count state before mid now peers end gone more =
    let have = subst (λ n. HasGone limits seed n state peers before mid) end gone in
    let same = ap end_touches have.made.going in
    omega (arith, have.most, more, same)
