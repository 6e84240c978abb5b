-- The steps of a making, one after another.
use Rattle.std.proofs.Common.{◌≡◌, ℕ, zero, suc, ◌+◌, ◌-◌, ◌<◌, ◌%◌, ◌/◌, [], ◌∷◌, List, cond, arith, refl, sym, ap, ◌∙◌, subst, add-one, zero-add}
use Rattle.std.proofs.lemmas.Bool.{eq-eqb, ne_eqb}
use Rattle.ew_model.specs.Edits.{EditRefusal}
use Rattle.ew_model.specs.Kept.{ReplicaState}
use Rattle.ew_model.specs.Limits.{LimitNumbers}
use Rattle.replica.specs.declared.fault.EditFault.{EditFault}
use Rattle.replica.specs.declared.fault.EditFault.TheVariants as fault
use Rattle.generator.specs.Answers.{TellsStop}
use Rattle.peer_definitions.specs.Making.{Made, Making, after_step, drawn_step, gives, made, made_steps, newcomer, next_step, peer_at, rounded_off, rounded_peers}
use Rattle.peer_definitions.specs.Making.Made.{Going, Stopped}
use Rattle.generator.specs.Owning.{ArePeers, HasOwned}
use Rattle.generator.proofs.Editing.{no_memory}

-- what so many steps have made
pub record HaveMade (limits : LimitNumbers) (seed t state : ℕ) (peers : List ReplicaState) : Type 0 where
  pub going : made_steps limits seed t ≡ Going (record { state = state; peers = peers })
  pub are : ArePeers peers

abbrev newcomers : LimitNumbers → List ReplicaState
newcomers limits = newcomer limits ∷ newcomer limits ∷ newcomer limits ∷ []

none_known : (limits : LimitNumbers) (n : ℕ) → n < 3 → HasOwned (newcomers limits) (peer_at (newcomers limits) n)
unfolding peer_at
none_known limits zero h = record { held = tt; waiting = tt; settled = tt }
none_known limits (suc zero) h = record { held = tt; waiting = tt; settled = tt }
none_known limits (suc (suc zero)) h = record { held = tt; waiting = tt; settled = tt }
none_known limits (suc (suc (suc n))) h = absurd (omega (arith, h))

pub none_made : (limits : LimitNumbers) (seed : ℕ) (peers : List ReplicaState) → peers ≡ newcomers limits → HaveMade limits seed 0 seed peers
none_made limits seed peers new =
    record { going = λ i. Going (record { state = seed; peers = sym new i }); are = subst ArePeers (sym new) (record { three = refl; own = none_known limits }) }

-- the step behind these
one_more : (limits : LimitNumbers) (seed t state after : ℕ) (peers next : List ReplicaState) → HaveMade limits seed t state peers → drawn_step (record { state = state; peers = peers }) ≡ Going (record { state = after; peers = next })
    → made_steps limits seed (suc t) ≡ after_step t (Going (record { state = after; peers = next }))
one_more limits seed t state after peers next have step = ap (next_step t) have.going ∙ ap (after_step t) step

at_turn : (t state : ℕ) (peers : List ReplicaState) → t % 64 ≡ 63 → after_step t (Going (record { state = state; peers = peers })) ≡ Going (record { state = state; peers = gives (t / 64 % 3) ((t / 64 % 3 + 1) % 3) peers })
at_turn t state peers turn =
    ap (λ b. cond b (Going (record { state = state; peers = gives (t / 64 % 3) ((t / 64 % 3 + 1) % 3) peers })) (Going (record { state = state; peers = peers }))) (eq-eqb (t % 64) 63 turn)

between : (t state : ℕ) (peers : List ReplicaState) → (t % 64 ≡ 63 → ⊥) → after_step t (Going (record { state = state; peers = peers })) ≡ Going (record { state = state; peers = peers })
between t state peers off =
    ap (λ b. cond b (Going (record { state = state; peers = gives (t / 64 % 3) ((t / 64 % 3 + 1) % 3) peers })) (Going (record { state = state; peers = peers }))) (ne_eqb (t % 64) 63 off)

pub made_turn : (limits : LimitNumbers) (seed t state after : ℕ) (peers next last : List ReplicaState) → HaveMade limits seed t state peers → drawn_step (record { state = state; peers = peers }) ≡ Going (record { state = after; peers = next })
    → t % 64 ≡ 63 → last ≡ gives (t / 64 % 3) ((t / 64 % 3 + 1) % 3) next → ArePeers last → HaveMade limits seed (t + 1) after last
made_turn limits seed t state after peers next last have step turn given are =
    record {
      going = ap (made_steps limits seed) (add-one t) ∙ one_more limits seed t state after peers next have step ∙ at_turn t after next turn ∙ (λ i. Going (record { state = after; peers = sym given i }));
      are = are;
    }

pub made_between : (limits : LimitNumbers) (seed t state after : ℕ) (peers next : List ReplicaState) → HaveMade limits seed t state peers → drawn_step (record { state = state; peers = peers }) ≡ Going (record { state = after; peers = next })
    → (t % 64 ≡ 63 → ⊥) → ArePeers next → HaveMade limits seed (t + 1) after next
made_between limits seed t state after peers next have step off are =
    record { going = ap (made_steps limits seed) (add-one t) ∙ one_more limits seed t state after peers next have step ∙ between t after next off; are = are }

-- a stop stays
stays : (limits : LimitNumbers) (seed k n m : ℕ) (why : EditRefusal) → m ≡ k + n → made_steps limits seed n ≡ Stopped why → made_steps limits seed m ≡ Stopped why
stays limits seed zero n m why sum stopped = ap (made_steps limits seed) (sum ∙ zero-add n) ∙ stopped
stays limits seed (suc k) n m why sum stopped =
    let same : m ≡ suc (k + n) = omega (arith, sum) in
    ap (made_steps limits seed) same ∙ ap (next_step (k + n)) (stays limits seed k n (k + n) why refl stopped)

told_of_going : (limits : LimitNumbers) (seed count : ℕ) (m : Making) (f : EditFault) → TellsStop (Going m) f → TellsStop (made limits seed count) f
told_of_going limits seed count m fault.OutOfMemory h = no_memory (made limits seed count)
told_of_going limits seed count m (fault.OutOfRange len) h = absurd h
told_of_going limits seed count m (fault.TooManyHeads heads) h = absurd h
told_of_going limits seed count m (fault.Full n) h = absurd h

pub made_stops : (limits : LimitNumbers) (seed t count state : ℕ) (peers : List ReplicaState) (f : EditFault) → HaveMade limits seed t state peers → t < count → TellsStop (drawn_step (record { state = state; peers = peers })) f
    → TellsStop (made limits seed count) f
unfolding made
made_stops limits seed t count state peers f have less told = at (drawn_step (record { state = state; peers = peers })) refl told
  where
    at : (m : Made) → drawn_step (record { state = state; peers = peers }) ≡ m → TellsStop m f → TellsStop (made limits seed count) f
    at (Going m) is h = told_of_going limits seed count m f h
    at (Stopped why) is h =
        let next : made_steps limits seed (suc t) ≡ Stopped why = ap (next_step t) have.going ∙ ap (after_step t) is in
        let last : made_steps limits seed count ≡ Stopped why = stays limits seed (count - suc t) (suc t) count why (omega (arith, less)) next in
        subst (λ (m : Made). TellsStop m f) (sym (ap rounded_off last)) h

pub made_whole : (limits : LimitNumbers) (seed count state : ℕ) (peers last : List ReplicaState) → HaveMade limits seed count state peers → last ≡ rounded_peers peers → made limits seed count ≡ Going (record { state = state; peers = last })
unfolding made
made_whole limits seed count state peers last have rounded = ap rounded_off have.going ∙ (λ i. Going (record { state = state; peers = sym rounded i }))
