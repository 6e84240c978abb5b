-- The peers of a making in a net: who is found under a name, and whose replica is put.
use Rattle.std.proofs.Common.{◌≡◌, ℕ, zero, suc, ◌<◌, List, [], ◌∷◌, length, set, Option, Some, arith, refl, ap}
use Rattle.std.specs.Option.{option_map_or}
use Rattle.ew_model.specs.Kept.{ReplicaState}
use Rattle.ew_model.specs.Limits.{LimitNumbers}
use Rattle.carets.specs.declared.caret.Caret.TheVariants.{Root}
use Rattle.peer_definitions.specs.Machine.{Packet, Peer, StepOutcome, peer_among, put_replica, with_peer}
use Rattle.peer_definitions.specs.Machine.Refusal.{NoPeer}
use Rattle.peer_definitions.specs.Machine.StepOutcome.{Refused}
use Rattle.peer_definitions.specs.Making.{agent_of, peer_at}
use Rattle.generator.specs.Laws.{named_from, net_of}

-- the peer of a number in a net
abbrev pub named_peer : List ReplicaState → ℕ → Peer
named_peer peers n = record { name = agent_of n; replica = peer_at peers n; caret = Root }

found_among : (peers : List ReplicaState) (n : ℕ) → length peers ≡ 3 → n < 3 → peer_among (named_from 0 peers) (agent_of n) ≡ Some (named_peer peers n)
unfolding peer_at
found_among [] n three less = absurd (omega (arith, three))
found_among (a ∷ []) n three less = absurd (omega (arith, three))
found_among (a ∷ b ∷ []) n three less = absurd (omega (arith, three))
found_among (a ∷ b ∷ c ∷ []) zero three less = refl
found_among (a ∷ b ∷ c ∷ []) (suc zero) three less = refl
found_among (a ∷ b ∷ c ∷ []) (suc (suc zero)) three less = refl
found_among (a ∷ b ∷ c ∷ []) (suc (suc (suc n))) three less = absurd (omega (arith, less))
found_among (a ∷ b ∷ c ∷ d ∷ more) n three less = absurd (omega (arith, three))

pub with_named : (limits : LimitNumbers) (peers : List ReplicaState) (packets : List Packet) (n : ℕ) (act : Peer → StepOutcome) → length peers ≡ 3 → n < 3
    → with_peer (net_of limits peers packets) (agent_of n) act ≡ act (named_peer peers n)
with_named limits peers packets n act three less = ap (λ (o : Option Peer). option_map_or act o (Refused (NoPeer (agent_of n)))) (found_among peers n three less)

pub put_among : (limits : LimitNumbers) (peers : List ReplicaState) (packets : List Packet) (n : ℕ) (r : ReplicaState) → length peers ≡ 3 → n < 3
    → put_replica (net_of limits peers packets) (agent_of n) r ≡ net_of limits (set peers n r) packets
put_among limits [] packets n r three less = absurd (omega (arith, three))
put_among limits (a ∷ []) packets n r three less = absurd (omega (arith, three))
put_among limits (a ∷ b ∷ []) packets n r three less = absurd (omega (arith, three))
put_among limits (a ∷ b ∷ c ∷ []) packets zero r three less = refl
put_among limits (a ∷ b ∷ c ∷ []) packets (suc zero) r three less = refl
put_among limits (a ∷ b ∷ c ∷ []) packets (suc (suc zero)) r three less = refl
put_among limits (a ∷ b ∷ c ∷ []) packets (suc (suc (suc n))) r three less = absurd (omega (arith, less))
put_among limits (a ∷ b ∷ c ∷ d ∷ more) packets n r three less = absurd (omega (arith, three))
