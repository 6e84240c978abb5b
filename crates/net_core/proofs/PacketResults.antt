-- What the making of a packet leaves of a network, and what is answered.
use Rattle.std.proofs.Common.{◌≡◌, ℕ, ◌<◌, List, [], get_or, length, sym, ap, ◌∙◌, subst}
use Rattle.std.specs.List.{AllByRecursion, slice_get}
use Rattle.ew_model.specs.Kept.{ReplicaState}
use Rattle.ew_model.specs.Limits.{LimitNumbers}
use Rattle.event_graph.proofs.Tails.{all_first}
use Rattle.peer_exchange.proofs.Lengths.{all_drop}
use Rattle.peer_definitions.specs.Answering.{event_frames}
use Rattle.peer_frames.specs.Laws.{IsTaken}
use Rattle.peer_definitions.specs.declared.frame.Frame.{Frame}
use Rattle.net_core.specs.Keeping.{IsHome, IsPacket, IsReached, IsReplica}
use Rattle.peer_definitions.specs.Machine.{Network, Peer, packet_step, peer_of, piece_of, print_before, with_packet}
use Rattle.peer_definitions.specs.Machine.StepOutcome.{Stepped}
use Rattle.net_core.proofs.Deliveries.{homes_in_frames}
use Rattle.net_core.proofs.Editing.{replica_of}
use Rattle.net_core.proofs.Packets.{sent_between}
use Rattle.net_core.proofs.Reaching.{HasHomes, both_packet, homely}
use Rattle.net_core.proofs.Steps.{packet_made, peer_at}
use Rattle.net_core.proofs.Writes.{here, read, seen, there}

-- the frames that a peer makes bring events that stand where they were made
abbrev pub MakesHomes : Network → (ReplicaState → List Frame) → Type 0
MakesHomes network made = (p : Peer) → IsReplica network.limits network.peers p.replica → AllByRecursion (HasHomes network.peers) (made p.replica)

pub all_make_homes : (network : Network) → MakesHomes network (λ r. event_frames r.limits r.held)
all_make_homes network p r = homes_in_frames network.peers p.replica.limits p.replica.held r.held

pub some_make_homes : (network : Network) (skip count : ℕ) → MakesHomes network (λ r. event_frames r.limits (piece_of skip count r.held))
some_make_homes network skip count p r =
    homes_in_frames network.peers p.replica.limits (piece_of skip count p.replica.held)
    (all_first (IsHome network.peers) count _ (all_drop (IsHome network.peers) skip p.replica.held r.held))

module _ (N S : Network) (view : N ≡ S) (h : IsReached N) (sender : List ℕ) (i : ℕ) (found : (i < length S.peers) × (peer_of S sender ≡ slice_get S.peers i))
    (receiver : List ℕ) (j : ℕ) (other : (j < length S.peers) × (peer_of S receiver ≡ slice_get S.peers j)) (x : Peer) (is : x ≡ get_or N.peers i x)
    (made : ReplicaState → List Frame) (frames : List Frame) (made_is : frames ≡ made x.replica) where
  abbrev p : Peer
  p = here N S view h sender i found

  x_is : x ≡ p
  x_is = read N S view h sender i found x is

  frames_are : frames ≡ made p.replica
  frames_are = made_is ∙ ap (λ (q : Peer). made q.replica) x_is

  -- the packet
  pub sent_sound : MakesHomes S made → AllByRecursion (IsTaken x.replica.limits) frames → IsPacket S.limits S.peers
      (record { sender = sender; receiver = receiver; frames = frames })
  sent_sound homes taken =
      let all = homely S (seen N S view h sender i found) in
      let own = replica_of S sender p all (there N S view h sender i found) in
      let q = peer_at S receiver j other.0 other.1 in
      both_packet S.limits S.peers (record { sender = sender; receiver = receiver; frames = frames })
      (sent_between S sender receiver p q.0 frames (there N S view h sender i found) q.2 (subst (AllByRecursion (HasHomes S.peers)) (sym frames_are) (homes p own)))
      (subst (λ (limits : LimitNumbers). AllByRecursion (IsTaken limits) frames) (ap (λ (y : Peer). y.replica.limits) x_is ∙ own.same) taken)

  -- the step
  pub sent_told : (out printed : List ℕ) (new : Network) → out ≡ [] → print_before out (with_packet S sender receiver frames) ≡ Stepped new printed
      → packet_step S sender receiver made ≡ Stepped new printed
  sent_told out printed new none told =
      let q = peer_at S receiver j other.0 other.1 in
      packet_made S sender receiver made p q.0 (there N S view h sender i found) q.2
      ∙ ap (with_packet S sender receiver) (sym frames_are)
      ∙ ap (λ o. print_before o (with_packet S sender receiver frames)) (sym none)
      ∙ told
