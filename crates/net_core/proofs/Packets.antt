-- Packets in a network, and their delivery.
use Rattle.std.proofs.Common.{◌≡◌, ℕ, zero, suc, inr, List, [], ◌∷◌, map, set, length, Option, Some, None, refl, sym, ap, ◌∙◌, subst}
use Rattle.std.specs.List.{AllByRecursion, slice_get}
use Rattle.std.specs.Option.{option_map_or}
use Rattle.ew_model.specs.Kept.{ReplicaState}
use Rattle.ew_model.specs.Limits.{LimitNumbers}
use Rattle.peer_definitions.specs.declared.net_step.NetStep.TheVariants as step
use Rattle.peer_definitions.specs.Answering.{answer_to}
use Rattle.peer_definitions.specs.declared.frame.Frame.{Frame}
use Rattle.peer_frames.specs.Laws.{IsTaken}
use Rattle.net_core.specs.Answers.{IsLeftAt, IsLeftIn}
use Rattle.net_core.specs.Laws.{NoneClashes}
use Rattle.peer_definitions.specs.Machine.{Network, Packet, Peer, deliver_step, delivery_of, net_step, peer_of, print_before, put_replica, with_packet, with_replies}
use Rattle.peer_definitions.specs.Machine.Refusal.{NoPacket}
use Rattle.peer_definitions.specs.Machine.StepOutcome.{Refused}
use Rattle.net_core.proofs.Deliveries.{Went, homes_in_replies, left_in_went, none_clashes, went_all}
use Rattle.net_core.proofs.Editing.{grows, named_so, replica_of, went_homely}
use Rattle.net_core.proofs.Puts.{found_named, found_put, put_in, set_is_changed, with_replica}
use Rattle.net_core.proofs.Reaching.{AreTaken, HasHomes, IsHomely, IsSent, all_on, home_after}
use Rattle.net_core.proofs.Receiving.{left_before}
use Rattle.net_core.proofs.Steps.{at_peer}

-- frames between two peers
pub sent_between : (network : Network) (sender receiver : List ℕ) (p q : Peer) (frames : List Frame) → peer_of network sender ≡ Some p → peer_of network receiver ≡ Some q
    → AllByRecursion (HasHomes network.peers) frames → IsSent network.peers (record { sender = sender; receiver = receiver; frames = frames })
sent_between network sender receiver p q frames found there homes = record { sender = p; sender_is = found; receiver = q; receiver_is = there; frames = homes }

-- a write of what is there
set_same : {X : Type 0} (xs : List X) (i : ℕ) (x : X) → slice_get xs i ≡ Some x → set xs i x ≡ xs
set_same [] i x at = refl
set_same (y ∷ xs) zero x at = let same : y ≡ x = cc in ap (λ z. z ∷ xs) (sym same)
set_same (y ∷ xs) (suc i) x at = ap (λ zs. y ∷ zs) (set_same xs i x at)

-- a replica put in its own place
pub put_same : (network : Network) (name : List ℕ) (p : Peer) (i : ℕ) → IsHomely network → slice_get network.peers i ≡ Some p → peer_of network name ≡ Some p
    → put_replica network name p.replica ≡ network
put_same network name p i h at found =
    ap (λ (peers : List Peer). record { limits = network.limits; peers = peers; packets = network.packets })
    (sym (set_is_changed network.peers i p name (with_replica p.replica) h.apart at (found_named name p network.peers found)) ∙ set_same network.peers i p at)

-- all of the frames are received
all_left : (name : List ℕ) (r : ReplicaState) (frames : List Frame) → IsLeftIn r frames (delivery_of name r frames).replica
all_left name r [] = refl
all_left name r (f ∷ frames) = inr (all_left name (answer_to r f).state frames)

pub with_some : (network : Network) (k : Packet) (frames : List Frame) → (length frames ≡ 0 → ⊥)
    → with_replies network k frames ≡ with_packet network k.receiver k.sender frames
with_some network k [] some = absurd (some refl)
with_some network k (f ∷ frames) some = refl

-- a packet that is delivered
module _ (network : Network) (k : Packet) (p : Peer) (h : IsHomely network) (packet : IsSent network.peers k) (found : peer_of network k.receiver ≡ Some p) where
  pub frames_taken : AreTaken network.limits k → AllByRecursion (IsTaken p.replica.limits) k.frames
  frames_taken taken = subst (λ (limits : LimitNumbers). AllByRecursion (IsTaken limits) k.frames) (sym (replica_of network k.receiver p h found).same) taken

  pub frames_apart : NoneClashes p.replica k.frames
  frames_apart = none_clashes network.limits network.peers h.peers p.replica k.frames (replica_of network k.receiver p h found) packet.frames

  abbrev pub delivered : ReplicaState
  delivered = (delivery_of p.name p.replica k.frames).replica

  all_went : Went network.limits network.peers p.replica delivered
  all_went = went_all network.limits network.peers h.peers p.name p.replica k.frames (replica_of network k.receiver p h found) packet.frames

  pub delivered_homely : IsHomely (put_replica network p.name delivered)
  delivered_homely = went_homely network k.receiver p delivered h found all_went

  pub left_homely : (r : ReplicaState) → IsLeftIn p.replica k.frames r → IsHomely (put_replica network p.name r)
  left_homely r left = went_homely network k.receiver p r h found (left_in_went network.limits network.peers h.peers p.replica r k.frames
      (replica_of network k.receiver p h found) packet.frames left)

  -- where memory is wanting
  pub left_none : (i : ℕ) → slice_get network.peers i ≡ Some p → IsLeftAt network (Some k) network
  left_none i at = (p, p.replica, found, left_before p.replica k.frames, sym (put_same network k.receiver p i h at found))

  pub left_some : (r : ReplicaState) → IsLeftIn p.replica k.frames r → IsLeftAt network (Some k) (put_replica network p.name r)
  left_some r left = (p, r, found, left, ap (λ name. put_replica network name r) (named_so network k.receiver p found))

  pub left_all : IsLeftAt network (Some k) (put_replica network p.name delivered)
  left_all = left_some delivered (all_left p.name p.replica k.frames)

  -- the packet of the answers
  pub replies_are : IsSent (map (put_in p.name delivered) network.peers)
      (record { sender = k.receiver; receiver = k.sender; frames = (delivery_of p.name p.replica k.frames).replies })
  replies_are =
      let replies = (delivery_of p.name p.replica k.frames).replies in
      let home = home_after network p.name delivered h (grows network k.receiver p delivered found all_went) in
      record {
        sender = put_in p.name delivered packet.receiver;
        sender_is = found_put p.name delivered k.receiver packet.receiver network.peers packet.receiver_is;
        receiver = put_in p.name delivered packet.sender;
        receiver_is = found_put p.name delivered k.sender packet.sender network.peers packet.sender_is;
        frames = all_on (λ (f : Frame) (x : HasHomes network.peers f). all_on home _ x) replies
            (homes_in_replies network.limits network.peers h.peers p.name p.replica k.frames (replica_of network k.receiver p h found) packet.frames);
      }

  -- the step of the machine
  pub deliver_is : (n : ℕ) → slice_get network.packets n ≡ Some k → net_step network (step.Deliver n)
      ≡ print_before (delivery_of p.name p.replica k.frames).printed (with_replies (put_replica network p.name delivered) k
      (delivery_of p.name p.replica k.frames).replies)
  unfolding net_step
  deliver_is n at =
      ap (λ (o : Option Packet). option_map_or (deliver_step network) o (Refused (NoPacket n))) at
      ∙ at_peer network k.receiver (λ (q : Peer). let d = delivery_of q.name q.replica k.frames in print_before d.printed
      (with_replies (put_replica network k.receiver d.replica) k d.replies)) p found
      ∙ ap (λ name. print_before (delivery_of p.name p.replica k.frames).printed
      (with_replies (put_replica network name delivered) k (delivery_of p.name p.replica k.frames).replies))
      (sym (named_so network k.receiver p found))

pub no_packet : (network : Network) (n : ℕ) → slice_get network.packets n ≡ None → net_step network (step.Deliver n) ≡ Refused (NoPacket n)
unfolding net_step
no_packet network n none = ap (λ (o : Option Packet). option_map_or (deliver_step network) o (Refused (NoPacket n))) none
