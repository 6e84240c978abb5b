-- What the delivery of a packet leaves of a network, and what is answered.
use Rattle.std.proofs.Common.{◌≡◌, ℕ, suc, ◌<◌, Bool, true, false, ⊎_elim, List, [], ◌∷◌, find, length, Option, Some, None, refl, sym, ap, ◌∙◌, subst, append-nil}
use Rattle.std.specs.Global.{Vec}
use Rattle.std.specs.List.{AllByRecursion, slice_get}
use Rattle.std.specs.Option.{option_map_or}
use Rattle.std.specs.Prelude.{Err, Result}
use Rattle.std.proofs.lemmas.Bool.{cases_Bool, cond-true, cond-false}
use Rattle.ew_model.specs.Kept.{ReplicaState}
use Rattle.ew_model.specs.Limits.{LimitNumbers}
use Rattle.ew_model.proofs.SortingLaws.{all_at}
use Rattle.peer_definitions.specs.declared.net_step.NetStep.TheVariants as step
use Rattle.peer_frames.specs.Laws.{IsTaken}
use Rattle.peer_definitions.specs.declared.frame.Frame.{Frame}
use Rattle.net_core.specs.declared.fault.NetFault.{NetFault}
use Rattle.net_core.specs.declared.fault.NetFault.TheVariants as fault
use Rattle.net_core.specs.Answers.{IsLeftAt, IsLeftIn, StepsTo, refusal_told, told_bytes}
use Rattle.net_core.specs.Handing.{IsNotHanded}
use Rattle.net_core.specs.Keeping.{IsPacket, IsReached}
use Rattle.net_core.specs.Laws.{NoneClashes}
use Rattle.peer_definitions.specs.Machine.{Network, Packet, Peer, deliver_step, delivery_of, net_step, peer_of, print_before, put_replica, with_packet, with_replies}
use Rattle.peer_definitions.specs.Machine.Refusal.{NoPacket, NoPeer}
use Rattle.peer_definitions.specs.Machine.StepOutcome.{Refused, Stepped}
use Rattle.net_core.proofs.Editing.{replica_of}
use Rattle.ew_model.proofs.OperationLaws.{got}
use Rattle.net_core.proofs.Packets.{deliver_is, delivered_homely, frames_apart, frames_taken, left_all, left_homely, left_none, left_some, no_packet, replies_are, with_some}
use Rattle.net_core.proofs.Reaching.{AreTaken, IsHomely, IsSent, both_packet, fit, homely}
use Rattle.net_core.proofs.Steps.{no_peer}
use Rattle.net_core.proofs.Puts.{with_replica}
use Rattle.net_core.proofs.Writes.{here, put_is, refused_so, seen, there, with_written, written, written_reached}

-- the place of what is found
found_place : {X : Type 0} (test : X → Bool) (xs : List X) (x : X) → find test xs ≡ Some x → (i : ℕ) × (slice_get xs i ≡ Some x)
found_place test [] x h = let no : ⊥ = cc in absurd no
found_place test (y ∷ xs) x h =
    ⊎_elim (λ (e : test y ≡ true). (0, sym (cond-true _ _ _ e) ∙ h)) (λ (e : test y ≡ false). let more = found_place test xs x
    (sym (cond-false _ _ _ e) ∙ h) in (suc more.0, more.1)) (cases_Bool (test y))

-- the packet of a number, as a call tells it
pub handed_at : (S : Network) (n : ℕ) (k : Packet) (packets : List Packet) → packets ≡ S.packets → slice_get packets n ≡ Some k → slice_get S.packets n ≡ Some k
handed_at S n k packets same at = ap (λ ps. slice_get ps n) (sym same) ∙ at

-- memory is wanting before anything is received
memory_told : (S : Network) (h : IsReached S) (n : ℕ) (k : Packet) → slice_get S.packets n ≡ Some k → StepsTo S (step.Deliver n) S (Err fault.OutOfMemory)
memory_told S h n k at =
    let all = homely S h in
    let sent = all_at (IsSent S.peers) S.packets k all.packets (got S.packets n k at) in
    let place = found_place _ S.peers sent.receiver sent.receiver_is in
    subst (λ (o : Option Packet). IsLeftAt S o S) (sym at) (left_none S k sent.receiver all sent sent.receiver_is place.0 place.1)

-- no packet is handed over
pub not_handed : (S : Network) (h : IsReached S) (n : ℕ) (o : Option Packet) (f : NetFault) (result : Result (Vec ℕ) NetFault) → slice_get S.packets n ≡ o
    → IsNotHanded o n f → result ≡ Err f
    → StepsTo S (step.Deliver n) S (told_bytes result)
not_handed S h n None f result none why is = refused_so S (step.Deliver n) f (NoPacket n) result is (ap refusal_told why) (no_packet S n none)
not_handed S h n (Some k) f result at why is = subst (λ r. StepsTo S (step.Deliver n) S (told_bytes r)) (sym (is ∙ ap Err why)) (memory_told S h n k at)

-- the receiver isn't there
pub nobody_there : (S : Network) (n : ℕ) (k : Packet) → slice_get S.packets n ≡ Some k → peer_of S k.receiver ≡ None
    → net_step S (step.Deliver n) ≡ Refused (NoPeer k.receiver)
unfolding net_step
nobody_there S n k at none =
    ap (λ (o : Option Packet). option_map_or (deliver_step S) o (Refused (NoPacket n))) at
    ∙ no_peer S k.receiver (λ (p : Peer). let d = delivery_of p.name p.replica k.frames in print_before d.printed
    (with_replies (put_replica S k.receiver d.replica) k d.replies)) none

module _ (N S : Network) (view : N ≡ S) (h : IsReached N) (n : ℕ) (k : Packet) (at : slice_get S.packets n ≡ Some k) (place : ℕ)
    (found : (place < length S.peers) × (peer_of S k.receiver ≡ slice_get S.peers place)) where
  abbrev p : Peer
  p = here N S view h k.receiver place found

  all : IsHomely S
  all = homely S (seen N S view h k.receiver place found)

  is : peer_of S k.receiver ≡ Some p
  is = there N S view h k.receiver place found

  sent : IsSent S.peers k
  sent = all_at (IsSent S.peers) S.packets k all.packets (got S.packets n k at)

  taken : AreTaken S.limits k
  taken = all_at (AreTaken S.limits) S.packets k (fit S (seen N S view h k.receiver place found)).taken (got S.packets n k at)

  -- memory is wanting
  pub told_left : (new : Network) (f : NetFault) (result : Result (Vec ℕ) NetFault) → result ≡ Err f → f ≡ fault.OutOfMemory → IsLeftAt S (Some k) new
      → StepsTo S (step.Deliver n) new (told_bytes result)
  told_left new f result is memory left = subst (λ r. StepsTo S (step.Deliver n) new (told_bytes r)) (sym (is ∙ ap Err memory))
      (subst (λ (o : Option Packet). IsLeftAt S o new) (sym at) left)

  -- the frames may be received
  pub may_receive : (q : Peer) → q ≡ p → AllByRecursion (IsTaken q.replica.limits) k.frames × NoneClashes q.replica k.frames
  may_receive q old =
      subst (λ (x : Peer). AllByRecursion (IsTaken x.replica.limits) k.frames × NoneClashes x.replica k.frames) (sym old)
      (frames_taken S k p all sent is taken, frames_apart S k p all sent is)

  module _ (x q : Peer) (old : q ≡ p) (named : x.name ≡ q.name) (caret : x.caret ≡ q.caret) where
    put_so : (r : ReplicaState) → x.replica ≡ r → x ≡ with_replica r p
    put_so r same = put_is N S view h k.receiver place found x q old named caret r same

    -- memory was wanting on the way
    left_here : IsLeftIn q.replica k.frames x.replica → IsLeftIn p.replica k.frames x.replica
    left_here left = subst (λ (y : Peer). IsLeftIn y.replica k.frames x.replica) old left

    pub part_reached : IsLeftIn q.replica k.frames x.replica → IsReached (with_written N S view h k.receiver place found x)
    part_reached left = written_reached N S view h k.receiver place found x x.replica (put_so x.replica refl) (left_homely S k p all sent is x.replica (left_here left))

    pub part_left : IsLeftIn q.replica k.frames x.replica → IsLeftAt S (Some k) (with_written N S view h k.receiver place found x)
    part_left left =
        subst (IsLeftAt S (Some k)) (sym (written N S view h k.receiver place found x x.replica (put_so x.replica refl)))
        (left_some S k p all sent is x.replica (left_here left))

    -- all was received
    module _ (done : x.replica ≡ (delivery_of q.name q.replica k.frames).replica) where
      received_is : x ≡ with_replica (delivery_of p.name p.replica k.frames).replica p
      received_is = put_so _ (done ∙ ap (λ (y : Peer). (delivery_of y.name y.replica k.frames).replica) old)

      back : with_written N S view h k.receiver place found x ≡ put_replica S p.name (delivery_of p.name p.replica k.frames).replica
      back = written N S view h k.receiver place found x _ received_is

      pub whole_reached : IsReached (with_written N S view h k.receiver place found x)
      whole_reached = written_reached N S view h k.receiver place found x _ received_is (delivered_homely S k p all sent is)

      pub whole_left : IsLeftAt S (Some k) (with_written N S view h k.receiver place found x)
      whole_left = subst (IsLeftAt S (Some k)) (sym back) (left_all S k p all sent is)

      -- the step of the machine
      pub deliver_told : (replies : List Frame) (printed : List ℕ) → replies ≡ (delivery_of q.name q.replica k.frames).replies
          → printed ≡ (delivery_of q.name q.replica k.frames).printed
          → net_step S (step.Deliver n) ≡ print_before printed (with_replies (with_written N S view h k.receiver place found x) k replies)
      deliver_told replies printed answered told =
          let replies_is = answered ∙ ap (λ (y : Peer). (delivery_of y.name y.replica k.frames).replies) old in
          let printed_is = told ∙ ap (λ (y : Peer). (delivery_of y.name y.replica k.frames).printed) old in
          deliver_is S k p all sent is n at ∙ (λ i. print_before (sym printed_is i) (with_replies (sym back i) k (sym replies_is i)))

      pub none_told : (replies : List Frame) (printed : List ℕ) → replies ≡ (delivery_of q.name q.replica k.frames).replies
          → printed ≡ (delivery_of q.name q.replica k.frames).printed → replies ≡ []
          → net_step S (step.Deliver n) ≡ Stepped (with_written N S view h k.receiver place found x) printed
      none_told replies printed answered told none =
          deliver_told replies printed answered told ∙ ap (λ fs. print_before printed (with_replies (with_written N S view h k.receiver place found x) k fs)) none
          ∙ ap (Stepped (with_written N S view h k.receiver place found x)) (append-nil printed)

      pub some_told : (replies : List Frame) (printed : List ℕ) → replies ≡ (delivery_of q.name q.replica k.frames).replies
          → printed ≡ (delivery_of q.name q.replica k.frames).printed → (length replies ≡ 0 → ⊥)
          → net_step S (step.Deliver n) ≡ print_before printed (with_packet (with_written N S view h k.receiver place found x) k.receiver k.sender replies)
      some_told replies printed answered told some =
          deliver_told replies printed answered told ∙ ap (print_before printed) (with_some (with_written N S view h k.receiver place found x) k replies some)

      -- the packet of the answers
      pub replies_sound : (replies : List Frame) → replies ≡ (delivery_of q.name q.replica k.frames).replies → AllByRecursion (IsTaken q.replica.limits) replies
          → IsPacket S.limits (with_written N S view h k.receiver place found x).peers (record { sender = k.receiver; receiver = k.sender; frames = replies })
      replies_sound replies answered can =
          let replies_is = answered ∙ ap (λ (y : Peer). (delivery_of y.name y.replica k.frames).replies) old in
          let limits = ap (λ (y : Peer). y.replica.limits) old ∙ (replica_of S k.receiver p all is).same in
          let packet = both_packet S.limits (put_replica S p.name (delivery_of p.name p.replica k.frames).replica).peers
          (record { sender = k.receiver; receiver = k.sender; frames = (delivery_of p.name p.replica k.frames).replies })
          (replies_are S k p all sent is) (subst (AllByRecursion (IsTaken S.limits)) replies_is
          (subst (λ (l : LimitNumbers). AllByRecursion (IsTaken l) replies) limits can)) in
          subst (λ fs. IsPacket S.limits (with_written N S view h k.receiver place found x).peers
          (record { sender = k.receiver; receiver = k.sender; frames = fs })) (sym replies_is)
          (subst (λ (m : Network). IsPacket S.limits m.peers (record { sender = k.receiver; receiver = k.sender; frames = (delivery_of p.name p.replica k.frames).replies })) (sym back) packet)
