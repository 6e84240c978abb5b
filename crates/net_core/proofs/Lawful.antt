-- The laws of deliveries: nothing is refused but for want of room, packets of a push and of an answer bring all, and what agreement tells.
use Rattle.std.proofs.Common.{◌≡◌, ℕ, Bool, true, false, ◌⊎◌, inl, inr, List, [], ◌∷◌, ◌++◌, length, Some, refl, sym, ap, ◌∙◌, subst, append-nil, arith}
use Rattle.std.specs.List.{AllByRecursion, slice_get}
use Rattle.std.specs.Prelude.{codes, if◌then◌else◌}
use Rattle.ew_model.specs.declared.event.Event.{Event}
use Rattle.ew_model.specs.Kept.{ReplicaState}
use Rattle.ew_model.specs.Limits.{AreLimits}
use Rattle.ew_model.specs.Sets.{Among}
use Rattle.ew_model.proofs.GoodLaws.{equal_sets_agree}
use Rattle.ew_model.proofs.IdLaws.{names_equal}
use Rattle.ew_model.proofs.SortingLaws.{all_at, all_from}
use Rattle.history_definitions.specs.Missing.{missing}
use Rattle.peer_definitions.specs.declared.net_step.NetStep.TheVariants as step
use Rattle.peer_definitions.specs.Answering.{event_frames}
use Rattle.peer_definitions.specs.declared.frame.Frame.{Frame}
use Rattle.peer_definitions.specs.declared.frame.Frame.TheVariants as frame
use Rattle.net_core.specs.Keeping.{IsHome, IsReached, IsReplica}
use Rattle.net_core.specs.Laws.{Agree, AgreementIsTold, HeldAll, OnlyFullRefuses, PushesArrive, answers_in, network_left}
use Rattle.peer_definitions.specs.Machine.{Network, Packet, Peer, agree_line, all_agree, delivery_of, net_step, packet_step, peer_among, peer_of, print_before, printed_line, put_replica, with_packet, with_peer, with_replies}
use Rattle.net_core.proofs.Agreeing.{agree_by_one, all_as_one}
use Rattle.net_core.proofs.Deliveries.{room_in_all}
use Rattle.net_core.proofs.Editing.{replica_of}
use Rattle.net_core.proofs.Following.{Follows, IsGrown, peer_did, step_follows, steps_follow, then_follows}
use Rattle.ew_model.proofs.OperationLaws.{got}
use Rattle.net_core.proofs.Packets.{deliver_is, with_some}
use Rattle.net_core.proofs.Puts.{found_put, put_here, put_in}
use Rattle.net_core.proofs.Reaching.{HasHomes, IsHomely, IsSent, homely}
use Rattle.net_core.proofs.Steps.{push_is}
use Rattle.net_core.proofs.CatchingUp.{AreOrdered}
use Rattle.net_core.proofs.Sending.{frames_caught, good_ordered}

-- Nothing is refused but for want of room.
pub only_full_refuses : OnlyFullRefuses
only_full_refuses network k p h m found =
    let all = homely network h in
    room_in_all network.limits network.peers all.peers p.replica k.frames (replica_of network k.receiver p all found)
    (all_at (IsSent network.peers) network.packets k all.packets m).frames

-- the packet that was made stands at its number
seam : {X : Type 0} (xs rest : List X) (x : X) → slice_get ((xs ++ x ∷ []) ++ rest) (length xs) ≡ Some x
seam [] rest x = refl
seam (y ∷ xs) rest x = seam xs rest x

pub packet_at : (made later : Network) (packets : List Packet) (k found : Packet) → made.packets ≡ packets ++ k ∷ [] → Follows made later
    → slice_get later.packets (length packets) ≡ Some found → found ≡ k
packet_at made later packets k found is follows at =
    let all = follows.packets.1 ∙ ap (λ ks. ks ++ follows.packets.0) is in
    let both : Some found ≡ Some k = sym at ∙ ap (λ ks. slice_get ks (length packets)) all ∙ seam packets follows.packets.0 k in
    cc

-- the peers that a delivery leaves
pub peers_left : (between new : Network) (k : Packet) (printed : List ℕ) (replies : List Frame)
    → network_left (print_before printed (with_replies between k replies)) ≡ Some new → new.peers ≡ between.peers
peers_left between new k printed [] left = let is : between ≡ new = cc in ap (λ (n : Network). n.peers) (sym is)
peers_left between new k printed (f ∷ frames) left =
    let is : record { limits = between.limits; peers = between.peers; packets = between.packets ++ record { sender = k.receiver; receiver = k.sender; frames = f ∷ frames } ∷ [] } ≡ new = cc in
    ap (λ (n : Network). n.peers) (sym is)

-- the receiver of a delivered packet
receiver_left : (later new : Network) (k : Packet) (p q : Peer) (n : ℕ) → IsHomely later → IsSent later.peers k → slice_get later.packets n ≡ Some k
    → peer_of later k.receiver ≡ Some p
    → network_left (net_step later (step.Deliver n)) ≡ Some new → peer_of new k.receiver ≡ Some q → q.replica ≡ (delivery_of p.name p.replica k.frames).replica
receiver_left later new k p q n h sent at found left there =
    let d = delivery_of p.name p.replica k.frames in
    let peers = peers_left (put_replica later p.name d.replica) new k d.printed d.replies (sym (ap network_left (deliver_is later k p h sent found n at)) ∙ left) in
    let put = put_in p.name d.replica p in
    let both : Some q ≡ Some put = sym there ∙ ap (λ ps. peer_among ps k.receiver) peers ∙ found_put p.name d.replica k.receiver p later.peers found in
    let same : q ≡ put = cc in
    ap (λ (x : Peer). x.replica) (same ∙ put_here p.name d.replica p (names_equal.refl p.name))

-- a peer's events stand where they were made, later too
pub home_later : (network later : Network) (name : List ℕ) (p : Peer) → IsGrown later name p → IsHomely later → (e : Event)
    → Among e p.replica.held → IsHome later.peers e
home_later network later name p grown h e m =
    all_at (IsHome later.peers) grown.now.replica.held e (replica_of later name grown.now h grown.there).held (grown.held e m)

-- what is delivered of events in frames
module _ (later new : Network) (n : ℕ) (k : Packet) (p q : Peer) (events known : List Event) (rest : List Frame) (h : IsHomely later) (are : AreLimits later.limits) where
  pub all_arrive : slice_get later.packets n ≡ Some k → IsSent later.peers k → peer_of later k.receiver ≡ Some p
      → network_left (net_step later (step.Deliver n)) ≡ Some new → peer_of new k.receiver ≡ Some q
      → k.frames ≡ event_frames later.limits events ++ rest → AllByRecursion (HasHomes later.peers) rest → AllByRecursion
      (IsHome later.peers) events → AreOrdered known events
      → ((e : Event) → Among e known → Among e p.replica.held) → HeldAll (answers_in p.replica k.frames) → (e : Event)
      → Among e known ⊎ Among e events → Among e q.replica.held
  all_arrive at sent found left there frames homes_rest homes ordered inside room e m =
      let replica = replica_of later k.receiver p h found in
      let caught = frames_caught later.limits later.peers h.peers p.name rest homes_rest are events known p.replica replica homes ordered inside
      (subst (λ fs. HeldAll (answers_in p.replica fs)) frames room) e m in
      let state = receiver_left later new k p q n h sent at found left there in
      subst (λ (r : ReplicaState). Among e r.held) (sym (state ∙ ap (λ fs. (delivery_of p.name p.replica fs).replica) frames)) caught

-- what a step made that makes a packet
pub packet_left : (network made : Network) (sender receiver : List ℕ) (frames : ReplicaState → List Frame) (p : Peer)
    → network_left (packet_step network sender receiver frames) ≡ Some made → peer_of network sender ≡ Some p
    → made ≡ record { limits = network.limits; peers = network.peers; packets = network.packets ++ record { sender = sender; receiver = receiver; frames = frames p.replica } ∷ [] }
packet_left network made sender receiver frames p left found =
    let first = peer_did network sender (λ x. with_peer network receiver (λ y. with_packet network sender receiver (frames x.replica))) made left in
    let both : Some first.0 ≡ Some p = sym first.1 ∙ found in
    let same : first.0 ≡ p = cc in
    let second = peer_did network receiver (λ y. with_packet network sender receiver (frames first.0.replica)) made first.2 in
    let is : record { limits = network.limits; peers = network.peers; packets = network.packets ++ record { sender = sender; receiver = receiver; frames = frames first.0.replica } ∷ [] } ≡ made = cc in
    sym is ∙ ap (λ (x : Peer). record { limits = network.limits; peers = network.peers; packets = network.packets ++ record { sender = sender; receiver = receiver; frames = frames x.replica } ∷ [] }) same

-- A push brings all.
pub pushes_arrive : PushesArrive
pushes_arrive network made later new sender receiver p reached sound left found d e m =
    let h = homely network reached in
    let k : Packet = record { sender = sender; receiver = receiver; frames = event_frames p.replica.limits p.replica.held } in
    let is = packet_left network made sender receiver (λ r. event_frames r.limits r.held) p (sym (ap network_left (push_is network sender receiver)) ∙ left) found in
    let first = step_follows network made (step.Push sender receiver) h left in
    let follows = steps_follow made later d.steps first.homely d.later_is in
    let all = then_follows network made later first follows in
    let packet = packet_at made later network.packets k d.packet (ap (λ (n : Network). n.packets) is) follows d.packet_is in
    let own = replica_of network sender p h found in
    let limits = own.same ∙ sym all.limits in
    let sent = all_at (IsSent later.peers) later.packets d.packet follows.homely.packets (got later.packets (length network.packets) d.packet d.packet_is) in
    let homes = all_from (IsHome later.peers) p.replica.held (home_later network later sender p (all.grown sender p found) follows.homely) in
    all_arrive later new (length network.packets) d.packet d.receiver d.holds p.replica.held [] [] follows.homely (subst AreLimits (sym all.limits) reached.limits)
    d.packet_is sent d.receiver_is d.new_is d.holds_is
    (ap (λ (x : Packet). x.frames) packet ∙ ap (λ l. event_frames l p.replica.held) limits ∙ sym (append-nil (event_frames later.limits p.replica.held)))
    tt homes (good_ordered p.replica.held own.kept.orderly.good) (λ z none. absurd none) d.room e (inr m)

-- the packet that answers a question
pub made_by_answer : (between made : Network) (k : Packet) (p : Peer) (counts : List (List ℕ × ℕ)) (n : ℕ) → IsHomely between → IsSent between.peers k
    → slice_get between.packets n ≡ Some k → k.frames ≡ frame.Have counts ∷ []
    → peer_of between k.receiver ≡ Some p → network_left (net_step between (step.Deliver n)) ≡ Some made
    → made.packets ≡ between.packets ++ record {
      sender = k.receiver;
      receiver = k.sender;
      frames = event_frames p.replica.limits
          (missing p.replica.held counts) ++ frame.Done ∷ [];
    } ∷ []
made_by_answer between made k p counts n h sent at frames found left =
    let d = delivery_of p.name p.replica k.frames in
    let after = put_replica between p.name d.replica in
    let answers = event_frames p.replica.limits (missing p.replica.held counts) ++ frame.Done ∷ [] in
    let replies : d.replies ≡ answers = ap (λ fs. (delivery_of p.name p.replica fs).replies) frames ∙ append-nil answers in
    let some : length d.replies ≡ 0 → ⊥ = λ none. not_empty (event_frames p.replica.limits (missing p.replica.held counts)) (sym (ap length replies) ∙ none) in
    let is = sym (ap network_left (deliver_is between k p h sent found n at)) ∙ left in
    let whole : network_left (print_before d.printed (with_packet after k.receiver k.sender d.replies)) ≡ Some made = ap (λ o. network_left (print_before d.printed o))
    (sym (with_some after k d.replies some)) ∙ is in
    let same : record { limits = after.limits; peers = after.peers; packets = after.packets ++ record { sender = k.receiver; receiver = k.sender; frames = d.replies } ∷ [] } ≡ made = cc in
    ap (λ (x : Network). x.packets) (sym same) ∙ ap (λ fs. between.packets ++ record { sender = k.receiver; receiver = k.sender; frames = fs } ∷ []) replies
  where
    not_empty : (fs : List Frame) → length (fs ++ frame.Done ∷ []) ≡ 0 → ⊥
    not_empty [] h = omega (arith, h)
    not_empty (f ∷ fs) h = omega (arith, h)

-- where all agree
module _ (network : Network) (reached : IsReached network) where
  told_yes : all_agree network.peers ≡ true → agree_line network.peers ≡ printed_line (codes "agree" ∷ codes "yes" ∷ [])
  told_yes is = ap (λ b. printed_line (codes "agree" ∷ (if b then codes "yes" else codes "no") ∷ [])) is

  yes_told : (b : Bool) → printed_line (codes "agree" ∷ (if b then codes "yes" else codes "no") ∷ []) ≡ printed_line (codes "agree" ∷ codes "yes" ∷ []) → b ≡ true
  yes_told true h = refl
  yes_told false h = let long : 9 ≡ 10 = ap length h in absurd (omega (arith, long))

  agree_two : all_agree network.peers ≡ true → (p q : Peer) → Among p network.peers → Among q network.peers → Agree p q
  agree_two is p q m n =
      let same = all_as_one network.peers p q is m n in
      let good = λ (x : Peer) (k : Among x network.peers). (all_at (λ (y : Peer). IsReplica network.limits network.peers y.replica) network.peers x reached.peers k).kept.orderly.good in
      record { events = same; text = (equal_sets_agree p.replica.held q.replica.held (good p m) (good q n) same).whole }

  agree_all : ((p q : Peer) → Among p network.peers → Among q network.peers → Agree p q) → all_agree network.peers ≡ true
  agree_all f = by network.peers f
    where
      by : (peers : List Peer) → ((p q : Peer) → Among p peers → Among q peers → Agree p q) → all_agree peers ≡ true
      by [] g = refl
      by (first ∷ others) g = agree_by_one first (first ∷ others) (λ p m. (g first p (inl refl) m).events)

pub agreement_is_told : AgreementIsTold
agreement_is_told network reached =
    (λ said. agree_two network reached (yes_told network reached (all_agree network.peers) said), λ f. told_yes network reached (agree_all network reached f))
