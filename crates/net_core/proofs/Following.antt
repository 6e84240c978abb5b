-- Networks follow one another: histories grow, packets stay, and events keep their homes.
use Rattle.std.proofs.Common.{◌≡◌, ℕ, ◌⊎◌, inl, inr, true, false, List, [], ◌∷◌, ◌++◌, map, Option, Some, None, refl, sym, ap, ◌∙◌, subst, append-nil, append_assoc}
use Rattle.std.specs.List.{AllByRecursion, slice_get}
use Rattle.std.specs.Option.{option_and_then, option_map_or}
use Rattle.std.proofs.lemmas.Bool.{cases_Bool}
use Rattle.ew_model.specs.declared.event.Event.{Event}
use Rattle.ew_model.specs.Edits as edits
use Rattle.ew_model.specs.Edits.{Edit, EditRefusal, edit_refusal}
use Rattle.ew_model.specs.Ids.{name_eq}
use Rattle.ew_model.specs.Kept.{ReplicaState}
use Rattle.ew_model.specs.Sets.{Among}
use Rattle.ew_model.proofs.IdLaws.{name_exact}
use Rattle.ew_model.proofs.SetLaws.{joined_left}
use Rattle.ew_model.proofs.SortingLaws.{all_at}
use Rattle.event_graph.proofs.Tails.{all_first}
use Rattle.peer_definitions.specs.declared.net_step.NetStep.{NetStep}
use Rattle.peer_definitions.specs.declared.net_step.NetStep.TheVariants as step
use Rattle.peer_exchange.proofs.Lengths.{all_drop}
use Rattle.peer_definitions.specs.Answering.{event_frames, question}
use Rattle.peer_definitions.specs.declared.frame.Frame.{Frame}
use Rattle.net_core.specs.Keeping.{IsHome, IsReplica}
use Rattle.net_core.specs.Laws.{after_steps, network_left}
use Rattle.ew_model.specs.declared.id.Id.{Id}
use Rattle.carets.specs.declared.caret.Caret.{Caret}
use Rattle.carets.specs.Sides.{caret_in, text_chars}
use Rattle.undo_definitions.specs.Undoing.{UndoRefusal, undo_refusal}
use Rattle.undo_definitions.specs.Wanted.{ids_from}
use Rattle.peer_definitions.specs.Machine.{Network, Packet, Peer, StepOutcome, caret_outcome, deliver_step, delivery_of, edit_outcome, net_step, peer_of, peer_step, piece_of, print_before, put_caret, put_replica, restart_outcome, undo_outcome, where_outcome, with_packet, with_peer, with_replies}
use Rattle.peer_definitions.specs.Machine.Refusal.{NoPeer, NoPacket}
use Rattle.peer_definitions.specs.Machine.StepOutcome.{Refused}
use Rattle.net_core.proofs.Deliveries.{Went, homes_in_frames, went_all}
use Rattle.net_core.proofs.Editing.{edited_homely, edited_state, named_so, replica_of, restarted, restarted_homely, undone_homely, undone_state, went_homely}
use Rattle.ew_model.proofs.OperationLaws.{got}
use Rattle.net_core.proofs.Packets.{replies_are, sent_between}
use Rattle.net_core.proofs.Puts.{changed_elsewhere, changed_here, changed_in, found_changed, with_caret, with_replica}
use Rattle.net_core.proofs.Reaching.{HasHomes, IsHomely, IsSent, caret_homely, one_more_peer, one_more_sent, still_there}

-- the peer is still there, and holds all that it held
pub record IsGrown (new : Network) (name : List ℕ) (p : Peer) : Type 0 where
  pub now : Peer
  pub there : peer_of new name ≡ Some now
  pub held : (e : Event) → Among e p.replica.held → Among e now.replica.held

pub record Follows (old new : Network) : Type 0 where
  pub limits : new.limits ≡ old.limits
  pub homely : IsHomely new
  pub grown : (name : List ℕ) (p : Peer) → peer_of old name ≡ Some p → IsGrown new name p
  pub packets : (rest : List Packet) × (new.packets ≡ old.packets ++ rest)

pub follows_itself : (network : Network) → IsHomely network → Follows network network
follows_itself network h = record {
  limits = refl;
  homely = h;
  grown = λ name p found. record { now = p; there = found; held = λ e m. m };
  packets = ([], sym (append-nil network.packets));
}

pub then_follows : (a b c : Network) → Follows a b → Follows b c → Follows a c
then_follows a b c x y = record {
  limits = y.limits ∙ x.limits;
  homely = y.homely;
  grown = λ name p found. let first = x.grown name p found in let second = y.grown name first.now first.there in record { now = second.now; there = second.there; held = λ e m. second.held e (first.held e m) };
  packets = (x.packets.0 ++ y.packets.0, y.packets.1 ∙ ap (λ ks. ks ++ y.packets.0) x.packets.1 ∙ append_assoc a.packets x.packets.0 y.packets.0);
}

-- one more packet
pub sent_follows : (network : Network) (k : Packet) → IsHomely network → IsSent network.peers k → Follows network
    (record { limits = network.limits; peers = network.peers; packets = network.packets ++ k ∷ [] })
sent_follows network k h sent = record {
  limits = refl;
  homely = one_more_sent network k h sent;
  grown = λ name p found. record { now = p; there = found; held = λ e m. m };
  packets = (k ∷ [], refl);
}

-- a peer that holds all that it held
pub change_follows : (network : Network) (who : List ℕ) (p : Peer) (f : Peer → Peer) → ((q : Peer) → (f q).name ≡ q.name) → peer_of network who ≡ Some p
    → ((e : Event) → Among e p.replica.held → Among e (f p).replica.held)
    → IsHomely (record { limits = network.limits; peers = map (changed_in p.name f) network.peers; packets = network.packets })
    → Follows network (record { limits = network.limits; peers = map (changed_in p.name f) network.peers; packets = network.packets })
change_follows network who p f keeps found more h = record { limits = refl; homely = h; grown = still; packets = ([], sym (append-nil network.packets)) }
  where
    still : (name : List ℕ) (q : Peer) → peer_of network name ≡ Some q
        → IsGrown (record { limits = network.limits; peers = map (changed_in p.name f) network.peers; packets = network.packets }) name q
    still name q there = record {
      now = changed_in p.name f q;
      there = found_changed p.name f keeps name q network.peers there;
      held = λ e m. at
          (cases_Bool (name_eq q.name p.name)) e m;
    }
      where
        at : (name_eq q.name p.name ≡ true) ⊎ (name_eq q.name p.name ≡ false) → (e : Event) → Among e q.replica.held → Among e (changed_in p.name f q).replica.held
        at (inl here) e m =
            let name_is : who ≡ name = sym (named_so network who p found) ∙ sym (name_exact q.name p.name here) ∙ named_so network name q there in
            let both : Some p ≡ Some q = sym found ∙ ap (peer_of network) name_is ∙ there in
            let same : q ≡ p = cc in
            subst (λ (x : Peer). Among e x.replica.held) (sym (changed_here p.name f q here ∙ ap f same)) (more e (subst (λ (x : Peer). Among e x.replica.held) same m))
        at (inr other) e m = subst (λ (x : Peer). Among e x.replica.held) (sym (changed_elsewhere p.name f q other)) m

-- a replica that holds more
pub put_follows : (network : Network) (who : List ℕ) (p : Peer) (r : ReplicaState) → peer_of network who ≡ Some p
    → ((e : Event) → Among e p.replica.held → Among e r.held)
    → IsHomely (put_replica network p.name r) → Follows network (put_replica network p.name r)
put_follows network who p r found more h = change_follows network who p (with_replica r) (λ q. refl) found more h

-- another caret
pub caret_follows : (network : Network) (who : List ℕ) (p : Peer) (c : Caret) → IsHomely network → peer_of network who ≡ Some p → Follows network (put_caret network p.name c)
caret_follows network who p c h found = change_follows network who p (with_caret c) (λ q. refl) found (λ e m. m) (caret_homely network p.name c h)

-- what a step did that wasn't refused
pub peer_did : (network : Network) (name : List ℕ) (act : Peer → StepOutcome) (new : Network) → network_left (with_peer network name act) ≡ Some new
    → (p : Peer) × (peer_of network name ≡ Some p) × (network_left (act p) ≡ Some new)
peer_did network name act new left = at (peer_of network name) refl left
  where
    at : (o : Option Peer) → peer_of network name ≡ o → network_left (option_map_or act o (Refused (NoPeer name))) ≡ Some new
        → (p : Peer) × (peer_of network name ≡ Some p) × (network_left (act p) ≡ Some new)
    at (Some p) is h = (p, is, h)
    at None is h = let no : ⊥ = cc in absurd no

went_same : (a b new : Network) → Follows a b → Some b ≡ Some new → Follows a new
went_same a b new f same = let is : b ≡ new = cc in subst (Follows a) is f

module _ (network new : Network) (h : IsHomely network) where
  peer_follows : (name : List ℕ) (o : Option Peer) → peer_of network name ≡ o → network_left (peer_step network name o) ≡ Some new → Follows network new
  peer_follows name (Some p) is left = let no : ⊥ = cc in absurd no
  peer_follows name None is left = went_same network _ new (record {
    limits = refl;
    homely = one_more_peer network name h is;
    grown = λ x p found. record { now = p; there = still_there network.peers _ x p found; held = λ e m. m };
    packets = ([], sym (append-nil network.packets));
  }) left

  edit_follows : (who : List ℕ) (e : Edit) (p : Peer) → peer_of network who ≡ Some p → (o : Option EditRefusal)
      → edit_refusal p.replica.limits p.replica.held p.name e ≡ o
      → network_left (edit_outcome network p e o) ≡ Some new → Follows network new
  edit_follows who e p found (Some why) is left = let no : ⊥ = cc in absurd no
  edit_follows who e p found None is left =
      went_same network _ new (put_follows network who p (edited_state network who p e h found is) found (λ x m. joined_left p.replica.held _ x m)
      (edited_homely network who p e h found is)) left

  undo_follows : (who : List ℕ) (undone : List Id) (p : Peer) → peer_of network who ≡ Some p → (o : Option UndoRefusal)
      → undo_refusal p.replica.limits p.replica.held undone ≡ o
      → network_left (undo_outcome network p undone o) ≡ Some new → Follows network new
  undo_follows who undone p found (Some why) is left = let no : ⊥ = cc in absurd no
  undo_follows who undone p found None is left =
      went_same network _ new (put_follows network who p (undone_state network who p undone h found is) found (λ x m. joined_left p.replica.held _ x m)
      (undone_homely network who p undone h found is)) left

  set_follows : (who : List ℕ) (p : Peer) (at : ℕ) → peer_of network who ≡ Some p → (o : Option Caret) → network_left (caret_outcome network p at o) ≡ Some new → Follows network new
  set_follows who p at found None left = let no : ⊥ = cc in absurd no
  set_follows who p at found (Some c) left = went_same network _ new (caret_follows network who p c h found) left

  packet_follows : (sender receiver : List ℕ) (made : ReplicaState → List Frame)
      → ((p : Peer) → IsReplica network.limits network.peers p.replica → AllByRecursion (HasHomes network.peers) (made p.replica))
      → network_left (with_peer network sender (λ p. with_peer network receiver
      (λ q. with_packet network sender receiver (made p.replica)))) ≡ Some new → Follows network new
  packet_follows sender receiver made homes left =
      let p = peer_did network sender (λ p. with_peer network receiver (λ q. with_packet network sender receiver (made p.replica))) new left in
      let q = peer_did network receiver (λ q. with_packet network sender receiver (made p.0.replica)) new p.2 in
      went_same network _ new
      (sent_follows network _ h (sent_between network sender receiver p.0 q.0 (made p.0.replica) p.1 q.1 (homes p.0 (replica_of network sender p.0 h p.1)))) q.2

  -- the answers of a delivery
  replies_follow : (between : Network) (k : Packet) (printed : List ℕ) (replies : List Frame) → Follows network between → IsSent between.peers
      (record { sender = k.receiver; receiver = k.sender; frames = replies })
      → network_left (print_before printed (with_replies between k replies)) ≡ Some new → Follows network new
  replies_follow between k printed [] f sent left = went_same network between new f left
  replies_follow between k printed (x ∷ frames) f sent left = went_same network _ new (then_follows network between _ f (sent_follows between _ f.homely sent)) left

  deliver_follows : (k : Packet) → Among k network.packets → network_left (deliver_step network k) ≡ Some new → Follows network new
  deliver_follows k m left =
      let did = peer_did network k.receiver (λ p. let d = delivery_of p.name p.replica k.frames in print_before d.printed
      (with_replies (put_replica network k.receiver d.replica) k d.replies)) new left in
      let p = did.0 in
      let packet = all_at (IsSent network.peers) network.packets k h.packets m in
      let r = (delivery_of p.name p.replica k.frames).replica in
      let name_is = named_so network k.receiver p did.1 in
      let went : Went network.limits network.peers p.replica r = went_all network.limits network.peers h.peers p.name p.replica k.frames
      (replica_of network k.receiver p h did.1) packet.frames in
      let first = put_follows network k.receiver p r did.1 went.grown (went_homely network k.receiver p r h did.1 went) in
      replies_follow (put_replica network p.name r) k (delivery_of p.name p.replica k.frames).printed (delivery_of p.name p.replica k.frames).replies first
      (replies_are network k p h packet did.1)
      (ap (λ name. network_left (print_before (delivery_of p.name p.replica k.frames).printed
      (with_replies (put_replica network name r) k (delivery_of p.name p.replica k.frames).replies))) name_is ∙ did.2)

  packet_did : (n : ℕ) (o : Option Packet) → slice_get network.packets n ≡ o
      → network_left (option_map_or (deliver_step network) o (Refused (NoPacket n))) ≡ Some new → Follows network new
  packet_did n (Some k) is left = deliver_follows k (got network.packets n k is) left
  packet_did n None is left = let no : ⊥ = cc in absurd no

  restart_follows : (name : List ℕ) → network_left (with_peer network name (restart_outcome network)) ≡ Some new → Follows network new
  restart_follows name left =
      let did = peer_did network name (restart_outcome network) new left in
      went_same network _ new (put_follows network name did.0 (restarted network name did.0 h did.1) did.1 (λ e m. m) (restarted_homely network name did.0 h did.1)) did.2

-- Each step does.
pub step_follows : (network new : Network) (s : NetStep) → IsHomely network → network_left (net_step network s) ≡ Some new → Follows network new
unfolding net_step
step_follows network new (step.Peer name) h left = peer_follows network new h name (peer_of network name) refl left
step_follows network new (step.Ins who at text) h left =
    let did = peer_did network who (λ p. edit_outcome network p (edits.Edit.Insert at text)
    (edit_refusal p.replica.limits p.replica.held p.name (edits.Edit.Insert at text))) new left in
    edit_follows network new h who (edits.Edit.Insert at text) did.0 did.1 _ refl did.2
step_follows network new (step.Del who at n) h left =
    let did = peer_did network who (λ p. edit_outcome network p (edits.Edit.Delete at n)
    (edit_refusal p.replica.limits p.replica.held p.name (edits.Edit.Delete at n))) new left in
    edit_follows network new h who (edits.Edit.Delete at n) did.0 did.1 _ refl did.2
step_follows network new (step.Mark who label) h left =
    let did = peer_did network who (λ p. edit_outcome network p (edits.Edit.Mark label)
    (edit_refusal p.replica.limits p.replica.held p.name (edits.Edit.Mark label))) new left in
    edit_follows network new h who (edits.Edit.Mark label) did.0 did.1 _ refl did.2
step_follows network new (step.Undo who whose first count) h left =
    let undone = ids_from whose first count in
    let did = peer_did network who (λ p. undo_outcome network p undone (undo_refusal p.replica.limits p.replica.held undone)) new left in
    undo_follows network new h who undone did.0 did.1 _ refl did.2
step_follows network new (step.Caret who at) h left =
    let did = peer_did network who (λ p. caret_outcome network p at (caret_in (text_chars p.replica.held) at)) new left in
    set_follows network new h who did.0 at did.1 _ did.2
step_follows network new (step.Where name) h left = went_same network network new (follows_itself network h) (peer_did network name (where_outcome network) new left).2
step_follows network new (step.Push sender receiver) h left =
    packet_follows network new h sender receiver (λ r. event_frames r.limits r.held) (λ p r. homes_in_frames network.peers p.replica.limits p.replica.held r.held) left
step_follows network new (step.Send sender receiver skip count) h left =
    packet_follows network new h sender receiver (λ r. event_frames r.limits (piece_of skip count r.held))
    (λ p r. homes_in_frames network.peers p.replica.limits (piece_of skip count p.replica.held)
    (all_first (IsHome network.peers) count _ (all_drop (IsHome network.peers) skip p.replica.held r.held))) left
step_follows network new (step.Ask sender receiver) h left = packet_follows network new h sender receiver (λ r. question r ∷ []) (λ p r. (tt, tt)) left
step_follows network new (step.Deliver n) h left = packet_did network new h n (slice_get network.packets n) refl left
step_follows network new (step.Restart name) h left = restart_follows network new h name left
step_follows network new (step.Show name) h left = went_same network network new (follows_itself network h) (peer_did network name _ new left).2
step_follows network new step.Agree h left = went_same network network new (follows_itself network h) left

-- So do steps of which none is refused.
pub steps_follow : (network new : Network) (steps : List NetStep) → IsHomely network → after_steps network steps ≡ Some new → Follows network new
steps_follow network new [] h left = went_same network network new (follows_itself network h) left
steps_follow network new (s ∷ steps) h left = at (network_left (net_step network s)) refl left
    (λ next is more. let first = step_follows network next s h is in then_follows network next new first (steps_follow next new steps first.homely more))
  where
    at : (o : Option Network) → network_left (net_step network s) ≡ o → option_and_then (λ next. after_steps next steps) o ≡ Some new
        → ((next : Network) → network_left (net_step network s) ≡ Some next → after_steps next steps ≡ Some new → Follows network new) → Follows network new
    at (Some next) is rest on = on next is rest
    at None is rest on = let no : ⊥ = cc in absurd no
