-- A step makes at most one packet.
use Rattle.std.proofs.Common.{◌≡◌, ℕ, suc, ◌≤◌, List, [], ◌∷◌, ◌++◌, length, Option, Some, None, refl, sym, ap, ◌∙◌, arith}
use Rattle.std.specs.List.{slice_get}
use Rattle.std.specs.Option.{option_map_or}
use Rattle.std.proofs.lemmas.List.{length-append}
use Rattle.ew_model.specs.Edits as edits
use Rattle.ew_model.specs.Edits.{Edit, EditRefusal, edit_refusal}
use Rattle.ew_model.specs.Kept.{ReplicaState}
use Rattle.peer_definitions.specs.declared.net_step.NetStep.{NetStep}
use Rattle.peer_definitions.specs.declared.net_step.NetStep.TheVariants as step
use Rattle.peer_definitions.specs.Answering.{event_frames, question}
use Rattle.peer_definitions.specs.declared.frame.Frame.{Frame}
use Rattle.net_core.specs.Laws.{network_left}
use Rattle.ew_model.specs.declared.id.Id.{Id}
use Rattle.carets.specs.declared.caret.Caret.{Caret}
use Rattle.carets.specs.Sides.{caret_in, text_chars}
use Rattle.undo_definitions.specs.Undoing.{UndoRefusal, undo_refusal}
use Rattle.undo_definitions.specs.Wanted.{ids_from}
use Rattle.peer_definitions.specs.Machine.{Network, Packet, Peer, caret_outcome, deliver_step, delivery_of, edit_outcome, net_step, peer_of, peer_step, piece_of, print_before, put_replica, restart_outcome, undo_outcome, where_outcome, with_packet, with_peer, with_replies}
use Rattle.peer_definitions.specs.Machine.Refusal.{NoPacket}
use Rattle.peer_definitions.specs.Machine.StepOutcome.{Refused}
use Rattle.net_core.proofs.Following.{peer_did}

module _ (network new : Network) where
  abbrev pub AddsOne : Type 0
  AddsOne = length new.packets ≤ suc (length network.packets)

  same_many : (other : Network) → other.packets ≡ network.packets → Some other ≡ Some new → AddsOne
  same_many other packets same =
      let is : other ≡ new = cc in
      let long : length new.packets ≡ length network.packets = ap (λ (n : Network). length n.packets) (sym is) ∙ ap length packets in
      omega (arith, long)

  one_more : (other : Network) (k : Packet) → other.packets ≡ network.packets ++ k ∷ [] → Some other ≡ Some new → AddsOne
  one_more other k packets same =
      let is : other ≡ new = cc in
      let long : length new.packets ≡ length (network.packets ++ k ∷ []) = ap (λ (n : Network). length n.packets) (sym is) ∙ ap length packets in
      let both = length-append network.packets (k ∷ []) in
      omega (arith, long, both)

  peer_one : (name : List ℕ) (o : Option Peer) → network_left (peer_step network name o) ≡ Some new → AddsOne
  peer_one name (Some p) left = let no : ⊥ = cc in absurd no
  peer_one name None left = same_many _ refl left

  edit_one : (e : Edit) (p : Peer) (o : Option EditRefusal) → network_left (edit_outcome network p e o) ≡ Some new → AddsOne
  edit_one e p (Some why) left = let no : ⊥ = cc in absurd no
  edit_one e p None left = same_many _ refl left

  undo_one : (undone : List Id) (p : Peer) (o : Option UndoRefusal) → network_left (undo_outcome network p undone o) ≡ Some new → AddsOne
  undo_one undone p (Some why) left = let no : ⊥ = cc in absurd no
  undo_one undone p None left = same_many _ refl left

  caret_one : (p : Peer) (at : ℕ) (o : Option Caret) → network_left (caret_outcome network p at o) ≡ Some new → AddsOne
  caret_one p at None left = let no : ⊥ = cc in absurd no
  caret_one p at (Some c) left = same_many _ refl left

  sent_one : (sender receiver : List ℕ) (made : ReplicaState → List Frame)
      → network_left (with_peer network sender (λ p. with_peer network receiver (λ q. with_packet network sender receiver (made p.replica)))) ≡ Some new → AddsOne
  sent_one sender receiver made left =
      let p = peer_did network sender (λ p. with_peer network receiver (λ q. with_packet network sender receiver (made p.replica))) new left in
      let q = peer_did network receiver (λ q. with_packet network sender receiver (made p.0.replica)) new p.2 in
      one_more _ _ refl q.2

  replies_one : (between : Network) (k : Packet) (printed : List ℕ) (replies : List Frame) → between.packets ≡ network.packets
      → network_left (print_before printed (with_replies between k replies)) ≡ Some new → AddsOne
  replies_one between k printed [] packets left = same_many between packets left
  replies_one between k printed (f ∷ frames) packets left = one_more _ _
      (ap (λ ks. ks ++ record { sender = k.receiver; receiver = k.sender; frames = f ∷ frames } ∷ []) packets) left

  packet_one : (n : ℕ) (o : Option Packet) → network_left (option_map_or (deliver_step network) o (Refused (NoPacket n))) ≡ Some new → AddsOne
  packet_one n None left = let no : ⊥ = cc in absurd no
  packet_one n (Some k) left =
      let did = peer_did network k.receiver (λ p. let d = delivery_of p.name p.replica k.frames in print_before d.printed
      (with_replies (put_replica network k.receiver d.replica) k d.replies)) new left in
      let d = delivery_of did.0.name did.0.replica k.frames in
      replies_one (put_replica network k.receiver d.replica) k d.printed d.replies refl did.2

-- Each step does.
pub adds_one : (network new : Network) (s : NetStep) → network_left (net_step network s) ≡ Some new → length new.packets ≤ suc (length network.packets)
unfolding net_step
adds_one network new (step.Peer name) left = peer_one network new name (peer_of network name) left
adds_one network new (step.Ins who at text) left =
    let did = peer_did network who (λ p. edit_outcome network p (edits.Edit.Insert at text)
    (edit_refusal p.replica.limits p.replica.held p.name (edits.Edit.Insert at text))) new left in
    edit_one network new (edits.Edit.Insert at text) did.0 _ did.2
adds_one network new (step.Del who at n) left =
    let did = peer_did network who (λ p. edit_outcome network p (edits.Edit.Delete at n)
    (edit_refusal p.replica.limits p.replica.held p.name (edits.Edit.Delete at n))) new left in
    edit_one network new (edits.Edit.Delete at n) did.0 _ did.2
adds_one network new (step.Mark who label) left =
    let did = peer_did network who (λ p. edit_outcome network p (edits.Edit.Mark label)
    (edit_refusal p.replica.limits p.replica.held p.name (edits.Edit.Mark label))) new left in
    edit_one network new (edits.Edit.Mark label) did.0 _ did.2
adds_one network new (step.Undo who whose first count) left =
    let undone = ids_from whose first count in
    let did = peer_did network who (λ p. undo_outcome network p undone (undo_refusal p.replica.limits p.replica.held undone)) new left in
    undo_one network new undone did.0 _ did.2
adds_one network new (step.Caret who at) left =
    let did = peer_did network who (λ p. caret_outcome network p at (caret_in (text_chars p.replica.held) at)) new left in
    caret_one network new did.0 at _ did.2
adds_one network new (step.Where name) left = same_many network new network refl (peer_did network name (where_outcome network) new left).2
adds_one network new (step.Push sender receiver) left = sent_one network new sender receiver (λ r. event_frames r.limits r.held) left
adds_one network new (step.Send sender receiver skip count) left = sent_one network new sender receiver (λ r. event_frames r.limits (piece_of skip count r.held)) left
adds_one network new (step.Ask sender receiver) left = sent_one network new sender receiver (λ r. question r ∷ []) left
adds_one network new (step.Deliver n) left = packet_one network new n (slice_get network.packets n) left
adds_one network new (step.Restart name) left = same_many network new _ refl (peer_did network name (restart_outcome network) new left).2
adds_one network new (step.Show name) left = same_many network new network refl (peer_did network name _ new left).2
adds_one network new step.Agree left = same_many network new network refl left
