-- What a step comes to, and how it is refused.
use Rattle.std.proofs.Common.{◌≡◌, ℕ, ◌<◌, List, [], ◌∷◌, length, Option, Some, None, refl, ap, ◌∙◌}
use Rattle.std.specs.List.{slice_get}
use Rattle.std.specs.Prelude.{Err}
use Rattle.std.specs.Option.{option_map_or}
use Rattle.ew_model.specs.Edits as edits
use Rattle.ew_model.specs.Kept.{ReplicaState}
use Rattle.ew_model.specs.Scripts.{escaped_text}
use Rattle.ew_model.specs.Texts.{text_of}
use Rattle.ew_model.proofs.ListParts.{element_there}
use Rattle.peer_definitions.specs.declared.net_step.NetStep.{NetStep}
use Rattle.peer_definitions.specs.declared.net_step.NetStep.TheVariants as step
use Rattle.peer_definitions.specs.Answering.{event_frames, question}
use Rattle.peer_definitions.specs.declared.frame.Frame.{Frame}
use Rattle.net_core.specs.declared.fault.NetFault.{NetFault}
use Rattle.net_core.specs.declared.fault.NetFault.TheVariants as fault
use Rattle.net_core.specs.Answers.{StepsTo, refusal_told}
use Rattle.peer_definitions.specs.Machine.{Network, Peer, Refusal, StepOutcome, agree_line, caret_step, edit_step, net_step, packet_step, peer_of, peer_step, piece_of, printed_line, restart_outcome, undo_step, where_outcome, with_packet, with_peer}
use Rattle.undo_definitions.specs.Wanted.{ids_from}
use Rattle.peer_definitions.specs.Machine.Refusal.{NoPeer, PeerTwice}
use Rattle.peer_definitions.specs.Machine.StepOutcome.{Stepped, Refused}

-- the peer at the place that was found
pub peer_at : (network : Network) (name : List ℕ) (i : ℕ) → i < length network.peers → peer_of network name ≡ slice_get network.peers i
    → (p : Peer) × (slice_get network.peers i ≡ Some p) × (peer_of network name ≡ Some p)
peer_at network name i h found = let p = element_there network.peers i h in (p.0, p.1, found ∙ p.1)

pub no_peer : (network : Network) (name : List ℕ) (act : Peer → StepOutcome) → peer_of network name ≡ None → with_peer network name act ≡ Refused (NoPeer name)
no_peer network name act none = ap (λ (o : Option Peer). option_map_or act o (Refused (NoPeer name))) none

pub at_peer : (network : Network) (name : List ℕ) (act : Peer → StepOutcome) (p : Peer) → peer_of network name ≡ Some p → with_peer network name act ≡ act p
at_peer network name act p found = ap (λ (o : Option Peer). option_map_or act o (Refused (NoPeer name))) found

-- a refusal leaves all as before
pub refused : (old new : Network) (s : NetStep) (f : NetFault) (why : Refusal) → refusal_told f ≡ Some why → net_step old s ≡ Refused why
    → new ≡ old → StepsTo old s new (Err f)
refused old new s (fault.NoPeer name) why told is same = ((why, told, is), same)
refused old new s (fault.PeerTwice name) why told is same = ((why, told, is), same)
refused old new s (fault.NoPacket n) why told is same = ((why, told, is), same)
refused old new s (fault.NoEvent id) why told is same = ((why, told, is), same)
refused old new s (fault.OutOfRange len) why told is same = ((why, told, is), same)
refused old new s (fault.TooManyHeads heads) why told is same = ((why, told, is), same)
refused old new s (fault.Full count) why told is same = ((why, told, is), same)
refused old new s fault.OutOfMemory why told is same = let no : ⊥ = cc in absurd no

-- a packet between two peers
module _ (network : Network) (sender receiver : List ℕ) (made : ReplicaState → List Frame) where
  pub no_sender : peer_of network sender ≡ None → packet_step network sender receiver made ≡ Refused (NoPeer sender)
  no_sender none = no_peer network sender (λ p. with_peer network receiver (λ q. with_packet network sender receiver (made p.replica))) none

  pub no_receiver : (p : Peer) → peer_of network sender ≡ Some p → peer_of network receiver ≡ None → packet_step network sender receiver made ≡ Refused (NoPeer receiver)
  no_receiver p found none =
      at_peer network sender (λ p. with_peer network receiver (λ q. with_packet network sender receiver (made p.replica))) p found
      ∙ no_peer network receiver (λ q. with_packet network sender receiver (made p.replica)) none

  pub packet_made : (p q : Peer) → peer_of network sender ≡ Some p → peer_of network receiver ≡ Some q
      → packet_step network sender receiver made ≡ with_packet network sender receiver (made p.replica)
  packet_made p q found there =
      at_peer network sender (λ p. with_peer network receiver (λ q. with_packet network sender receiver (made p.replica))) p found
      ∙ at_peer network receiver (λ q. with_packet network sender receiver (made p.replica)) q there

-- the steps of the machine
pub peer_is : (network : Network) (name : List ℕ) → net_step network (step.Peer name) ≡ peer_step network name (peer_of network name)
unfolding net_step
peer_is network name = refl

pub ins_is : (network : Network) (who : List ℕ) (at : ℕ) (text : List ℕ) → net_step network (step.Ins who at text) ≡ edit_step network who (edits.Edit.Insert at text)
unfolding net_step
ins_is network who at text = refl

pub del_is : (network : Network) (who : List ℕ) (at n : ℕ) → net_step network (step.Del who at n) ≡ edit_step network who (edits.Edit.Delete at n)
unfolding net_step
del_is network who at n = refl

pub mark_is : (network : Network) (who label : List ℕ) → net_step network (step.Mark who label) ≡ edit_step network who (edits.Edit.Mark label)
unfolding net_step
mark_is network who label = refl

pub undo_is : (network : Network) (who whose : List ℕ) (first count : ℕ) → net_step network (step.Undo who whose first count) ≡ undo_step network who (ids_from whose first count)
unfolding net_step
undo_is network who whose first count = refl

pub caret_is : (network : Network) (who : List ℕ) (at : ℕ) → net_step network (step.Caret who at) ≡ caret_step network who at
unfolding net_step
caret_is network who at = refl

pub where_is : (network : Network) (name : List ℕ) → net_step network (step.Where name) ≡ with_peer network name (where_outcome network)
unfolding net_step
where_is network name = refl

-- a name that is there, and one that isn't
pub twice : (network : Network) (name : List ℕ) (p : Peer) → peer_of network name ≡ Some p → net_step network (step.Peer name) ≡ Refused (PeerTwice name)
twice network name p found = peer_is network name ∙ ap (peer_step network name) found

pub added : (network : Network) (name : List ℕ) → peer_of network name ≡ None → net_step network (step.Peer name) ≡ peer_step network name None
added network name none = peer_is network name ∙ ap (peer_step network name) none

pub push_is : (network : Network) (sender receiver : List ℕ) → net_step network (step.Push sender receiver) ≡ packet_step network sender receiver
    (λ r. event_frames r.limits r.held)
unfolding net_step
push_is network sender receiver = refl

pub send_is : (network : Network) (sender receiver : List ℕ) (skip count : ℕ)
    → net_step network (step.Send sender receiver skip count) ≡ packet_step network sender receiver (λ r. event_frames r.limits (piece_of skip count r.held))
unfolding net_step
send_is network sender receiver skip count = refl

pub ask_is : (network : Network) (sender receiver : List ℕ) → net_step network (step.Ask sender receiver) ≡ packet_step network sender receiver (λ r. question r ∷ [])
unfolding net_step
ask_is network sender receiver = refl

pub restart_is : (network : Network) (name : List ℕ) → net_step network (step.Restart name) ≡ with_peer network name (restart_outcome network)
unfolding net_step
restart_is network name = refl

pub show_is : (network : Network) (name : List ℕ) → net_step network (step.Show name) ≡ with_peer network name
    (λ p. Stepped network (printed_line (name ∷ escaped_text (text_of p.replica.held) ∷ [])))
unfolding net_step
show_is network name = refl

pub agree_is : (network : Network) → net_step network step.Agree ≡ Stepped network (agree_line network.peers)
unfolding net_step
agree_is network = refl
