-- Peers and packets: what each step of a net script does and prints, or why it is refused.
use Rattle.std.specs.Prelude.{ℕ, Bool, ◌&&◌, List, [], ◌∷◌, ◌++◌, length, take, drop, map, find, if◌then◌else◌, Option, Some, None, slice_get, codes, decimal}
use Rattle.std.specs.Option.{option_map_or}
use Rattle.std.specs.List.{list_any, list_all}
use Rattle.ew_model.specs.declared.event.Event.{Event}
use Rattle.ew_model.specs.Arrival.{Outcome, arrive}
use Rattle.ew_model.specs.Cuts.{latest_cut}
use Rattle.ew_model.specs.Edits as edits
use Rattle.ew_model.specs.Edits.{Edit, EditRefusal, edit_refusal, events_of_edit}
use Rattle.ew_model.specs.Edits.EditRefusal.{OutOfRange}
use Rattle.ew_model.specs.Events.{event_eq}
use Rattle.ew_model.specs.Ids.{name_eq}
use Rattle.ew_model.specs.Kept.{ReplicaState}
use Rattle.ew_model.specs.Limits.{LimitNumbers}
use Rattle.ew_model.specs.Scripts.{escaped_text, spaced}
use Rattle.ew_model.specs.Texts.{text_of}
use Rattle.peer_definitions.specs.declared.net_step.NetStep.{NetStep}
use Rattle.peer_definitions.specs.declared.net_step.NetStep.TheVariants as step
use Rattle.history_definitions.specs.Tallies.{accepted_in, repeats_in, refused_in}
use Rattle.peer_definitions.specs.Answering.{answer_to, event_frames, question}
use Rattle.peer_definitions.specs.declared.frame.Frame.{Frame}
use Rattle.peer_definitions.specs.declared.frame.Frame.TheVariants.{Events}
use Rattle.ew_model.specs.declared.id.Id.{Id}
use Rattle.undo_definitions.specs.Wanted.{ids_from}
use Rattle.undo_definitions.specs.Undoing as undoing
use Rattle.undo_definitions.specs.Undoing.{UndoRefusal, events_of_undo, undo_refusal}
use Rattle.carets.specs.declared.caret.Caret.{Caret}
use Rattle.carets.specs.declared.caret.Caret.TheVariants.{Root}
use Rattle.carets.specs.Sides.{caret_in, side, text_chars}

-- a peer: its name, which is its agent, what its replica stands for, and its caret
pub record Peer : Type 0 where
  pub name : List ℕ
  pub replica : ReplicaState
  pub caret : Caret

-- frames on their way from a peer to a peer
pub record Packet : Type 0 where
  pub sender : List ℕ
  pub receiver : List ℕ
  pub frames : List Frame

-- the limits of each replica, all peers, and every packet that was ever made
pub record Network : Type 0 where
  pub limits : LimitNumbers
  pub peers : List Peer
  pub packets : List Packet

-- why a step is refused
pub data Refusal : Type 0 where
  NoPeer : (name : List ℕ) → Refusal
  PeerTwice : (name : List ℕ) → Refusal
  NoPacket : (packet : ℕ) → Refusal
  NoEvent : (id : Id) → Refusal
  NoEdit : (why : EditRefusal) → Refusal

-- what a step comes to: the network and the printed bytes, or why it is refused
pub data StepOutcome : Type 0 where
  Stepped : (network : Network) (printed : List ℕ) → StepOutcome
  Refused : (why : Refusal) → StepOutcome

-- nobody is there yet
abbrev pub empty_network : LimitNumbers → Network
empty_network limits = record { limits = limits; peers = []; packets = [] }

-- words with one space between two, and a newline
abbrev pub printed_line : List (List ℕ) → List ℕ
printed_line words = spaced words ++ 10 ∷ []

-- the first of the peers that has this name, if there is one
abbrev pub peer_among : List Peer → List ℕ → Option Peer
peer_among peers name = find (λ (p : Peer). name_eq p.name name) peers

-- the peer of this name, if there is one
abbrev pub peer_of : Network → List ℕ → Option Peer
peer_of network name = peer_among network.peers name

-- what is done with the peer of this name, which has to be there
abbrev pub with_peer : Network → List ℕ → (Peer → StepOutcome) → StepOutcome
with_peer network name act = option_map_or act (peer_of network name) (Refused (NoPeer name))

-- the network in which the replica of the peer of this name stands for something else
abbrev pub put_replica : Network → List ℕ → ReplicaState → Network
put_replica network name replica =
    record {
      limits = network.limits;
      peers = map (λ p. if name_eq p.name name then record { name = p.name; replica = replica; caret = p.caret } else p) network.peers;
      packets = network.packets;
    }

-- the network in which the caret of the peer of this name is another one
abbrev pub put_caret : Network → List ℕ → Caret → Network
put_caret network name caret =
    record {
      limits = network.limits;
      peers = map (λ p. if name_eq p.name name then record { name = p.name; replica = p.replica; caret = caret } else p) network.peers;
      packets = network.packets;
    }

-- a new packet after the others, and the line that tells it
abbrev pub with_packet : Network → List ℕ → List ℕ → List Frame → StepOutcome
with_packet network sender receiver frames =
    Stepped
    (record { limits = network.limits; peers = network.peers; packets = network.packets ++ record { sender = sender; receiver = receiver; frames = frames } ∷ [] })
    (printed_line (codes "packet" ∷ decimal (length network.packets) ∷ sender ∷ receiver ∷ []))

-- a packet that one peer makes for another from what it stands for; both have to be there
abbrev pub packet_step : Network → List ℕ → List ℕ → (ReplicaState → List Frame) → StepOutcome
packet_step network sender receiver made =
    with_peer network sender (λ p. with_peer network receiver (λ q. with_packet network sender receiver (made p.replica)))

-- at most so many events of a history, from a position on
abbrev pub piece_of : ℕ → ℕ → List Event → List Event
piece_of skip count history = take count (drop skip history)

-- the line that tells what became of received events, where so many were held before
abbrev pub arrival_line : List ℕ → ℕ → Outcome → List ℕ
arrival_line name before o =
    printed_line
    (name ∷ codes "accepted" ∷ decimal (accepted_in o.answers) ∷ codes "waiting" ∷ decimal (length o.desk.waiting) ∷ codes "repeats" ∷ decimal (repeats_in o.answers)
    ∷ codes "refused" ∷ decimal (length (refused_in o.answers)) ∷ codes "cut" ∷ decimal (latest_cut o.desk.held before) ∷ [])

-- what is printed where a frame is delivered: a line for events alone
abbrev pub frame_line : List ℕ → ReplicaState → Frame → List ℕ
frame_line name r (Events events) = arrival_line name (length r.held) (arrive r.limits r.held r.waiting events)
frame_line name r frame = []

-- what delivered frames leave: the replica, the frames of the answers, and the printed bytes
pub record Delivery : Type 0 where
  pub replica : ReplicaState
  pub replies : List Frame
  pub printed : List ℕ

-- the frames go to the peer in order, and each is answered
abbrev pub delivery_of : List ℕ → ReplicaState → List Frame → Delivery
delivery_of name replica [] = record { replica = replica; replies = []; printed = [] }
delivery_of name replica (frame ∷ frames) =
    let answered = answer_to replica frame in
    let later = delivery_of name answered.state frames in
    record {
      replica = later.replica;
      replies = answered.frames ++ later.replies;
      printed = frame_line name replica frame ++ later.printed;
    }

-- more bytes in front of what is printed
abbrev pub print_before : List ℕ → StepOutcome → StepOutcome
print_before printed (Stepped network more) = Stepped network (printed ++ more)
print_before printed (Refused why) = Refused why

-- the frames of the answers are one packet back, where there are any
abbrev pub with_replies : Network → Packet → List Frame → StepOutcome
with_replies network packet [] = Stepped network []
with_replies network packet (f ∷ frames) = with_packet network packet.receiver packet.sender (f ∷ frames)

-- the packet is delivered to its receiver, and stays
abbrev pub deliver_step : Network → Packet → StepOutcome
deliver_step network packet =
    with_peer network packet.receiver
    (λ p. let d = delivery_of p.name p.replica packet.frames in
    print_before d.printed (with_replies (put_replica network packet.receiver d.replica) packet d.replies))

-- a peer holds events that it made after the others, and their number is told
abbrev pub made_outcome : Network → Peer → List Event → StepOutcome
made_outcome network p made =
    Stepped
    (put_replica network p.name (record { limits = p.replica.limits; held = p.replica.held ++ made; waiting = p.replica.waiting }))
    (printed_line (p.name ∷ codes "made" ∷ decimal (length made) ∷ []))

-- the events of an edit are made, unless it is refused
abbrev pub edit_outcome : Network → Peer → Edit → Option EditRefusal → StepOutcome
edit_outcome network p e (Some why) = Refused (NoEdit why)
edit_outcome network p e None = made_outcome network p (events_of_edit p.replica.held p.name e)

-- a local edit of a peer
abbrev pub edit_step : Network → List ℕ → Edit → StepOutcome
edit_step network name e = with_peer network name (λ p. edit_outcome network p e (edit_refusal p.replica.limits p.replica.held p.name e))

-- why a step is refused whose undo is refused for this: heads and room are those of an edit
abbrev pub no_undo : UndoRefusal → Refusal
no_undo (undoing.UndoRefusal.NoEvent id) = NoEvent id
no_undo (undoing.UndoRefusal.TooManyHeads heads) = NoEdit (edits.EditRefusal.TooManyHeads heads)
no_undo (undoing.UndoRefusal.Full count) = NoEdit (edits.EditRefusal.Full count)

-- the events of an undo are made, unless it is refused
abbrev pub undo_outcome : Network → Peer → List Id → Option UndoRefusal → StepOutcome
undo_outcome network p undone (Some why) = Refused (no_undo why)
undo_outcome network p undone None = made_outcome network p (events_of_undo p.replica.held p.name undone)

-- a peer undoes events, which its history has to hold
abbrev pub undo_step : Network → List ℕ → List Id → StepOutcome
undo_step network name undone = with_peer network name (λ p. undo_outcome network p undone (undo_refusal p.replica.limits p.replica.held undone))

-- the line that tells an index of a caret
abbrev pub caret_line : List ℕ → ℕ → List ℕ
caret_line name at = printed_line (name ∷ codes "caret" ∷ decimal at ∷ [])

-- the caret of the peer is the one at an index of its text, where there is one; else the text's length is told, as of an edit
abbrev pub caret_outcome : Network → Peer → ℕ → Option Caret → StepOutcome
caret_outcome network p at None = Refused (NoEdit (OutOfRange (length (text_of p.replica.held))))
caret_outcome network p at (Some c) = Stepped (put_caret network p.name c) (caret_line p.name at)

-- the caret of a peer is set at an index of its text
abbrev pub caret_step : Network → List ℕ → ℕ → StepOutcome
caret_step network name at = with_peer network name (λ p. caret_outcome network p at (caret_in (text_chars p.replica.held) at))

-- where the caret of a peer stands in its text
abbrev pub where_outcome : Network → Peer → StepOutcome
where_outcome network p = Stepped network (caret_line p.name (side p.replica.held p.caret))

-- a peer that holds nothing, with its caret at the root, where there is none of this name
abbrev pub peer_step : Network → List ℕ → Option Peer → StepOutcome
peer_step network name (Some p) = Refused (PeerTwice name)
peer_step network name None =
    Stepped
    (record {
      limits = network.limits;
      peers = network.peers ++ record { name = name; replica = record { limits = network.limits; held = []; waiting = [] }; caret = Root } ∷ [];
      packets = network.packets;
    }) (printed_line (codes "peer" ∷ name ∷ []))

-- it keeps what it holds, and what waited is lost
abbrev pub built_again : ReplicaState → ReplicaState
built_again r = record { limits = r.limits; held = r.held; waiting = [] }

-- the peer's replica is built again, and its caret stays
abbrev pub restart_outcome : Network → Peer → StepOutcome
restart_outcome network p = Stepped (put_replica network p.name (built_again p.replica)) (printed_line (p.name ∷ codes "restarted" ∷ []))

-- each event of the one list is one of the other
abbrev pub are_held_by : List Event → List Event → Bool
are_held_by xs ys = list_all (λ x. list_any (event_eq x) ys) xs

-- all peers hold equal sets of events
abbrev pub all_agree : List Peer → Bool
all_agree peers = list_all (λ p. list_all (λ q. are_held_by p.replica.held q.replica.held && are_held_by q.replica.held p.replica.held) peers) peers

-- whether they do, in a line
abbrev pub agree_line : List Peer → List ℕ
agree_line peers = printed_line (codes "agree" ∷ (if all_agree peers then codes "yes" else codes "no") ∷ [])

-- what a step of a net script makes of the network and prints, or why it is refused
unfoldable pub net_step : Network → NetStep → StepOutcome
net_step network (step.Peer name) = peer_step network name (peer_of network name)
net_step network (step.Ins who at text) = edit_step network who (edits.Edit.Insert at text)
net_step network (step.Del who at n) = edit_step network who (edits.Edit.Delete at n)
net_step network (step.Mark who label) = edit_step network who (edits.Edit.Mark label)
net_step network (step.Undo who whose first count) = undo_step network who (ids_from whose first count)
net_step network (step.Caret who at) = caret_step network who at
net_step network (step.Where name) = with_peer network name (where_outcome network)
net_step network (step.Push sender receiver) = packet_step network sender receiver (λ r. event_frames r.limits r.held)
net_step network (step.Send sender receiver skip count) = packet_step network sender receiver (λ r. event_frames r.limits (piece_of skip count r.held))
net_step network (step.Ask sender receiver) = packet_step network sender receiver (λ r. question r ∷ [])
net_step network (step.Deliver n) = option_map_or (deliver_step network) (slice_get network.packets n) (Refused (NoPacket n))
net_step network (step.Restart name) = with_peer network name (restart_outcome network)
net_step network (step.Show name) = with_peer network name (λ p. Stepped network (printed_line (name ∷ escaped_text (text_of p.replica.held) ∷ [])))
net_step network step.Agree = Stepped network (agree_line network.peers)
