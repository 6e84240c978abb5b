-- What holds of every script and at every moment of it.
use Rattle.std.specs.Prelude.{◌≡◌, ◌⊎◌, ◌↔◌, ℕ, ◌<◌, true, false, Bool, List, [], ◌∷◌, ◌++◌, length, filter, slice_get, Some, codes}
use Rattle.std.specs.List.{AllByRecursion}
use Rattle.ew_model.specs.declared.event.Event.{Event}
use Rattle.ew_model.specs.Arrival.{Answer, arrive}
use Rattle.ew_model.specs.ArrivalLaw.{is_full}
use Rattle.ew_model.specs.Ids.{name_eq}
use Rattle.ew_model.specs.Kept.{ReplicaState}
use Rattle.ew_model.specs.Limits.{LimitNumbers, AreLimits}
use Rattle.ew_model.specs.Sets.{Among, SameElements}
use Rattle.ew_model.specs.Texts.{text_of}
use Rattle.ew_model.specs.Verdicts.{Ruling}
use Rattle.ew_model.specs.Verdicts.Ruling.{Clash, GraphFull}
use Rattle.history_definitions.specs.Tallies.{refused_by}
use Rattle.peer_definitions.specs.declared.net_step.NetStep.{NetStep}
use Rattle.peer_definitions.specs.declared.net_step.NetStep.TheVariants as step
use Rattle.peer_definitions.specs.NetScripts.{IsSoundStep}
use Rattle.peer_definitions.specs.Answering.{answer_to}
use Rattle.peer_definitions.specs.declared.frame.Frame.{Frame}
use Rattle.peer_definitions.specs.declared.frame.Frame.TheVariants.{Events}
use Rattle.net_core.specs.Keeping.{IsReached}
use Rattle.peer_definitions.specs.Machine.{Network, Packet, Peer, agree_line, empty_network, net_step, peer_of, printed_line}
pub use Rattle.peer_definitions.specs.Runs.{after_steps, network_left}

-- At every moment of every script each peer keeps what a replica keeps, so that no id stands twice, and every event of a peer, a
-- pool or a packet stands in the history of the peer whose name is its agent.
abbrev pub NetsAreReached : Type 0
NetsAreReached = (limits : LimitNumbers) (steps : List NetStep) (network : Network) → AreLimits limits → AllByRecursion IsSoundStep steps
    → after_steps (empty_network limits) steps ≡ Some network → length steps < 4294967295 → IsReached network

-- the events that an agent made, in order
abbrev pub made_by : List ℕ → List Event → List Event
made_by agent history = filter (λ (e : Event). name_eq e.id.agent agent) history

-- the step is a local edit of the peer of this name
abbrev pub is_edit_of : List ℕ → NetStep → Bool
is_edit_of name (step.Ins who at text) = name_eq who name
is_edit_of name (step.Del who at n) = name_eq who name
is_edit_of name (step.Mark who label) = name_eq who name
is_edit_of name (step.Undo who whose first count) = name_eq who name
is_edit_of name s = false

-- Only a peer's local edits add events of its agent.
abbrev pub OnlyEditsAdd : Type 0
OnlyEditsAdd = (network new : Network) (s : NetStep) (p q : Peer) → IsReached network → IsSoundStep s → network_left (net_step network s) ≡ Some new
    → peer_of network p.name ≡ Some p → peer_of new p.name ≡ Some q → (made_by p.name q.replica.held ≡ made_by p.name p.replica.held) ⊎ (is_edit_of p.name s ≡ true)

-- what is answered to the events of a frame
abbrev pub answers_to : ReplicaState → Frame → List Answer
answers_to r (Events events) = (arrive r.limits r.held r.waiting events).answers
answers_to r f = []

-- what is answered to the events of frames that go to a replica in order
abbrev pub answers_in : ReplicaState → List Frame → List Answer
answers_in r [] = []
answers_in r (f ∷ frames) = answers_to r f ++ answers_in (answer_to r f).state frames

-- another event is held or waits under the id of an event
abbrev pub is_clash : Ruling → Bool
is_clash Clash = true
is_clash ruling = false

-- none of the frames brings such an event
abbrev pub NoneClashes : ReplicaState → List Frame → Type 0
NoneClashes r frames = AllByRecursion (λ (a : Answer). is_clash a.ruling ≡ false) (answers_in r frames)

-- the event isn't refused, or for want of room alone
abbrev pub IsRoomRefusal : Answer → Type 0
IsRoomRefusal a = (refused_by a ≡ []) ⊎ (is_full a.ruling ≡ true)

-- A delivery refuses an event only where a list is full.
abbrev pub OnlyFullRefuses : Type 0
OnlyFullRefuses = (network : Network) (k : Packet) (p : Peer) → IsReached network → Among k network.packets → peer_of network k.receiver ≡ Some p
    → AllByRecursion IsRoomRefusal (answers_in p.replica k.frames)

-- an event was refused since no more may be held
abbrev pub is_graph_full : Ruling → Bool
is_graph_full GraphFull = true
is_graph_full ruling = false

-- no event was
abbrev pub HeldAll : List Answer → Type 0
HeldAll answers = AllByRecursion (λ (a : Answer). is_graph_full a.ruling ≡ false) answers

-- the receiver holds all that the sender held
abbrev pub HoldsAllOf : Peer → Peer → Type 0
HoldsAllOf sender receiver = (e : Event) → Among e sender.replica.held → Among e receiver.replica.held

-- a packet that was made is delivered later, to a receiver with room for its events
pub record Delivered (made later new : Network) (number : ℕ) : Type 0 where
  pub steps : List NetStep
  pub sound : AllByRecursion IsSoundStep steps
  pub later_is : after_steps made steps ≡ Some later
  pub packet : Packet
  pub packet_is : slice_get later.packets number ≡ Some packet
  pub receiver : Peer
  pub receiver_is : peer_of later packet.receiver ≡ Some receiver
  pub room : HeldAll (answers_in receiver.replica packet.frames)
  pub new_is : network_left (net_step later (step.Deliver number)) ≡ Some new
  pub holds : Peer
  pub holds_is : peer_of new packet.receiver ≡ Some holds

-- After the packet of a push is delivered, the receiver holds all that the sender held when it was made.
abbrev pub PushesArrive : Type 0
PushesArrive = (network made later new : Network) (sender receiver : List ℕ) (p : Peer) → IsReached network → IsSoundStep (step.Push sender receiver)
    → network_left (net_step network (step.Push sender receiver)) ≡ Some made → peer_of network sender ≡ Some p
    → (d : Delivered made later new (length network.packets)) → HoldsAllOf p d.holds

-- After the packet that answers a question is delivered, the asking peer holds all that the answering one held when it answered.
abbrev pub AnswersArrive : Type 0
AnswersArrive = (network asked between made later new : Network) (sender receiver : List ℕ) (steps : List NetStep) (p : Peer) → IsReached network
    → IsSoundStep (step.Ask sender receiver) → network_left (net_step network (step.Ask sender receiver)) ≡ Some asked
    → AllByRecursion IsSoundStep steps → after_steps asked steps ≡ Some between
    → peer_of between receiver ≡ Some p → network_left (net_step between (step.Deliver (length network.packets))) ≡ Some made
    → (d : Delivered made later new (length between.packets)) → HoldsAllOf p d.holds

-- the two hold the same events, and show the same text
pub record Agree (p q : Peer) : Type 0 where
  pub events : SameElements p.replica.held q.replica.held
  pub text : text_of p.replica.held ≡ text_of q.replica.held

-- `agree yes` is said just where all peers hold the same events, and then all texts are the same.
abbrev pub AgreementIsTold : Type 0
AgreementIsTold = (network : Network) → IsReached network
    → (agree_line network.peers ≡ printed_line (codes "agree" ∷ codes "yes" ∷ [])) ↔ ((p q : Peer) → Among p network.peers → Among q network.peers → Agree p q)
