-- What holds of a net at every moment.
use Rattle.std.specs.Prelude.{◌≡◌, ◌<◌, ◌^◌, false, List, [], ◌∷◌, length, Some}
use Rattle.std.specs.List.{AllByRecursion, list_any}
use Rattle.ew_model.specs.declared.event.Event.{Event}
use Rattle.ew_model.specs.Ids.{name_eq}
use Rattle.ew_model.specs.Kept.{IsKept, ReplicaState}
use Rattle.ew_model.specs.Limits.{AreLimits, LimitNumbers}
use Rattle.ew_model.specs.Sets.{Among}
use Rattle.peer_definitions.specs.declared.frame.Frame.{Frame}
use Rattle.peer_definitions.specs.declared.frame.Frame.TheVariants.{Events}
use Rattle.peer_frames.specs.Laws.{IsTaken}
use Rattle.peer_definitions.specs.Machine.{Network, Packet, Peer, peer_among}

-- no two peers have one name
abbrev pub AreNamedApart : List Peer → Type 0
AreNamedApart [] = Unit {0}
AreNamedApart (p ∷ peers) = (list_any (λ (q : Peer). name_eq q.name p.name) peers ≡ false) × AreNamedApart peers

-- the event stands in the history of the peer whose name is its agent
pub record IsHome (peers : List Peer) (e : Event) : Type 0 where
  pub home : Peer
  pub found : peer_among peers e.id.agent ≡ Some home
  pub held : Among e home.replica.held

-- the replica has these limits, keeps what a replica keeps, and what it holds and what waits stands where it was made
pub record IsReplica (limits : LimitNumbers) (peers : List Peer) (r : ReplicaState) : Type 0 where
  pub same : r.limits ≡ limits
  pub kept : IsKept r.limits r.held r.waiting
  pub held : AllByRecursion (IsHome peers) r.held
  pub waiting : AllByRecursion (IsHome peers) r.waiting

-- the events that a frame brings
abbrev pub events_in : Frame → List Event
events_in (Events events) = events
events_in frame = []

-- a reader with these limits takes the frame, and its events stand where they were made
pub record IsFrame (limits : LimitNumbers) (peers : List Peer) (f : Frame) : Type 0 where
  pub taken : IsTaken limits f
  pub events : AllByRecursion (IsHome peers) (events_in f)

-- the packet goes from a peer to a peer
pub record IsPacket (limits : LimitNumbers) (peers : List Peer) (packet : Packet) : Type 0 where
  pub sender : Peer
  pub sender_is : peer_among peers packet.sender ≡ Some sender
  pub receiver : Peer
  pub receiver_is : peer_among peers packet.receiver ≡ Some receiver
  pub frames : AllByRecursion (IsFrame limits peers) packet.frames

-- a network that scripts reach
pub record IsReached (network : Network) : Type 0 where
  pub limits : AreLimits network.limits
  pub apart : AreNamedApart network.peers
  pub peers : AllByRecursion (λ (p : Peer). IsReplica network.limits network.peers p.replica) network.peers
  pub packets : AllByRecursion (IsPacket network.limits network.peers) network.packets
  pub few : length network.packets < 2 ^ 32
