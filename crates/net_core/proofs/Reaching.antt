-- What holds of a network at every moment, step by step.
use Rattle.std.proofs.Common.{◌≡◌, ℕ, ◌<◌, ◌^◌, ◌⊎◌, inl, inr, true, false, ◌||◌, List, [], ◌∷◌, ◌++◌, length, map, Option, Some, None, refl, sym, ap, subst, ◌∙◌, arith}
use Rattle.std.specs.List.{AllByRecursion, list_any}
use Rattle.std.specs.Option.{option_or}
use Rattle.std.proofs.lemmas.Bool.{cases_Bool, cond-true, cond-false, or_parts}
use Rattle.std.proofs.lemmas.List.Folds.{find-append}
use Rattle.ew_model.specs.declared.event.Event.{Event}
use Rattle.ew_model.specs.Ids.{name_eq}
use Rattle.ew_model.specs.Kept.{ReplicaState}
use Rattle.ew_model.specs.Limits.{AreLimits, LimitNumbers}
use Rattle.ew_model.specs.Sets.{Among}
use Rattle.ew_model.specs.Verdicts.{IsGood}
use Rattle.ew_model.proofs.EntryLaws.{all_joined}
use Rattle.ew_model.proofs.IdLaws.{names_equal}
use Rattle.peer_definitions.specs.declared.frame.Frame.{Frame}
use Rattle.peer_frames.specs.Laws.{IsTaken}
use Rattle.net_core.specs.Keeping.{AreNamedApart, IsFrame, IsHome, IsPacket, IsReached, IsReplica, events_in}
use Rattle.carets.specs.declared.caret.Caret.{Caret}
use Rattle.carets.specs.declared.caret.Caret.TheVariants.{Root}
use Rattle.peer_definitions.specs.Machine.{Network, Packet, Peer, peer_among, put_caret, put_replica}
use Rattle.net_core.proofs.Puts.{changed_apart, changed_elsewhere, changed_here, changed_in, found_changed, put_in, still_home, with_caret, with_replica}

-- what each element passes on
pub all_on : {X : Type 0} {P Q : X → Type 0} → ((x : X) → P x → Q x) → (xs : List X) → AllByRecursion P xs → AllByRecursion Q xs
all_on on [] h = tt
all_on on (x ∷ xs) h = (on x h.0, all_on on xs h.1)

-- the events of a frame stand where they were made
abbrev pub HasHomes : List Peer → Frame → Type 0
HasHomes peers f = AllByRecursion (IsHome peers) (events_in f)

-- the packet goes from a peer to a peer, and its events stand where they were made
pub record IsSent (peers : List Peer) (packet : Packet) : Type 0 where
  pub sender : Peer
  pub sender_is : peer_among peers packet.sender ≡ Some sender
  pub receiver : Peer
  pub receiver_is : peer_among peers packet.receiver ≡ Some receiver
  pub frames : AllByRecursion (HasHomes peers) packet.frames

-- what holds of a network whatever its limits are, and however many packets there are
pub record IsHomely (network : Network) : Type 0 where
  pub apart : AreNamedApart network.peers
  pub peers : AllByRecursion (λ (p : Peer). IsReplica network.limits network.peers p.replica) network.peers
  pub packets : AllByRecursion (IsSent network.peers) network.packets

-- readers take the frames of all packets
abbrev pub AreTaken : LimitNumbers → Packet → Type 0
AreTaken limits packet = AllByRecursion (IsTaken limits) packet.frames

-- the limits are limits, and the packets are few
pub record IsFit (limits : LimitNumbers) (packets : List Packet) : Type 0 where
  pub are : AreLimits limits
  pub taken : AllByRecursion (AreTaken limits) packets
  pub few : length packets < 2 ^ 32

-- both together
pub homely : (network : Network) → IsReached network → IsHomely network
homely network h = record {
  apart = h.apart;
  peers = h.peers;
  packets = all_on (λ (k : Packet) (p : IsPacket network.limits network.peers k). record {
    sender = p.sender;
    sender_is = p.sender_is;
    receiver = p.receiver;
    receiver_is = p.receiver_is;
    frames = all_on (λ (f : Frame) (x : IsFrame network.limits network.peers f). x.events) k.frames p.frames;
  }) network.packets h.packets;
}

pub fit : (network : Network) → IsReached network → IsFit network.limits network.packets
fit network h = record {
  are = h.limits;
  taken = all_on (λ (k : Packet) (p : IsPacket network.limits network.peers k). all_on
      (λ (f : Frame) (x : IsFrame network.limits network.peers f). x.taken) k.frames p.frames) network.packets h.packets;
  few = h.few;
}

both_frames : (limits : LimitNumbers) (peers : List Peer) (frames : List Frame) → AllByRecursion (IsTaken limits) frames → AllByRecursion (HasHomes peers) frames
    → AllByRecursion (IsFrame limits peers) frames
both_frames limits peers [] h k = tt
both_frames limits peers (f ∷ frames) h k = (record { taken = h.0; events = k.0 }, both_frames limits peers frames h.1 k.1)

pub both_packet : (limits : LimitNumbers) (peers : List Peer) (k : Packet) → IsSent peers k → AreTaken limits k → IsPacket limits peers k
both_packet limits peers k sent taken = record {
  sender = sent.sender;
  sender_is = sent.sender_is;
  receiver = sent.receiver;
  receiver_is = sent.receiver_is;
  frames = both_frames limits peers k.frames taken sent.frames;
}

both_packets : (limits : LimitNumbers) (peers : List Peer) (packets : List Packet) → AllByRecursion (IsSent peers) packets → AllByRecursion (AreTaken limits) packets
    → AllByRecursion (IsPacket limits peers) packets
both_packets limits peers [] h k = tt
both_packets limits peers (k ∷ packets) h t = (both_packet limits peers k h.0 t.0, both_packets limits peers packets h.1 t.1)

pub reached : (network : Network) → IsHomely network → IsFit network.limits network.packets → IsReached network
reached network h f = record { limits = f.are; apart = h.apart; peers = h.peers; packets = both_packets network.limits network.peers network.packets h.packets f.taken; few = f.few }

-- where each event keeps its home
module _ (limits : LimitNumbers) (peers others : List Peer) (home : (e : Event) → IsHome peers e → IsHome others e) where
  pub still_replica : (r : ReplicaState) → IsReplica limits peers r → IsReplica limits others r
  still_replica r h = record { same = h.same; kept = h.kept; held = all_on home r.held h.held; waiting = all_on home r.waiting h.waiting }

  pub still_frame : (f : Frame) → HasHomes peers f → HasHomes others f
  still_frame f h = all_on home (events_in f) h

-- one more packet
pub one_more_sent : (network : Network) (k : Packet) → IsHomely network → IsSent network.peers k
    → IsHomely (record { limits = network.limits; peers = network.peers; packets = network.packets ++ k ∷ [] })
one_more_sent network k h sent = record { apart = h.apart; peers = h.peers; packets = all_joined (IsSent network.peers) network.packets (k ∷ []) h.packets (sent, tt) }

pub one_more_packet : (network : Network) (k : Packet) → IsReached network → IsPacket network.limits network.peers k → length (network.packets ++ k ∷ []) < 2 ^ 32
    → IsReached (record { limits = network.limits; peers = network.peers; packets = network.packets ++ k ∷ [] })
one_more_packet network k h packet few =
    record {
      limits = h.limits;
      apart = h.apart;
      peers = h.peers;
      packets = all_joined (IsPacket network.limits network.peers) network.packets (k ∷ []) h.packets (packet, tt);
      few = few;
    }

-- one more peer
module _ (peers : List Peer) (q : Peer) where
  pub still_there : (name : List ℕ) (p : Peer) → peer_among peers name ≡ Some p → peer_among (peers ++ q ∷ []) name ≡ Some p
  still_there name p found =
      find-append (λ (x : Peer). name_eq x.name name) peers (q ∷ []) ∙ ap (λ (x : Option Peer). option_or x (peer_among (q ∷ []) name)) found

  home_there : (e : Event) → IsHome peers e → IsHome (peers ++ q ∷ []) e
  home_there e h = record { home = h.home; found = still_there e.id.agent h.home h.found; held = h.held }

packet_there : (limits : LimitNumbers) (peers : List Peer) (q : Peer) (k : Packet) → IsSent peers k → IsSent (peers ++ q ∷ []) k
packet_there limits peers q k h = record {
  sender = h.sender;
  sender_is = still_there peers q k.sender h.sender h.sender_is;
  receiver = h.receiver;
  receiver_is = still_there peers q k.receiver h.receiver h.receiver_is;
  frames = all_on (still_frame limits peers (peers ++ q ∷ []) (home_there peers q)) k.frames h.frames;
}

-- a peer is changed, and holds all that it held
module _ (network : Network) (name : List ℕ) (f : Peer → Peer) (keeps : (p : Peer) → (f p).name ≡ p.name) (h : IsHomely network)
    (grows : (p : Peer) (e : Event) → peer_among network.peers name ≡ Some p → Among e p.replica.held → Among e (f p).replica.held) where
  abbrev changed : List Peer
  changed = map (changed_in name f) network.peers

  pub home_changed : (e : Event) → IsHome network.peers e → IsHome changed e
  home_changed = still_home network.peers name f keeps grows

  packet_after : (k : Packet) → IsSent network.peers k → IsSent changed k
  packet_after k p = record {
    sender = changed_in name f p.sender;
    sender_is = found_changed name f keeps k.sender p.sender network.peers p.sender_is;
    receiver = changed_in name f p.receiver;
    receiver_is = found_changed name f keeps k.receiver p.receiver network.peers p.receiver_is;
    frames = all_on (still_frame network.limits network.peers changed home_changed) k.frames p.frames;
  }

  replicas_after : ((p : Peer) → IsReplica network.limits network.peers p.replica → IsReplica network.limits changed (f p).replica) → (peers : List Peer)
      → AllByRecursion (λ (p : Peer). IsReplica network.limits network.peers p.replica) peers
      → AllByRecursion (λ (p : Peer). IsReplica network.limits changed p.replica) (map (changed_in name f) peers)
  replicas_after own [] all = tt
  replicas_after own (p ∷ peers) all = (by (cases_Bool (name_eq p.name name)), replicas_after own peers all.1)
    where
      by : (name_eq p.name name ≡ true) ⊎ (name_eq p.name name ≡ false) → IsReplica network.limits changed (changed_in name f p).replica
      by (inl here) = subst (λ (x : Peer). IsReplica network.limits changed x.replica) (sym (changed_here name f p here)) (own p all.0)
      by (inr other) = subst (λ (x : Peer). IsReplica network.limits changed x.replica) (sym (changed_elsewhere name f p other))
          (still_replica network.limits network.peers changed home_changed p.replica all.0)

  pub changed_homely : ((p : Peer) → IsReplica network.limits network.peers p.replica → IsReplica network.limits changed (f p).replica)
      → IsHomely (record { limits = network.limits; peers = changed; packets = network.packets })
  changed_homely own = record {
    apart = changed_apart name f keeps network.peers h.apart;
    peers = replicas_after own network.peers h.peers;
    packets = all_on packet_after network.packets h.packets;
  }

-- a replica is put in place of another that held no more
module _ (network : Network) (name : List ℕ) (r : ReplicaState) (h : IsHomely network)
    (grows : (p : Peer) (e : Event) → peer_among network.peers name ≡ Some p → Among e p.replica.held → Among e r.held) where
  pub home_after : (e : Event) → IsHome network.peers e → IsHome (map (put_in name r) network.peers) e
  home_after = home_changed network name (with_replica r) (λ p. refl) h grows

  pub put_homely : IsReplica network.limits (map (put_in name r) network.peers) r → IsHomely (put_replica network name r)
  put_homely own = changed_homely network name (with_replica r) (λ p. refl) h grows (λ p k. own)

-- a caret is put in place of another
pub caret_homely : (network : Network) (name : List ℕ) (c : Caret) → IsHomely network → IsHomely (put_caret network name c)
caret_homely network name c h =
    changed_homely network name (with_caret c) (λ p. refl) h (λ p e found m. m)
    (λ p k. still_replica network.limits network.peers (map (changed_in name (with_caret c)) network.peers)
    (home_changed network name (with_caret c) (λ q. refl) h (λ q e found m. m)) p.replica k)

-- no peer has the name of the new one
none_there : (name : List ℕ) (q : Peer) (peers : List Peer) → name_eq q.name name ≡ false → list_any (λ (x : Peer). name_eq x.name name) peers ≡ false
    → list_any (λ (x : Peer). name_eq x.name name) (peers ++ q ∷ []) ≡ false
none_there name q [] other none = ap (λ b. b || false) other
none_there name q (p ∷ peers) other none =
    let parts = or_parts (name_eq p.name name) (list_any (λ (x : Peer). name_eq x.name name) peers) none in
    λ i. parts.0 i || none_there name q peers other parts.1 i

apart_push : (peers : List Peer) (q : Peer) → AreNamedApart peers → peer_among peers q.name ≡ None → AreNamedApart (peers ++ q ∷ [])
apart_push [] q h none = (refl, tt)
apart_push (p ∷ peers) q h none = by (cases_Bool (name_eq p.name q.name)) (λ next. apart_push peers q h.1 next)
  where
    by : (name_eq p.name q.name ≡ true) ⊎ (name_eq p.name q.name ≡ false) → (peer_among peers q.name ≡ None → AreNamedApart (peers ++ q ∷ []))
        → AreNamedApart (p ∷ peers ++ q ∷ [])
    by (inl here) more = let found : Some p ≡ None = sym (cond-true _ _ _ here) ∙ none in absurd cc
    by (inr other) more =
        (none_there p.name q peers (names_equal.symm q.name p.name ∙ other) h.0, more (sym (cond-false _ _ _ other) ∙ none))

-- a peer that holds nothing
empty_good : IsGood []
unfolding IsGood
empty_good = tt

abbrev pub new_peer : LimitNumbers → List ℕ → Peer
new_peer limits name = record { name = name; replica = record { limits = limits; held = []; waiting = [] }; caret = Root }

new_replica : (limits : LimitNumbers) (name : List ℕ) (peers : List Peer) → IsReplica limits peers (new_peer limits name).replica
new_replica limits name peers = record {
  same = refl;
  kept = record { orderly = record { good = empty_good; fresh = tt; apart = tt }; few = omega arith; few_wait = omega arith };
  held = tt;
  waiting = tt;
}

-- it comes to the others
pub one_more_peer : (network : Network) (name : List ℕ) → IsHomely network → peer_among network.peers name ≡ None
    → IsHomely (record { limits = network.limits; peers = network.peers ++ new_peer network.limits name ∷ []; packets = network.packets })
one_more_peer network name h none =
    let q : Peer = new_peer network.limits name in
    let home = home_there network.peers q in
    let peers = all_on (λ (p : Peer) (r : IsReplica network.limits network.peers p.replica). still_replica network.limits network.peers
    (network.peers ++ q ∷ []) home p.replica r) network.peers h.peers in
    record {
      apart = apart_push network.peers q h.apart none;
      peers = all_joined (λ (p : Peer). IsReplica network.limits (network.peers ++ q ∷ []) p.replica) network.peers (q ∷ []) peers
          (new_replica network.limits name (network.peers ++ q ∷ []), tt);
      packets = all_on (packet_there network.limits network.peers q) network.packets h.packets;
    }
