-- At every moment of every script readers take the frames of all packets, and events stand where they were made.
use Rattle.std.proofs.Common.{◌≡◌, ℕ, ◌+◌, ◌<◌, ◌≤◌, ◌^◌, true, false, ◌⊎◌, inl, inr, List, [], ◌∷◌, ◌++◌, length, map, Option, Some, None, refl, sym, ap, ◌∙◌, subst, arith}
use Rattle.std.specs.List.{AllByRecursion, slice_get, flat_map}
use Rattle.std.specs.Option.{option_and_then, option_map_or}
use Rattle.std.proofs.lemmas.Bool.{cases_Bool}
use Rattle.std.proofs.lemmas.List.{length-append}
use Rattle.std.proofs.lemmas.List.Sums.{count_by-le-length}
use Rattle.ew_model.specs.declared.event.Event.{Event}
use Rattle.ew_model.specs.Arrival.{Answer, arrive}
use Rattle.ew_model.specs.Edits as edits
use Rattle.ew_model.specs.Edits.{Edit, EditRefusal, edit_refusal, events_of_edit}
use Rattle.ew_model.specs.Ids.{name_eq}
use Rattle.ew_model.specs.Kept.{ReplicaState}
use Rattle.ew_model.specs.Limits.{AreLimits, LimitNumbers}
use Rattle.ew_model.specs.Names.{is_name}
use Rattle.ew_model.specs.Sets.{Among}
use Rattle.ew_model.specs.Sound.{AreSound, IsSound}
use Rattle.ew_model.specs.Verdicts.{is_verdict_good}
use Rattle.ew_model.proofs.EntryLaws.{all_joined}
use Rattle.ew_model.proofs.LimitsKept.{arrivals_keep}
use Rattle.ew_model.proofs.SortingLaws.{all_at}
use Rattle.event_graph.proofs.Tails.{all_first}
use Rattle.history_definitions.specs.Missing.{missing}
use Rattle.history_definitions.specs.Tallies.{accepted_in, is_repeat, refused_in, repeats_in}
use Rattle.peer_definitions.specs.NetScripts.{IsSoundStep}
use Rattle.peer_definitions.specs.declared.net_step.NetStep.{NetStep}
use Rattle.peer_definitions.specs.declared.net_step.NetStep.TheVariants as step
use Rattle.peer_exchange.proofs.Ascending.{summary_sound}
use Rattle.peer_exchange.proofs.Lengths.{all_drop, bye_taken, missing_few, missing_sound, question_taken, sent_taken, took_taken}
use Rattle.peer_exchange.proofs.Refused.{refused_each}
use Rattle.peer_definitions.specs.Answering.{answer_to, event_frames, frame_for, question, took_of}
use Rattle.peer_frames.specs.Laws.{IsTaken}
use Rattle.peer_frames.proofs.ShortNames.{events_long}
use Rattle.peer_definitions.specs.Spelling.{event_bytes, events_body, id_bytes}
use Rattle.ew_model.specs.Bytes.{four_bytes, op_bytes}
use Rattle.peer_definitions.specs.declared.frame.Frame.{Frame}
use Rattle.peer_definitions.specs.declared.frame.Frame.TheVariants.{Have, Events, Done, Took, Clash, Bye}
use Rattle.net_core.specs.Keeping.{IsHome, IsReached, IsReplica}
use Rattle.net_core.specs.Laws.{NetsAreReached, after_steps, network_left}
use Rattle.ew_model.specs.declared.id.Id.{Id}
use Rattle.carets.specs.declared.caret.Caret.{Caret}
use Rattle.carets.specs.Sides.{caret_in, text_chars}
use Rattle.undo_definitions.specs.Undoing.{UndoRefusal, events_of_undo, undo_refusal}
use Rattle.undo_definitions.specs.Wanted.{ids_from}
use Rattle.peer_definitions.specs.Machine.{Network, Packet, Peer, caret_outcome, deliver_step, delivery_of, edit_outcome, empty_network, net_step, peer_of, peer_step, piece_of, print_before, put_replica, restart_outcome, undo_outcome, where_outcome, with_packet, with_peer, with_replies}
use Rattle.peer_definitions.specs.Machine.Refusal.{NoPacket}
use Rattle.peer_definitions.specs.Machine.StepOutcome.{Refused}
use Rattle.net_core.proofs.Counting.{adds_one}
use Rattle.net_core.proofs.Deliveries.{all_before, few_parents, no_clashes, room_in, went, went_all}
use Rattle.net_core.proofs.Editing.{named_so, replica_of}
use Rattle.net_core.proofs.Following.{peer_did, step_follows}
use Rattle.ew_model.proofs.OperationLaws.{got}
use Rattle.net_core.proofs.Puts.{changed_elsewhere, changed_here, changed_in, peer_there, put_elsewhere, put_here, put_in, with_caret}
use Rattle.net_core.proofs.Reaching.{AreTaken, HasHomes, IsHomely, IsSent, all_on, reached}
use Rattle.net_core.proofs.Restoring.{restoring_sound}
use Rattle.net_core.proofs.Sounding.{CanWrite, made_sound}
use Rattle.net_core.proofs.Told.{few_told, no_first_clash}

-- the name and the events of a peer are such as the types can hold
pub record IsSoundPeer (p : Peer) : Type 0 where
  pub name : is_name p.name ≡ true
  pub held : AreSound p.replica.held
  pub waiting : AreSound p.replica.waiting

-- so are all of a network, and readers take its packets' frames
pub record IsSoundNet (network : Network) : Type 0 where
  pub peers : AllByRecursion IsSoundPeer network.peers
  pub packets : AllByRecursion (AreTaken network.limits) network.packets

sound_home : (peers : List Peer) → AllByRecursion IsSoundPeer peers → (e : Event) → IsHome peers e → IsSound e
sound_home peers sound e h = all_at IsSound h.home.replica.held e (all_at IsSoundPeer peers h.home sound (peer_there peers _ h.home h.found)).held h.held

sound_replica : (limits : LimitNumbers) (peers : List Peer) (r : ReplicaState) → AllByRecursion IsSoundPeer peers → IsReplica limits peers r
    → AreSound r.held × AreSound r.waiting
sound_replica limits peers r sound h = (all_on (sound_home peers sound) r.held h.held, all_on (sound_home peers sound) r.waiting h.waiting)

put_sound : (name : List ℕ) (r : ReplicaState) (peers : List Peer) → AreSound r.held → AreSound r.waiting → AllByRecursion IsSoundPeer peers
    → AllByRecursion IsSoundPeer (map (put_in name r) peers)
put_sound name r [] held waiting h = tt
put_sound name r (p ∷ peers) held waiting h = (at (cases_Bool (name_eq p.name name)), put_sound name r peers held waiting h.1)
  where
    at : (name_eq p.name name ≡ true) ⊎ (name_eq p.name name ≡ false) → IsSoundPeer (put_in name r p)
    at (inl here) = subst IsSoundPeer (sym (put_here name r p here)) (record { name = h.0.name; held = held; waiting = waiting })
    at (inr other) = subst IsSoundPeer (sym (put_elsewhere name r p other)) h.0

caret_sound : (name : List ℕ) (c : Caret) (peers : List Peer) → AllByRecursion IsSoundPeer peers → AllByRecursion IsSoundPeer (map (changed_in name (with_caret c)) peers)
caret_sound name c [] h = tt
caret_sound name c (p ∷ peers) h = (at (cases_Bool (name_eq p.name name)), caret_sound name c peers h.1)
  where
    at : (name_eq p.name name ≡ true) ⊎ (name_eq p.name name ≡ false) → IsSoundPeer (changed_in name (with_caret c) p)
    at (inl here) = subst IsSoundPeer (sym (changed_here name (with_caret c) p here)) (record { name = h.0.name; held = h.0.held; waiting = h.0.waiting })
    at (inr other) = subst IsSoundPeer (sym (changed_elsewhere name (with_caret c) p other)) h.0

-- how many events a frame may have
events_in_body : (limits : LimitNumbers) (events : List Event) → IsTaken limits (Events events) → length events ≤ limits.body
events_in_body limits events taken =
    let both = length-append (four_bytes (length events)) (flat_map event_bytes events) in
    let some = events_long events in
    let short : length (events_body events) ≤ limits.body = taken.short in
    omega (arith, both, some, short)

-- the frames of events of a good history
sent : (limits : LimitNumbers) (events : List Event) → AreLimits limits → AreSound events → AllByRecursion (λ (e : Event). length e.parents ≤ 16) events
    → AllByRecursion (IsTaken limits) (event_frames limits events)
sent limits events are sound few = all_before (IsTaken limits) (event_frames limits events) (Done ∷ []) (sent_taken limits events are sound few)

module _ (network : Network) (are : AreLimits network.limits) (h : IsHomely network) (sound : AllByRecursion IsSoundPeer network.peers) where
  -- the answers to a frame
  answers_taken : (r : ReplicaState) (f : Frame) → IsReplica network.limits network.peers r → HasHomes network.peers f → IsTaken network.limits f
      → AllByRecursion (IsTaken r.limits) (answer_to r f).frames
  answers_taken r (Have counts) own homes taken =
      sent_taken r.limits (missing r.held counts) (subst AreLimits (sym own.same) are)
      (missing_sound r.held counts (sound_replica network.limits network.peers r sound own).0) (missing_few r.held counts own.kept.orderly.good)
  answers_taken r (Events events) own homes taken =
      let limits = subst AreLimits (sym own.same) are in
      let o = arrive r.limits r.held r.waiting events in
      let none = no_first_clash o.answers (no_clashes o.answers (room_in network.limits network.peers h.peers r (Events events) own homes)) in
      let kept = arrivals_keep r.limits r.held r.waiting events own.kept in
      let many = few_told r.limits r.held r.waiting events in
      let body = events_in_body network.limits events taken in
      let all : length o.answers < 2 ^ 32 = omega (arith, many, body, are.short_body, own.kept.few_wait, limits.few_waiting) in
      let accepted = count_by-le-length (λ (a : Answer). is_verdict_good a.ruling) o.answers in
      let repeats = count_by-le-length (λ (a : Answer). is_repeat a.ruling) o.answers in
      let refusals = refused_each o.answers in (
        subst (λ clash. IsTaken r.limits (frame_for (took_of o) clash)) (sym none) (
            took_taken r.limits (accepted_in o.answers) (length o.desk.waiting) (repeats_in o.answers) (length (refused_in o.answers)) limits
            (omega (arith, accepted, all)) (omega (arith, kept.few_wait, limits.few_waiting)) (omega (arith, repeats, all)) (omega (arith, refusals, all))),
        tt,
      )
  answers_taken r Done own homes taken = tt
  answers_taken r (Took a b c d) own homes taken = tt
  answers_taken r (Clash x) own homes taken = tt
  answers_taken r Bye own homes taken = (bye_taken r.limits, tt)

  replies_taken : (name : List ℕ) (r : ReplicaState) (frames : List Frame) → IsReplica network.limits network.peers r → AllByRecursion (HasHomes network.peers) frames
      → AllByRecursion (IsTaken network.limits) frames
      → AllByRecursion (IsTaken network.limits) (delivery_of name r frames).replies
  replies_taken name r [] own homes taken = tt
  replies_taken name r (f ∷ frames) own homes taken =
      all_joined (IsTaken network.limits) (answer_to r f).frames (delivery_of name (answer_to r f).state frames).replies
      (subst (λ (limits : LimitNumbers). AllByRecursion (IsTaken limits) (answer_to r f).frames) own.same (answers_taken r f own homes.0 taken.0))
      (replies_taken name (answer_to r f).state frames (went network.limits network.peers h.peers r f own homes.0).replica homes.1 taken.1)

-- what a step leaves
module _ (network new : Network) (are : AreLimits network.limits) (h : IsHomely network) (sound : IsSoundNet network) where
  went_sound : (other : Network) → IsSoundNet other → Some other ≡ Some new → IsSoundNet new
  went_sound other s same = let is : other ≡ new = cc in subst IsSoundNet is s

  peer_sound : (name : List ℕ) (o : Option Peer) → is_name name ≡ true → network_left (peer_step network name o) ≡ Some new → IsSoundNet new
  peer_sound name (Some p) can left = let no : ⊥ = cc in absurd no
  peer_sound name None can left = went_sound _ (record {
    peers = all_joined IsSoundPeer network.peers _ sound.peers (record { name = can; held = tt; waiting = tt }, tt);
    packets = sound.packets;
  }) left

  put_net : (p : Peer) (r : ReplicaState) → AreSound r.held → AreSound r.waiting → IsSoundNet (put_replica network p.name r)
  put_net p r held waiting = record { peers = put_sound p.name r network.peers held waiting sound.peers; packets = sound.packets }

  edit_sound : (who : List ℕ) (e : Edit) (p : Peer) → CanWrite e → peer_of network who ≡ Some p → (o : Option EditRefusal)
      → edit_refusal p.replica.limits p.replica.held p.name e ≡ o
      → network_left (edit_outcome network p e o) ≡ Some new → IsSoundNet new
  edit_sound who e p can found (Some why) is left = let no : ⊥ = cc in absurd no
  edit_sound who e p can found None is left =
      let own = replica_of network who p h found in
      let peer = all_at IsSoundPeer network.peers p sound.peers (peer_there network.peers who p found) in
      let made = made_sound p.replica.limits p.replica.held p.replica.waiting p.name (subst AreLimits (sym own.same) are) own.kept peer.held peer.name e can is in
      went_sound _ (put_net p _ (all_joined IsSound p.replica.held (events_of_edit p.replica.held p.name e) peer.held made) peer.waiting) left

  undo_sound : (who : List ℕ) (undone : List Id) (p : Peer) → peer_of network who ≡ Some p → (o : Option UndoRefusal)
      → undo_refusal p.replica.limits p.replica.held undone ≡ o
      → network_left (undo_outcome network p undone o) ≡ Some new → IsSoundNet new
  undo_sound who undone p found (Some why) is left = let no : ⊥ = cc in absurd no
  undo_sound who undone p found None is left =
      let own = replica_of network who p h found in
      let peer = all_at IsSoundPeer network.peers p sound.peers (peer_there network.peers who p found) in
      let made = restoring_sound p.replica.limits p.replica.held p.replica.waiting p.name (subst AreLimits (sym own.same) are) own.kept peer.held peer.name undone is in
      went_sound _ (put_net p _ (all_joined IsSound p.replica.held (events_of_undo p.replica.held p.name undone) peer.held made) peer.waiting) left

  caret_net : (p : Peer) (at : ℕ) (o : Option Caret) → network_left (caret_outcome network p at o) ≡ Some new → IsSoundNet new
  caret_net p at None left = let no : ⊥ = cc in absurd no
  caret_net p at (Some c) left = went_sound _ (record { peers = caret_sound p.name c network.peers sound.peers; packets = sound.packets }) left

  sent_sound : (other : Network) → IsSoundNet other → (k : Packet) → AreTaken other.limits k → IsSoundNet
      (record { limits = other.limits; peers = other.peers; packets = other.packets ++ k ∷ [] })
  sent_sound other s k taken = record { peers = s.peers; packets = all_joined (AreTaken other.limits) other.packets (k ∷ []) s.packets (taken, tt) }

  packet_sound : (sender receiver : List ℕ) (made : ReplicaState → List Frame)
      → ((p : Peer) → IsReplica network.limits network.peers p.replica → AreSound p.replica.held → AreLimits p.replica.limits → AllByRecursion
      (IsTaken p.replica.limits) (made p.replica))
      → network_left (with_peer network sender (λ p. with_peer network receiver (λ q. with_packet network sender receiver (made p.replica)))) ≡ Some new → IsSoundNet new
  packet_sound sender receiver made taken left =
      let p = peer_did network sender (λ p. with_peer network receiver (λ q. with_packet network sender receiver (made p.replica))) new left in
      let q = peer_did network receiver (λ q. with_packet network sender receiver (made p.0.replica)) new p.2 in
      let own = replica_of network sender p.0 h p.1 in
      let peer = all_at IsSoundPeer network.peers p.0 sound.peers (peer_there network.peers sender p.0 p.1) in
      let frames = subst (λ (limits : LimitNumbers). AllByRecursion (IsTaken limits) (made p.0.replica)) own.same
      (taken p.0 own peer.held (subst AreLimits (sym own.same) are)) in
      went_sound _ (sent_sound network sound _ frames) q.2

  replies_sound : (between : Network) (k : Packet) (printed : List ℕ) (replies : List Frame) → IsSoundNet between → AllByRecursion (IsTaken between.limits) replies
      → network_left (print_before printed (with_replies between k replies)) ≡ Some new → IsSoundNet new
  replies_sound between k printed [] s taken left = went_sound between s left
  replies_sound between k printed (f ∷ frames) s taken left = went_sound _ (sent_sound between s _ taken) left

  deliver_sound : (k : Packet) → Among k network.packets → network_left (deliver_step network k) ≡ Some new → IsSoundNet new
  deliver_sound k m left =
      let did = peer_did network k.receiver (λ p. let d = delivery_of p.name p.replica k.frames in print_before d.printed
      (with_replies (put_replica network k.receiver d.replica) k d.replies)) new left in
      let p = did.0 in
      let packet = all_at (IsSent network.peers) network.packets k h.packets m in
      let d = delivery_of p.name p.replica k.frames in
      let own = replica_of network k.receiver p h did.1 in
      let after = (went_all network.limits network.peers h.peers p.name p.replica k.frames own packet.frames).replica in
      let s = sound_replica network.limits network.peers d.replica sound.peers after in
      let taken = replies_taken network are h sound.peers p.name p.replica k.frames own packet.frames
      (all_at (AreTaken network.limits) network.packets k sound.packets m) in
      replies_sound (put_replica network p.name d.replica) k d.printed d.replies (put_net p d.replica s.0 s.1) taken
      (ap (λ name. network_left (print_before d.printed (with_replies (put_replica network name d.replica) k d.replies))) (named_so network k.receiver p did.1) ∙ did.2)

  packet_did : (n : ℕ) (o : Option Packet) → slice_get network.packets n ≡ o
      → network_left (option_map_or (deliver_step network) o (Refused (NoPacket n))) ≡ Some new → IsSoundNet new
  packet_did n (Some k) is left = deliver_sound k (got network.packets n k is) left
  packet_did n None is left = let no : ⊥ = cc in absurd no

  restart_sound : (name : List ℕ) → network_left (with_peer network name (restart_outcome network)) ≡ Some new → IsSoundNet new
  restart_sound name left =
      let did = peer_did network name (restart_outcome network) new left in
      let peer = all_at IsSoundPeer network.peers did.0 sound.peers (peer_there network.peers name did.0 did.1) in
      went_sound _ (put_net did.0 _ peer.held tt) did.2

  step_sound : (s : NetStep) → IsSoundStep s → network_left (net_step network s) ≡ Some new → IsSoundNet new
  unfolding net_step
  step_sound (step.Peer name) can left = peer_sound name (peer_of network name) can left
  step_sound (step.Ins who at text) can left =
      let did = peer_did network who (λ p. edit_outcome network p (edits.Edit.Insert at text)
      (edit_refusal p.replica.limits p.replica.held p.name (edits.Edit.Insert at text))) new left in
      edit_sound who (edits.Edit.Insert at text) did.0 can.2 did.1 _ refl did.2
  step_sound (step.Del who at n) can left =
      let did = peer_did network who (λ p. edit_outcome network p (edits.Edit.Delete at n)
      (edit_refusal p.replica.limits p.replica.held p.name (edits.Edit.Delete at n))) new left in
      edit_sound who (edits.Edit.Delete at n) did.0 tt did.1 _ refl did.2
  step_sound (step.Mark who label) can left =
      let did = peer_did network who (λ p. edit_outcome network p (edits.Edit.Mark label)
      (edit_refusal p.replica.limits p.replica.held p.name (edits.Edit.Mark label))) new left in
      edit_sound who (edits.Edit.Mark label) did.0 can.1 did.1 _ refl did.2
  step_sound (step.Undo who whose first count) can left =
      let undone = ids_from whose first count in
      let did = peer_did network who (λ p. undo_outcome network p undone (undo_refusal p.replica.limits p.replica.held undone)) new left in
      undo_sound who undone did.0 did.1 _ refl did.2
  step_sound (step.Caret who at) can left =
      let did = peer_did network who (λ p. caret_outcome network p at (caret_in (text_chars p.replica.held) at)) new left in
      caret_net did.0 at _ did.2
  step_sound (step.Where name) can left = went_sound network sound (peer_did network name (where_outcome network) new left).2
  step_sound (step.Push sender receiver) can left =
      packet_sound sender receiver (λ r. event_frames r.limits r.held)
      (λ p own held limits. sent p.replica.limits p.replica.held limits held (few_parents p.replica.held own.kept.orderly.good)) left
  step_sound (step.Send sender receiver skip count) can left =
      packet_sound sender receiver (λ r. event_frames r.limits (piece_of skip count r.held))
      (λ p own held limits. sent p.replica.limits (piece_of skip count p.replica.held) limits (all_first IsSound count _ (all_drop IsSound skip p.replica.held held))
      (all_first _ count _ (all_drop _ skip p.replica.held (few_parents p.replica.held own.kept.orderly.good)))) left
  step_sound (step.Ask sender receiver) can left =
      packet_sound sender receiver (λ r. question r ∷ [])
      (λ p own held limits. (question_taken p.replica limits (summary_sound p.replica.held held (omega (arith, own.kept.few, limits.few_events))) own.kept.few, tt)) left
  step_sound (step.Deliver n) can left = packet_did n (slice_get network.packets n) refl left
  step_sound (step.Restart name) can left = restart_sound name left
  step_sound (step.Show name) can left = went_sound network sound (peer_did network name _ new left).2
  step_sound step.Agree can left = went_sound network sound left

-- a run from a network on
run_reached : (steps : List NetStep) (old new : Network) → IsHomely old → IsSoundNet old → AreLimits old.limits → AllByRecursion IsSoundStep steps
    → after_steps old steps ≡ Some new
    → length old.packets + length steps < 2 ^ 32 → IsReached new
run_reached [] old new h sound are can left few =
    let is : old ≡ new = cc in subst IsReached is (reached old h (record { are = are; taken = sound.packets; few = omega (arith, few) }))
run_reached (s ∷ steps) old new h sound are can left few = at (network_left (net_step old s)) refl left (λ next is more.
    let follows = step_follows old next s h is in
    let one = adds_one old next s is in
    run_reached steps next new follows.homely (step_sound old next are h sound s can.0 is)
    (subst AreLimits (sym follows.limits) are) can.1 more (omega (arith, one, few)))
  where
    at : (o : Option Network) → network_left (net_step old s) ≡ o → option_and_then (λ next. after_steps next steps) o ≡ Some new
        → ((next : Network) → network_left (net_step old s) ≡ Some next → after_steps next steps ≡ Some new → IsReached new) → IsReached new
    at (Some next) is rest on = on next is rest
    at None is rest on = let no : ⊥ = cc in absurd no

-- The law of nets.
pub nets_are_reached : NetsAreReached
nets_are_reached limits steps network are can left few =
    run_reached steps (empty_network limits) network (record { apart = tt; peers = tt; packets = tt })
    (record { peers = tt; packets = tt }) are can left (omega (arith, few))
