-- Only a peer's local edits add events of its agent.
use Rattle.std.proofs.Common.{◌≡◌, ℕ, true, false, ◌⊎◌, inl, inr, ⊎_elim, List, [], ◌∷◌, ◌++◌, filter, map, Option, Some, None, refl, sym, ap, ◌∙◌, subst, append-nil}
use Rattle.std.specs.List.{AllByRecursion, slice_get}
use Rattle.std.specs.Option.{option_map_or}
use Rattle.std.proofs.lemmas.Bool.{cases_Bool, cond-false, false≢true}
use Rattle.std.proofs.lemmas.List.Elements.{filter-append}
use Rattle.ew_model.specs.declared.event.Event.{Event}
use Rattle.ew_model.specs.Ancestors.{is_held}
use Rattle.ew_model.specs.Arrival.{Answer, arrive}
use Rattle.ew_model.specs.Edits as edits
use Rattle.ew_model.specs.Edits.{Edit, EditRefusal, edit_refusal}
use Rattle.ew_model.specs.Ids.{name_eq}
use Rattle.ew_model.specs.Kept.{ReplicaState}
use Rattle.ew_model.specs.Sets.{Among}
use Rattle.ew_model.specs.Verdicts.{IsGood, IsGoodAfter, is_verdict_good}
use Rattle.ew_model.proofs.AppendSteps.{arrivals_append}
use Rattle.ew_model.proofs.CoverLaws.{held_of}
use Rattle.ew_model.proofs.GoodLaws.{next_from_good}
use Rattle.ew_model.proofs.IdLaws.{name_exact, names_equal}
use Rattle.ew_model.proofs.SetLaws.{joined_left, joined_right}
use Rattle.ew_model.proofs.SortingLaws.{all_at}
use Rattle.peer_definitions.specs.declared.net_step.NetStep.{NetStep}
use Rattle.peer_definitions.specs.declared.net_step.NetStep.TheVariants as step
use Rattle.replica.proofs.Fronts.{good_behind}
use Rattle.peer_definitions.specs.Answering.{answer_to, event_frames, question}
use Rattle.peer_definitions.specs.declared.frame.Frame.{Frame}
use Rattle.peer_definitions.specs.declared.frame.Frame.TheVariants.{Have, Events, Done, Took, Clash, Bye}
use Rattle.net_core.specs.Keeping.{IsHome, IsReplica}
use Rattle.net_core.specs.Laws.{OnlyEditsAdd, is_edit_of, made_by, network_left}
use Rattle.ew_model.specs.declared.id.Id.{Id}
use Rattle.carets.specs.declared.caret.Caret.{Caret}
use Rattle.carets.specs.declared.caret.Caret.TheVariants.{Root}
use Rattle.carets.specs.Sides.{caret_in, text_chars}
use Rattle.undo_definitions.specs.Undoing.{UndoRefusal, undo_refusal}
use Rattle.undo_definitions.specs.Wanted.{ids_from}
use Rattle.peer_definitions.specs.Machine.{Network, Packet, Peer, caret_outcome, deliver_step, delivery_of, edit_outcome, net_step, peer_among, peer_of, peer_step, piece_of, print_before, put_caret, put_replica, restart_outcome, undo_outcome, where_outcome, with_packet, with_peer, with_replies}
use Rattle.peer_definitions.specs.Machine.Refusal.{NoPacket}
use Rattle.peer_definitions.specs.Machine.StepOutcome.{Refused}
use Rattle.net_core.proofs.Deliveries.{went}
use Rattle.net_core.proofs.Editing.{edited_state, named_so, replica_of, undone_state}
use Rattle.net_core.proofs.Following.{peer_did}
use Rattle.net_core.proofs.Lawful.{packet_left, peers_left}
use Rattle.ew_model.proofs.OperationLaws.{got}
use Rattle.net_core.proofs.Puts.{changed_elsewhere, changed_here, changed_in, found_changed, found_put, put_elsewhere, put_here, put_in, with_caret}
use Rattle.net_core.proofs.Reaching.{HasHomes, IsHomely, IsSent, homely, still_there}

-- an event stands once in a good history
not_twice : (before later : List Event) (e : Event) → IsGoodAfter before later → Among e before → Among e later → ⊥
not_twice before [] e h m k = k
not_twice before (x ∷ later) e h m (inl q) = false≢true (sym (next_from_good before x h.0).new ∙ ap (λ (z : Event). is_held before z.id) (sym q) ∙ held_of before e m)
not_twice before (x ∷ later) e h m (inr k) = not_twice (before ++ x ∷ []) later e h.1 (joined_left before (x ∷ []) e m) k

none_made : (agent : List ℕ) (events : List Event) → ((e : Event) → Among e events → name_eq e.id.agent agent ≡ true → ⊥) → made_by agent events ≡ []
none_made agent [] f = refl
none_made agent (e ∷ events) f = at (cases_Bool (name_eq e.id.agent agent)) (none_made agent events (λ x m. f x (inr m)))
  where
    at : (name_eq e.id.agent agent ≡ true) ⊎ (name_eq e.id.agent agent ≡ false) → made_by agent events ≡ [] → made_by agent (e ∷ events) ≡ []
    at (inl own) more = absurd (f e (inl refl) own)
    at (inr other) more = cond-false _ _ _ other ∙ more

-- what a replica receives adds no events of an agent whose events it all has
module _ (network : Network) (p : Peer) (h : IsHomely network) (found : peer_of network p.name ≡ Some p) where
  own_known : (e : Event) → IsHome network.peers e → name_eq e.id.agent p.name ≡ true → Among e p.replica.held
  own_known e home own =
      let both : Some p ≡ Some home.home = sym found ∙ ap (peer_among network.peers) (sym (name_exact e.id.agent p.name own)) ∙ home.found in
      let same : home.home ≡ p = cc in
      subst (λ (x : Peer). Among e x.replica.held) same home.held

  none_added : (held more : List Event) → IsGood (held ++ more) → AllByRecursion (IsHome network.peers) (held ++ more)
      → ((e : Event) → Among e p.replica.held → Among e held) → made_by p.name (held ++ more) ≡ made_by p.name held
  unfolding IsGood
  none_added held more good homes inside =
      let none = none_made p.name more (λ e m own. not_twice held more e (good_behind [] held more good)
      (inside e (own_known e (all_at (IsHome network.peers) (held ++ more) e homes (joined_right held more e m)) own)) m) in
      filter-append (λ (e : Event). name_eq e.id.agent p.name) held more ∙ ap (λ es. made_by p.name held ++ es) none ∙ append-nil (made_by p.name held)

  frame_adds : (r : ReplicaState) (f : Frame) → IsReplica network.limits network.peers r → HasHomes network.peers f
      → ((e : Event) → Among e p.replica.held → Among e r.held)
      → made_by p.name (answer_to r f).state.held ≡ made_by p.name r.held
  frame_adds r (Events events) own homes inside =
      let o = arrive r.limits r.held r.waiting events in
      let more = map (λ (a : Answer). a.event) (filter (λ (a : Answer). is_verdict_good a.ruling) o.answers) in
      let is = arrivals_append r.limits r.held r.waiting events in
      let after = (went network.limits network.peers h.peers r (Events events) own homes).replica in
      ap (made_by p.name) is ∙ none_added r.held more (subst IsGood is after.kept.orderly.good) (subst (AllByRecursion (IsHome network.peers)) is after.held) inside
  frame_adds r (Have counts) own homes inside = refl
  frame_adds r Done own homes inside = refl
  frame_adds r (Took a b c d) own homes inside = refl
  frame_adds r (Clash x) own homes inside = refl
  frame_adds r Bye own homes inside = refl

  frames_add : (name : List ℕ) (r : ReplicaState) (frames : List Frame) → IsReplica network.limits network.peers r → AllByRecursion (HasHomes network.peers) frames
      → ((e : Event) → Among e p.replica.held → Among e r.held)
      → made_by p.name (delivery_of name r frames).replica.held ≡ made_by p.name r.held
  frames_add name r [] own homes inside = refl
  frames_add name r (f ∷ frames) own homes inside =
      let first = went network.limits network.peers h.peers r f own homes.0 in
      frames_add name (answer_to r f).state frames first.replica homes.1 (λ e m. first.grown e (inside e m)) ∙ frame_adds r f own homes.0 inside

-- what a step adds to the events of a peer's agent
module _ (network new : Network) (s : NetStep) (p q : Peer) (h : IsHomely network) (found : peer_of network p.name ≡ Some p) (there : peer_of new p.name ≡ Some q) where
  abbrev pub AddsNone : Type 0
  AddsNone = (made_by p.name q.replica.held ≡ made_by p.name p.replica.held) ⊎ (is_edit_of p.name s ≡ true)

  still_same : (x : Peer) → peer_of new p.name ≡ Some x → x.replica.held ≡ p.replica.held → AddsNone
  still_same x at held =
      let both : Some q ≡ Some x = sym there ∙ at in
      let same : q ≡ x = cc in
      inl (ap (made_by p.name) (ap (λ (y : Peer). y.replica.held) same ∙ held))

  same_peers : new.peers ≡ network.peers → AddsNone
  same_peers peers = still_same p (ap (λ ps. peer_among ps p.name) peers ∙ found) refl

  -- a replica is put in place
  after_put : (x : Peer) (who : List ℕ) (r : ReplicaState) → peer_of network who ≡ Some x → new.peers ≡ map (put_in x.name r) network.peers
      → (name_eq p.name x.name ≡ true → x ≡ p → (made_by p.name r.held ≡ made_by p.name p.replica.held) ⊎ (is_edit_of p.name s ≡ true)) → AddsNone
  after_put x who r at peers own = by (cases_Bool (name_eq p.name x.name))
    where
      put : peer_of new p.name ≡ Some (put_in x.name r p)
      put = ap (λ ps. peer_among ps p.name) peers ∙ found_put x.name r p.name p network.peers found

      by : (name_eq p.name x.name ≡ true) ⊎ (name_eq p.name x.name ≡ false) → AddsNone
      by (inl here) =
          let name_is : who ≡ p.name = sym (named_so network who x at) ∙ sym (name_exact p.name x.name here) in
          let one : Some x ≡ Some p = sym at ∙ ap (peer_of network) name_is ∙ found in
          let same : x ≡ p = cc in
          let both : Some q ≡ Some (put_in x.name r p) = sym there ∙ put in
          let is : q ≡ put_in x.name r p = cc in
          let held : q.replica.held ≡ r.held = ap (λ (y : Peer). y.replica.held) (is ∙ put_here x.name r p here) in
          ⊎_elim (λ e. inl (ap (made_by p.name) held ∙ e)) (λ e. inr e) (own here same)
      by (inr other) = still_same (put_in x.name r p) put (ap (λ (y : Peer). y.replica.held) (put_elsewhere x.name r p other))

  peer_adds : (name : List ℕ) (o : Option Peer) → network_left (peer_step network name o) ≡ Some new → AddsNone
  peer_adds name (Some x) left = let no : ⊥ = cc in absurd no
  peer_adds name None left =
      let fresh : Peer = record { name = name; replica = record { limits = network.limits; held = []; waiting = [] }; caret = Root } in
      let is : record { limits = network.limits; peers = network.peers ++ fresh ∷ []; packets = network.packets } ≡ new = cc in
      still_same p (ap (λ (n : Network). peer_among n.peers p.name) (sym is) ∙ still_there network.peers fresh p.name p found) refl

  edit_adds : (who : List ℕ) (e : Edit) (x : Peer) → (name_eq who p.name ≡ true → is_edit_of p.name s ≡ true) → peer_of network who ≡ Some x → (o : Option EditRefusal)
      → edit_refusal x.replica.limits x.replica.held x.name e ≡ o
      → network_left (edit_outcome network x e o) ≡ Some new → AddsNone
  edit_adds who e x own at (Some why) none left = let no : ⊥ = cc in absurd no
  edit_adds who e x own at None none left =
      let r = edited_state network who x e h at none in
      let is : put_replica network x.name r ≡ new = cc in
      after_put x who r at (ap (λ (n : Network). n.peers) (sym is))
      (λ here same. inr (own (ap (λ n. name_eq n p.name) (sym (named_so network who x at)) ∙ names_equal.symm x.name p.name ∙ here)))

  undo_adds : (who : List ℕ) (undone : List Id) (x : Peer) → (name_eq who p.name ≡ true → is_edit_of p.name s ≡ true) → peer_of network who ≡ Some x → (o : Option UndoRefusal)
      → undo_refusal x.replica.limits x.replica.held undone ≡ o
      → network_left (undo_outcome network x undone o) ≡ Some new → AddsNone
  undo_adds who undone x own at (Some why) none left = let no : ⊥ = cc in absurd no
  undo_adds who undone x own at None none left =
      let r = undone_state network who x undone h at none in
      let is : put_replica network x.name r ≡ new = cc in
      after_put x who r at (ap (λ (n : Network). n.peers) (sym is))
      (λ here same. inr (own (ap (λ n. name_eq n p.name) (sym (named_so network who x at)) ∙ names_equal.symm x.name p.name ∙ here)))

  -- a caret is put in place
  same_held : (name : List ℕ) (c : Caret) → (name_eq p.name name ≡ true) ⊎ (name_eq p.name name ≡ false) → (changed_in name (with_caret c) p).replica.held ≡ p.replica.held
  same_held name c (inl here) = ap (λ (y : Peer). y.replica.held) (changed_here name (with_caret c) p here)
  same_held name c (inr other) = ap (λ (y : Peer). y.replica.held) (changed_elsewhere name (with_caret c) p other)

  caret_adds : (x : Peer) (at : ℕ) (o : Option Caret) → network_left (caret_outcome network x at o) ≡ Some new → AddsNone
  caret_adds x at None left = let no : ⊥ = cc in absurd no
  caret_adds x at (Some c) left =
      let is : put_caret network x.name c ≡ new = cc in
      still_same (changed_in x.name (with_caret c) p)
      (ap (λ (n : Network). peer_among n.peers p.name) (sym is) ∙ found_changed x.name (with_caret c) (λ y. refl) p.name p network.peers found)
      (same_held x.name c (cases_Bool (name_eq p.name x.name)))

  deliver_adds : (k : Packet) → Among k network.packets → network_left (deliver_step network k) ≡ Some new → AddsNone
  deliver_adds k m left =
      let did = peer_did network k.receiver (λ x. let d = delivery_of x.name x.replica k.frames in print_before d.printed
      (with_replies (put_replica network k.receiver d.replica) k d.replies)) new left in
      let x = did.0 in
      let d = delivery_of x.name x.replica k.frames in
      let sent = all_at (IsSent network.peers) network.packets k h.packets m in
      let name_is = named_so network k.receiver x did.1 in
      let peers = peers_left (put_replica network k.receiver d.replica) new k d.printed d.replies did.2 in
      after_put x k.receiver d.replica did.1 (peers ∙ ap (λ name. map (put_in name d.replica) network.peers) (sym name_is))
      (λ here same. inl (
      ap (λ (y : Peer). made_by p.name (delivery_of y.name y.replica k.frames).replica.held) same
      ∙ frames_add network p h found p.name p.replica k.frames (replica_of network p.name p h found) sent.frames (λ e k. k)))

  packet_adds : (n : ℕ) (o : Option Packet) → slice_get network.packets n ≡ o
      → network_left (option_map_or (deliver_step network) o (Refused (NoPacket n))) ≡ Some new → AddsNone
  packet_adds n (Some k) is left = deliver_adds k (got network.packets n k is) left
  packet_adds n None is left = let no : ⊥ = cc in absurd no

  restart_adds : (name : List ℕ) → network_left (with_peer network name (restart_outcome network)) ≡ Some new → AddsNone
  restart_adds name left =
      let did = peer_did network name (restart_outcome network) new left in
      let r : ReplicaState = record { limits = did.0.replica.limits; held = did.0.replica.held; waiting = [] } in
      let is : put_replica network did.0.name r ≡ new = cc in
      after_put did.0 name r did.1 (ap (λ (n : Network). n.peers) (sym is)) (λ here same. inl (ap (λ (y : Peer). made_by p.name y.replica.held) same))

  sent_adds : (sender receiver : List ℕ) (made : ReplicaState → List Frame)
      → network_left (with_peer network sender (λ x. with_peer network receiver (λ y. with_packet network sender receiver (made x.replica)))) ≡ Some new → AddsNone
  sent_adds sender receiver made left =
      let did = peer_did network sender (λ x. with_peer network receiver (λ y. with_packet network sender receiver (made x.replica))) new left in
      same_peers (ap (λ (n : Network). n.peers) (packet_left network new sender receiver made did.0 left did.1))

  same_net : Some network ≡ Some new → AddsNone
  same_net same = let is : network ≡ new = cc in same_peers (ap (λ (n : Network). n.peers) (sym is))

  step_adds : (t : NetStep) → s ≡ t → network_left (net_step network t) ≡ Some new → AddsNone
  unfolding net_step
  step_adds (step.Peer name) is left = peer_adds name (peer_of network name) left
  step_adds (step.Ins who at text) is left =
      let did = peer_did network who (λ x. edit_outcome network x (edits.Edit.Insert at text)
      (edit_refusal x.replica.limits x.replica.held x.name (edits.Edit.Insert at text))) new left in
      edit_adds who (edits.Edit.Insert at text) did.0 (λ own. ap (is_edit_of p.name) is ∙ own) did.1 _ refl did.2
  step_adds (step.Del who at n) is left =
      let did = peer_did network who (λ x. edit_outcome network x (edits.Edit.Delete at n)
      (edit_refusal x.replica.limits x.replica.held x.name (edits.Edit.Delete at n))) new left in
      edit_adds who (edits.Edit.Delete at n) did.0 (λ own. ap (is_edit_of p.name) is ∙ own) did.1 _ refl did.2
  step_adds (step.Mark who label) is left =
      let did = peer_did network who (λ x. edit_outcome network x (edits.Edit.Mark label)
      (edit_refusal x.replica.limits x.replica.held x.name (edits.Edit.Mark label))) new left in
      edit_adds who (edits.Edit.Mark label) did.0 (λ own. ap (is_edit_of p.name) is ∙ own) did.1 _ refl did.2
  step_adds (step.Undo who whose first count) is left =
      let undone = ids_from whose first count in
      let did = peer_did network who (λ x. undo_outcome network x undone (undo_refusal x.replica.limits x.replica.held undone)) new left in
      undo_adds who undone did.0 (λ own. ap (is_edit_of p.name) is ∙ own) did.1 _ refl did.2
  step_adds (step.Caret who at) is left =
      let did = peer_did network who (λ x. caret_outcome network x at (caret_in (text_chars x.replica.held) at)) new left in
      caret_adds did.0 at _ did.2
  step_adds (step.Where name) is left = same_net (peer_did network name (where_outcome network) new left).2
  step_adds (step.Push sender receiver) is left = sent_adds sender receiver (λ r. event_frames r.limits r.held) left
  step_adds (step.Send sender receiver skip count) is left = sent_adds sender receiver (λ r. event_frames r.limits (piece_of skip count r.held)) left
  step_adds (step.Ask sender receiver) is left = sent_adds sender receiver (λ r. question r ∷ []) left
  step_adds (step.Deliver n) is left = packet_adds n (slice_get network.packets n) refl left
  step_adds (step.Restart name) is left = restart_adds name left
  step_adds (step.Show name) is left = same_net (peer_did network name _ new left).2
  step_adds step.Agree is left = same_net left

pub only_edits_add : OnlyEditsAdd
only_edits_add network new s p q reached sound left found there = step_adds network new s p q (homely network reached) found there s refl left
