-- Local edits and restarts in a network.
use Rattle.std.proofs.Common.{◌≡◌, ℕ, false, ⊎_elim, List, [], ◌∷◌, ◌++◌, map, set, length, Some, None, sym, ap, ◌∙◌, subst, arith}
use Rattle.std.proofs.lemmas.Bool.{cases_Bool, false≢true}
use Rattle.std.specs.List.{slice_get}
use Rattle.std.specs.Prelude.{codes, decimal}
use Rattle.ew_model.specs.declared.event.Event.{Event}
use Rattle.ew_model.specs.declared.id.Id.{Id}
use Rattle.ew_model.specs.Ancestors.{is_held}
use Rattle.ew_model.specs.Edits.{Edit, edit_refusal, events_of_edit}
use Rattle.ew_model.specs.Ids.{name_eq}
use Rattle.ew_model.specs.Kept.{IsKept, ReplicaState, is_awaited}
use Rattle.ew_model.specs.Sets.{Among}
use Rattle.ew_model.proofs.CoverLaws.{held_of}
use Rattle.ew_model.proofs.EditLaws.{edit_of_agent, edits_keep, ops_of_agent}
use Rattle.ew_model.proofs.IdLaws.{name_exact, names_equal}
use Rattle.ew_model.proofs.SetLaws.{joined_left, joined_right}
use Rattle.ew_model.proofs.SortingLaws.{all_at, all_from}
use Rattle.net_core.specs.Keeping.{IsHome, IsReplica}
use Rattle.peer_definitions.specs.Machine.{Network, Peer, edit_outcome, edit_step, peer_among, peer_of, printed_line, put_replica, restart_outcome, undo_outcome, undo_step, with_peer}
use Rattle.peer_definitions.specs.Machine.StepOutcome.{Stepped}
use Rattle.undo_definitions.specs.Undoing.{events_of_undo, ops_of_undo, undo_refusal}
use Rattle.undo_definitions.proofs.Undos.{undos_keep}
use Rattle.net_core.proofs.Awaiting.{none_awaited}
use Rattle.ew_model.proofs.EntryLaws.{all_joined}
use Rattle.net_core.proofs.Deliveries.{Went}
use Rattle.net_core.proofs.Puts.{changed_in, found_named, found_put, peer_there, put_here, put_in, set_is_changed, with_replica}
use Rattle.net_core.proofs.Reaching.{IsHomely, all_on, home_after, put_homely, still_replica}
use Rattle.net_core.proofs.Steps.{at_peer}

-- events of which none is held under a name of another are all of the agent
all_of_agent : (agent : List ℕ) (made : List Event) → ((x : Id) → name_eq x.agent agent ≡ false → is_held made x ≡ false) → (e : Event) → Among e made → e.id.agent ≡ agent
all_of_agent agent made none e m = ⊎_elim
    (λ same. name_exact e.id.agent agent same)
    (λ other. absurd (false≢true (sym (none e.id other) ∙ held_of made e m)))
    (cases_Bool (name_eq e.id.agent agent))

-- an agent's edit makes events of its own, and so does an undo
pub made_agent : (history : List Event) (agent : List ℕ) (edit : Edit) (e : Event) → Among e (events_of_edit history agent edit) → e.id.agent ≡ agent
made_agent history agent edit = all_of_agent agent (events_of_edit history agent edit) (edit_of_agent history agent edit)

pub undo_agent : (history : List Event) (agent : List ℕ) (undone : List Id) (e : Event) → Among e (events_of_undo history agent undone) → e.id.agent ≡ agent
undo_agent history agent undone = all_of_agent agent (events_of_undo history agent undone) (ops_of_agent history agent (ops_of_undo history undone))

-- the peer of a name, in a network
pub named_so : (network : Network) (who : List ℕ) (p : Peer) → peer_of network who ≡ Some p → p.name ≡ who
named_so network who p found = name_exact p.name who (found_named who p network.peers found)

pub found_own : (network : Network) (who : List ℕ) (p : Peer) → peer_of network who ≡ Some p → peer_among network.peers p.name ≡ Some p
found_own network who p found = ap (peer_among network.peers) (named_so network who p found) ∙ found

pub replica_of : (network : Network) (who : List ℕ) (p : Peer) → IsHomely network → peer_of network who ≡ Some p → IsReplica network.limits network.peers p.replica
replica_of network who p h found =
    all_at (λ (x : Peer). IsReplica network.limits network.peers x.replica) network.peers p h.peers (peer_there network.peers who p found)

-- it awaits nothing of its own
pub awaits_none : (network : Network) (who : List ℕ) (p : Peer) → IsHomely network → peer_of network who ≡ Some p
    → is_awaited p.replica.held p.replica.waiting p.name ≡ false
awaits_none network who p h found = none_awaited network.limits network.peers h.peers p p.name (found_own network who p found)

-- a network with these peers
abbrev pub with_peers : Network → List Peer → Network
with_peers network peers = record { limits = network.limits; peers = peers; packets = network.packets }

-- a write at its place
pub placed : (network : Network) (who : List ℕ) (p : Peer) (i : ℕ) (f : Peer → Peer) → IsHomely network → peer_of network who ≡ Some p
    → slice_get network.peers i ≡ Some p
    → with_peers network (set network.peers i (f p)) ≡ with_peers network (map (changed_in p.name f) network.peers)
placed network who p i f h found at =
    ap (with_peers network)
    (set_is_changed network.peers i p p.name f h.apart at (names_equal.refl p.name))

-- a replica that went on among the same peers
pub grows : (network : Network) (who : List ℕ) (p : Peer) (r : ReplicaState) → peer_of network who ≡ Some p → Went network.limits network.peers p.replica r
    → (q : Peer) (e : Event) → peer_among network.peers p.name ≡ Some q → Among e q.replica.held → Among e r.held
grows network who p r found went q e there m =
    let both : Some p ≡ Some q = sym (found_own network who p found) ∙ there in
    let same : q ≡ p = cc in
    went.grown e (subst (λ (x : Peer). Among e x.replica.held) same m)

pub went_homely : (network : Network) (who : List ℕ) (p : Peer) (r : ReplicaState) → IsHomely network → peer_of network who ≡ Some p
    → Went network.limits network.peers p.replica r → IsHomely (put_replica network p.name r)
went_homely network who p r h found went =
    let more = grows network who p r found went in
    put_homely network p.name r h more (still_replica network.limits network.peers (map (put_in p.name r) network.peers)
    (home_after network p.name r h more) r went.replica)

-- events that a peer made itself, and that it can hold after the others
module _ (network : Network) (who : List ℕ) (p : Peer) (made : List Event) (h : IsHomely network) (found : peer_of network who ≡ Some p)
    (own : (e : Event) → Among e made → e.id.agent ≡ p.name) (kept : IsKept p.replica.limits (p.replica.held ++ made) p.replica.waiting) where
  abbrev pub made_state : ReplicaState
  made_state = record { limits = p.replica.limits; held = p.replica.held ++ made; waiting = p.replica.waiting }

  abbrev made_peers : List Peer
  made_peers = map (put_in p.name made_state) network.peers

  own_grows : (q : Peer) (e : Event) → peer_among network.peers p.name ≡ Some q → Among e q.replica.held → Among e made_state.held
  own_grows q e there m =
      let both : Some p ≡ Some q = sym (found_own network who p found) ∙ there in
      let same : q ≡ p = cc in
      joined_left p.replica.held made e (subst (λ (x : Peer). Among e x.replica.held) same m)

  made_home : (e : Event) → Among e made → IsHome made_peers e
  made_home e m =
      let put = put_here p.name made_state p (names_equal.refl p.name) in record {
        home = with_replica made_state p;
        found =
            ap (peer_among made_peers) (own e m) ∙ found_put p.name made_state p.name p network.peers
            (found_own network who p found) ∙ ap Some put;
        held = joined_right p.replica.held made e m;
      }

  made_replica : IsReplica network.limits made_peers made_state
  made_replica =
      let r = replica_of network who p h found in
      let home = home_after network p.name made_state h own_grows in record {
        same = r.same;
        kept = kept;
        held = all_joined (IsHome made_peers) p.replica.held made (all_on home p.replica.held r.held)
            (all_from (IsHome made_peers) made made_home);
        waiting = all_on home p.replica.waiting r.waiting;
      }

  pub made_homely : IsHomely (put_replica network p.name made_state)
  made_homely = put_homely network p.name made_state h own_grows made_replica

-- an edit that isn't refused
module _ (network : Network) (who : List ℕ) (p : Peer) (edit : Edit) (h : IsHomely network) (found : peer_of network who ≡ Some p)
    (none : edit_refusal p.replica.limits p.replica.held p.name edit ≡ None) where
  abbrev edited : List Event
  edited = events_of_edit p.replica.held p.name edit

  abbrev pub edited_state : ReplicaState
  edited_state = record { limits = p.replica.limits; held = p.replica.held ++ edited; waiting = p.replica.waiting }

  pub edited_homely : IsHomely (put_replica network p.name edited_state)
  edited_homely =
      made_homely network who p edited h found (made_agent p.replica.held p.name edit)
      (edits_keep p.replica.limits p.replica.held p.replica.waiting p.name edit (replica_of network who p h found).kept (awaits_none network who p h found) none)

  pub edited_step : edit_step network who edit
      ≡ Stepped (put_replica network p.name edited_state) (printed_line (p.name ∷ codes "made" ∷ decimal (length edited) ∷ []))
  edited_step =
      at_peer network who (λ (x : Peer). edit_outcome network x edit (edit_refusal x.replica.limits x.replica.held x.name edit)) p found ∙ ap
      (edit_outcome network p edit) none

-- an undo that isn't refused
module _ (network : Network) (who : List ℕ) (p : Peer) (undone : List Id) (h : IsHomely network) (found : peer_of network who ≡ Some p)
    (none : undo_refusal p.replica.limits p.replica.held undone ≡ None) where
  abbrev restoring : List Event
  restoring = events_of_undo p.replica.held p.name undone

  abbrev pub undone_state : ReplicaState
  undone_state = record { limits = p.replica.limits; held = p.replica.held ++ restoring; waiting = p.replica.waiting }

  pub undone_homely : IsHomely (put_replica network p.name undone_state)
  undone_homely =
      made_homely network who p restoring h found (undo_agent p.replica.held p.name undone)
      (undos_keep p.replica.limits p.replica.held p.replica.waiting p.name undone (replica_of network who p h found).kept (awaits_none network who p h found) none)

  pub undone_step : undo_step network who undone
      ≡ Stepped (put_replica network p.name undone_state) (printed_line (p.name ∷ codes "made" ∷ decimal (length restoring) ∷ []))
  undone_step =
      at_peer network who (λ (x : Peer). undo_outcome network x undone (undo_refusal x.replica.limits x.replica.held undone)) p found ∙ ap
      (undo_outcome network p undone) none

-- a peer that is built again
module _ (network : Network) (who : List ℕ) (p : Peer) (h : IsHomely network) (found : peer_of network who ≡ Some p) where
  abbrev pub restarted : ReplicaState
  restarted = record { limits = p.replica.limits; held = p.replica.held; waiting = [] }

  pub restarted_homely : IsHomely (put_replica network p.name restarted)
  restarted_homely =
      let r = replica_of network who p h found in
      went_homely network who p restarted h found (record {
        replica = record {
          same = r.same;
          kept = record { orderly = record { good = r.kept.orderly.good; fresh = tt; apart = tt }; few = r.kept.few; few_wait = omega arith };
          held = r.held;
          waiting = tt;
        };
        grown = λ e m. m;
      })

  pub restarted_step : with_peer network who (restart_outcome network) ≡ Stepped (put_replica network p.name restarted) (printed_line (p.name ∷ codes "restarted" ∷ []))
  restarted_step = at_peer network who (restart_outcome network) p found
