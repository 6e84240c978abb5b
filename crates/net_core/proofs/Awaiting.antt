-- No peer awaits an event of its own agent: such events stand in its own history.
use Rattle.std.proofs.Common.{◌≡◌, ℕ, Bool, true, false, not, ◌&&◌, ⊎_elim, List, ◌∷◌, Some, refl, sym, ap, subst, ◌∙◌}
use Rattle.std.specs.List.{AllByRecursion, list_any}
use Rattle.std.proofs.lemmas.Bool.{and_parts, false_from_ne_true, false≢true}
use Rattle.ew_model.specs.declared.event.Event.{Event}
use Rattle.ew_model.specs.declared.id.Id.{Id}
use Rattle.ew_model.specs.Ancestors.{is_held}
use Rattle.ew_model.specs.Ids.{id_eq, is_among, name_eq}
use Rattle.ew_model.specs.Kept.{is_awaited}
use Rattle.ew_model.specs.Limits.{LimitNumbers}
use Rattle.ew_model.specs.Sets.{Among}
use Rattle.ew_model.proofs.CoverLaws.{event_of, held_of}
use Rattle.ew_model.proofs.IdLaws.{is_same_id, name_exact}
use Rattle.ew_model.proofs.ListTests.{any_from, found_by}
use Rattle.ew_model.proofs.RulingLaws.{good_parents}
use Rattle.ew_model.proofs.SortingLaws.{all_at}
use Rattle.net_core.specs.Keeping.{IsHome, IsReplica}
use Rattle.peer_definitions.specs.Machine.{Peer, peer_among}
use Rattle.net_core.proofs.Puts.{peer_there}

neither_held : (b : Bool) → not b ≡ true → b ≡ true → ⊥
neither_held true h k = false≢true h
neither_held false h k = false≢true k

module _ (limits : LimitNumbers) (peers : List Peer) (all : AllByRecursion (λ (p : Peer). IsReplica limits peers p.replica) peers) (p : Peer) (agent : List ℕ)
    (here : peer_among peers agent ≡ Some p) where
  -- an event of the agent that has a home is held
  own_held : (f : Event) → IsHome peers f → name_eq f.id.agent agent ≡ true → is_held p.replica.held f.id ≡ true
  own_held f h own =
      let found : peer_among peers agent ≡ Some h.home = ap (peer_among peers) (sym (name_exact f.id.agent agent own)) ∙ h.found in
      let both : Some p ≡ Some h.home = sym here ∙ found in
      let same : h.home ≡ p = cc in
      held_of p.replica.held f (subst (λ (q : Peer). Among f q.replica.held) same h.held)

  pub replica_at : (q : Peer) → Among q peers → IsReplica limits peers q.replica
  replica_at q m = all_at (λ (x : Peer). IsReplica limits peers x.replica) peers q all m

  -- so are the parents of its agent that an event with a home has
  parent_held : (w : Event) (x : Id) → IsHome peers w → is_among w.parents x ≡ true → name_eq x.agent agent ≡ true → is_held p.replica.held x ≡ true
  parent_held w x h parent own =
      let home = replica_at h.home (peer_there peers w.id.agent h.home h.found) in
      let f = event_of h.home.replica.held x (good_parents h.home.replica.held home.kept.orderly.good w h.held x parent) in
      let same : x ≡ f.0.id = (is_same_id x f.0.id).0 f.2 in
      let f_home = all_at (IsHome peers) h.home.replica.held f.0 home.held f.1 in
      subst (λ y. is_held p.replica.held y ≡ true) (sym same) (own_held f.0 f_home (ap (λ (y : Id). name_eq y.agent agent) (sym same) ∙ own))

  -- no event with a home awaits one
  nothing_awaited : (w : Event) (x : Id) → IsHome peers w → Among x (w.id ∷ w.parents) → (name_eq x.agent agent && not (is_held p.replica.held x)) ≡ true → ⊥
  nothing_awaited w x h m told =
      let parts = and_parts (name_eq x.agent agent) (not (is_held p.replica.held x)) told in
      let held : is_held p.replica.held x ≡ true =
      ⊎_elim (λ (e : x ≡ w.id). subst (λ y. is_held p.replica.held y ≡ true) (sym e) (own_held w h (ap (λ (y : Id). name_eq y.agent agent) (sym e) ∙ parts.0)))
      (λ k. parent_held w x h (any_from (id_eq x) w.parents x k ((is_same_id x x).1 refl)) parts.0) m in
      neither_held (is_held p.replica.held x) parts.1 held

  pub none_awaited : is_awaited p.replica.held p.replica.waiting agent ≡ false
  none_awaited = false_from_ne_true _ fails
    where
      fails : is_awaited p.replica.held p.replica.waiting agent ≡ true → ⊥
      fails told =
          let own = replica_at p (peer_there peers agent p here) in
          let w = found_by (λ (w : Event). list_any (λ (x : Id). name_eq x.agent agent && not (is_held p.replica.held x)) (w.id ∷ w.parents)) p.replica.waiting told in
          let x = found_by (λ (x : Id). name_eq x.agent agent && not (is_held p.replica.held x)) (w.0.id ∷ w.0.parents) w.2 in
          nothing_awaited w.0 x.0 (all_at (IsHome peers) p.replica.waiting w.0 own.waiting w.1) x.1 x.2
