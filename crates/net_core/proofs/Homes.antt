-- Of events that stand where they were made there is one for each id, and each was good there.
use Rattle.std.proofs.Common.{◌≡◌, [], true, List, Some, sym, ap, ◌∙◌, subst}
use Rattle.std.specs.List.{AllByRecursion}
use Rattle.ew_model.specs.declared.id.Id.{Id}
use Rattle.ew_model.specs.declared.event.Event.{Event}
use Rattle.ew_model.specs.Ids.{id_eq}
use Rattle.ew_model.specs.Limits.{LimitNumbers}
use Rattle.ew_model.specs.Sets.{Among}
use Rattle.ew_model.proofs.GoodLaws.{good_laid_out}
use Rattle.ew_model.proofs.IdLaws.{is_same_id}
use Rattle.ew_model.proofs.SortingLaws.{all_at}
use Rattle.ew_model.proofs.SubgraphLaws.{one_event}
use Rattle.net_core.specs.Keeping.{IsHome, IsReplica}
use Rattle.peer_definitions.specs.Machine.{Peer, peer_among}
use Rattle.net_core.proofs.Elsewhere.{WasGood, was_good}
use Rattle.net_core.proofs.Puts.{peer_there}

module _ (limits : LimitNumbers) (peers : List Peer) (all : AllByRecursion (λ (p : Peer). IsReplica limits peers p.replica) peers) where
  home_replica : (e : Event) → (h : IsHome peers e) → IsReplica limits peers h.home.replica
  home_replica e h =
      all_at (λ (p : Peer). IsReplica limits peers p.replica) peers h.home all (peer_there peers e.id.agent h.home h.found)

  pub one_home : (f g : Event) → IsHome peers f → IsHome peers g → id_eq f.id g.id ≡ true → f ≡ g
  one_home f g hf hg same =
      let ids : f.id ≡ g.id = (is_same_id f.id g.id).0 same in
      let both : Some hf.home ≡ Some hg.home = sym hf.found ∙ ap (λ (x : Id). peer_among peers x.agent) ids ∙ hg.found in
      let home : hg.home ≡ hf.home = cc in
      let held = hf.home.replica.held in
      one_event [] held f g (good_laid_out held (home_replica f hf).kept.orderly.good) hf.held (subst (λ (p : Peer). Among g p.replica.held) home hg.held) same

  pub was_home : (e : Event) → IsHome peers e → WasGood (IsHome peers) e
  was_home e h =
      let r = home_replica e h in
      was_good (IsHome peers) h.home.replica.held r.kept.orderly.good (λ z m. all_at (IsHome peers) h.home.replica.held z r.held m) e h.held
