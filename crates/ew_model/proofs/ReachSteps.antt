-- Ancestors are what is reached by going from events to parents.
use Rattle.std.proofs.Common.{◌≡◌, true, List, [], sym, subst}
use Rattle.ew_model.specs.declared.id.Id.{Id}
use Rattle.ew_model.specs.declared.event.Event.{Event}
use Rattle.ew_model.specs.Sets.{Among}
use Rattle.ew_model.specs.Ids.{id_cmp, id_eq, is_among}
use Rattle.ew_model.specs.Ancestors.{version_events, ancestors}
use Rattle.ew_model.specs.ReachLaws.{IsReached, AncestorsAreReached}
use Rattle.ew_model.specs.ReachLaws.IsReached.{Named, ParentOf}
use Rattle.ew_model.proofs.PathOrder.{id_exact}
use Rattle.ew_model.proofs.SetLaws.{among_map, map_among}
use Rattle.ew_model.proofs.VersionLaws.{found_by, version_held, version_named, version_parent}
use Rattle.ew_model.proofs.EntryLaws.{LaidOut, points_back}
use Rattle.ew_model.proofs.SubgraphLaws.{one_event}
use Rattle.ew_model.proofs.CoverLaws.{ids_alike, among_here, closed_taken}
use Rattle.ew_model.proofs.GoodLaws.{good_laid_out}
use Rattle.ew_model.proofs.GapLaws.{eq_from}

-- an id that is found among some is one of them
pub id_among : (ids : List Id) (x : Id) → is_among ids x ≡ true → Among x ids
id_among ids x h = let found = found_by (id_eq x) ids h in subst (λ y. Among y ids) (sym (id_exact x found.0 (eq_from (id_cmp x found.0) found.2))) found.1

reached_there : (history : List Event) (named : List Id) (x : Id) → Among x (ancestors history named) → IsReached history named x
reached_there history named x m =
    let e = among_map (λ (e : Event). e.id) (version_events history named) x m in
    let all = closed_taken (λ (f : Event). Among f history × IsReached history named f.id) history named
    (λ f k q. (k, Named f k (id_among named f.id q)))
    (λ f z t k q. (k, ParentOf f z t.0 k (id_among f.parents z.id q) t.1)) in
    subst (IsReached history named) (sym e.2) (all e.0 e.1).1

reached_back : (history : List Event) (named : List Id) → LaidOut [] history → (x : Id) → IsReached history named x → Among x (ancestors history named)
reached_back history named laid x (Named e m n) = map_among (λ (e : Event). e.id) (version_events history named) e (version_named history named e m (among_here named e.id n))
reached_back history named laid x (ParentOf child e mc me p r) =
    let g = among_map (λ (f : Event). f.id) (version_events history named) child.id (reached_back history named laid child.id r) in
    let same : child ≡ g.0 = one_event [] history child g.0 laid mc (version_held history named g.0 g.1) (subst (λ y. id_eq child.id y ≡ true) g.2 (ids_alike.refl child.id)) in
    let taken : Among child (version_events history named) = subst (λ f. Among f (version_events history named)) (sym same) g.1 in
    map_among (λ (f : Event). f.id) (version_events history named) e (version_parent history named e child (points_back [] history laid) taken me (among_here child.parents e.id p))

pub ancestors_are_reached : AncestorsAreReached
ancestors_are_reached history named good x = (reached_there history named x, reached_back history named (good_laid_out history good) x)
