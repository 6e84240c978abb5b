-- Two histories have one event for each id where each event of the one fits the other.
use Rattle.std.proofs.Common.{◌≡◌, ℕ, ◌<◌, true, ⊎_elim, List, [], ◌++◌, length, position, Some, None, is_some, sym, ap, ◌∙◌, subst}
use Rattle.std.specs.Prelude.{slice_get}
use Rattle.std.proofs.lemmas.Bool.{false≢true}
use Rattle.ew_model.specs.declared.id.Id.{Id}
use Rattle.ew_model.specs.declared.event.Event.{Event}
use Rattle.ew_model.specs.Ancestors.{ids_of, is_held}
use Rattle.ew_model.specs.ArrivalLaw.{OneEach}
use Rattle.ew_model.specs.Ids.{id_eq}
use Rattle.ew_model.specs.Sets.{Among}
use Rattle.ew_model.proofs.CoverLaws.{event_of, held_by}
use Rattle.ew_model.proofs.IdLaws.{is_same_id}
use Rattle.ew_model.proofs.SetLaws.{among_joined, joined_left, joined_right}
use Rattle.ew_model.proofs.SubgraphLaws.{one_event}
use Rattle.event_graph.specs.Keeping.{IsAdmitted}
use Rattle.event_graph.proofs.Admitted.{laid}
use Rattle.event_graph.proofs.Places.{event_among, found_event}
use Rattle.agreement.specs.Sharing.{AreSharedTo, Fits, FitTo, IsShared}
use Rattle.agreement.proofs.Found.{found_held}
use Rattle.agreement.proofs.Shared.{place_among, same_made}

-- events that are shared fit
fitting : (one : List Event) (p : ℕ) (other : List Event) → IsShared one p other → Fits one p other
fitting one p other shared e at known = shared e at

-- and so do all of them up to a position
pub all_fitting : (one : List Event) (from to : ℕ) (other : List Event) → AreSharedTo one from to other → FitTo one from to other
all_fitting one from to other shared = (shared.0, shared.1, (λ p low high. fitting one p other (shared.2 p low high)))

-- where the id is found, it is shared where it fits
pub shared_where_found : (one other : List Event) (p q : ℕ) (x : Id) → p < length one → slice_get (ids_of one) p ≡ Some x → position (id_eq x) (ids_of other) ≡ Some q → Fits one p other → IsShared one p other
shared_where_found one other p q x within at found fits e there =
    let f = found_event other x q found in
    let same : e.id ≡ f.0.id = sym (same_made (λ (g : Event). g.id) one p e x there at) ∙ f.2 in
    fits e there (held_by other e.id f.0 (event_among other q f.0 f.1) ((is_same_id e.id f.0.id).1 same))

-- and where it isn't, whatever has it fits
pub unknown_fits : (one other : List Event) (p : ℕ) (x : Id) → slice_get (ids_of one) p ≡ Some x → position (id_eq x) (ids_of other) ≡ None → Fits one p other
unknown_fits one other p x at none e there known =
    let id : x ≡ e.id = same_made (λ (g : Event). g.id) one p e x there at in
    let new = sym (found_held other x) ∙ ap is_some none in
    absurd (false≢true (sym new ∙ subst (λ y. is_held other y ≡ true) (sym id) known))

-- where there is one event for each id, each fits
pub each_fits : (one other : List Event) → OneEach (one ++ other) → (p : ℕ) → Fits one p other
each_fits one other each p e at known =
    let f = event_of other e.id known in
    let same : e ≡ f.0 = each e f.0 (joined_left one other e (event_among one p e at)) (joined_right one other f.0 f.1) f.2 in
    subst (λ (g : Event). Among g other) (sym same) f.1

-- an event of the one has the id of no other event of the other
same_across : (one other : List Event) → IsAdmitted other → ((p : ℕ) → p < length one → Fits one p other) → (e f : Event) → Among e one → Among f other → id_eq e.id f.id ≡ true → e ≡ f
same_across one other known fits e f m n same =
    let at = place_among one e m in
    one_event [] other e f (laid other known) (fits at.0 at.1 e at.2 (held_by other e.id f n same)) n same

-- ONE EVENT FOR EACH ID is in both, where each of the one fits.
pub one_each : (one other : List Event) → IsAdmitted one → IsAdmitted other → ((p : ℕ) → p < length one → Fits one p other) → OneEach (one ++ other)
one_each one other admitted known fits e f m n same =
    let back : id_eq f.id e.id ≡ true = (is_same_id f.id e.id).1 (sym ((is_same_id e.id f.id).0 same)) in
    ⊎_elim
    (λ i. ⊎_elim (λ j. one_event [] one e f (laid one admitted) i j same) (λ j. same_across one other known fits e f i j same) (among_joined one other f n))
    (λ i. ⊎_elim (λ j. sym (same_across one other known fits f e j i back)) (λ j. one_event [] other e f (laid other known) i j same) (among_joined one other f n))
    (among_joined one other e m)
