-- Events of one history that are found in another.
use Rattle.std.proofs.Common.{◌≡◌, ℕ, suc, ◌<◌, false, ⊎_elim, List, [], ◌∷◌, map, length, position, Some, None, is_some, sym, ap, ◌∙◌, subst, arith}
use Rattle.std.specs.Prelude.{slice_get}
use Rattle.std.proofs.lemmas.Bool.{false≢true}
use Rattle.ew_model.specs.declared.id.Id.{Id}
use Rattle.ew_model.specs.declared.event.Op.{Op}
use Rattle.ew_model.specs.declared.event.Event.{Event}
use Rattle.ew_model.specs.Sets.{Among, SameElements}
use Rattle.ew_model.specs.Ids.{id_eq}
use Rattle.ew_model.specs.Ancestors.{ids_of, is_held}
use Rattle.ew_model.proofs.CoverLaws.{held_of}
use Rattle.ew_model.proofs.EditHeads.{ids_apart}
use Rattle.ew_model.proofs.IdLaws.{is_same_id}
use Rattle.ew_model.proofs.PathOrder.{id_total}
use Rattle.ew_model.proofs.SubgraphLaws.{one_event}
use Rattle.event_graph.specs.Keeping.{IsAdmitted}
use Rattle.event_graph.proofs.Admitted.{laid}
use Rattle.event_graph.proofs.Places.{found_event, event_among}
use Rattle.agreement.specs.Sharing.{HaveSameParents, IsShared}
use Rattle.agreement.proofs.Apart.{AreApart, apart_untied, apart_mapped, no_more, no_others}
use Rattle.agreement.proofs.Found.{found_held}
use Rattle.agreement.proofs.ParentIds.{made_get}
use Rattle.ew_model.proofs.ListParts.{element_there}

-- an event of a history stands at a position
pub place_among : (history : List Event) (e : Event) → Among e history → (place : ℕ) × (place < length history) × (slice_get history place ≡ Some e)
place_among [] e m = absurd m
place_among (f ∷ history) e m =
    ⊎_elim (λ same. (0, omega arith, ap Some (sym same))) (λ k. let more = place_among history e k in let within = more.1 in (suc more.0, omega (arith, within), more.2)) m

pub same_made : {X : Type 0} (make : Event → X) (history : List Event) (place : ℕ) (e : Event) (x : X) → slice_get history place ≡ Some e → slice_get (map make history) place ≡ Some x → x ≡ make e
same_made make history place e x at told = let both : Some x ≡ Some (make e) = sym told ∙ made_get make history place e at in cc

-- Where the id at a position is found in the other history ..
module _ (one other : List Event) (p q : ℕ) (x : Id) (within : p < length one) (admitted : IsAdmitted other) (at : slice_get (ids_of one) p ≡ Some x) (found : position (id_eq x) (ids_of other) ≡ Some q) where
  e : (e : Event) × (slice_get one p ≡ Some e)
  e = element_there one p within

  f : (f : Event) × (slice_get other q ≡ Some f) × (x ≡ f.id)
  f = found_event other x q found

  same_id : e.0.id ≡ f.0.id
  same_id = sym (same_made (λ (g : Event). g.id) one p e.0 x e.1 at) ∙ f.2

  shared_equal : IsShared one p other → e.0 ≡ f.0
  shared_equal shared = one_event [] other e.0 f.0 (laid other admitted) (shared e.0 e.1) (event_among other q f.0 f.1) ((is_same_id e.0.id f.0.id).1 same_id)

  equal_shared : e.0 ≡ f.0 → IsShared one p other
  equal_shared same g there =
      let both : Some g ≡ Some e.0 = sym there ∙ e.1 in
      let here : g ≡ e.0 = cc in
      subst (λ (h : Event). Among h other) (sym (here ∙ same)) (event_among other q f.0 f.1)

  -- .. the event is shared where its operation and its parents are those of the event found ..
  pub shared_by_parts : (o r : Op) → slice_get (map (λ (g : Event). g.op) one) p ≡ Some o → slice_get (map (λ (g : Event). g.op) other) q ≡ Some r → o ≡ r → HaveSameParents one p other q → IsShared one p other
  shared_by_parts o r told known ops parents =
      let op : e.0.op ≡ f.0.op = sym (same_made (λ (g : Event). g.op) one p e.0 o e.1 told) ∙ (ops ∙ same_made (λ (g : Event). g.op) other q f.0 r f.1 known) in
      let above : e.0.parents ≡ f.0.parents = parents e.0 f.0 e.1 f.1 in
      equal_shared (λ i. record { id = same_id i; parents = above i; op = op i })

  -- .. and only there.
  pub shared_op : (o r : Op) → slice_get (map (λ (g : Event). g.op) one) p ≡ Some o → slice_get (map (λ (g : Event). g.op) other) q ≡ Some r → IsShared one p other → o ≡ r
  shared_op o r told known shared =
      same_made (λ (g : Event). g.op) one p e.0 o e.1 told ∙ (ap (λ (g : Event). g.op) (shared_equal shared) ∙ sym (same_made (λ (g : Event). g.op) other q f.0 r f.1 known))

  pub shared_parents : IsShared one p other → HaveSameParents one p other q
  shared_parents shared g h here there =
      let left : Some g ≡ Some e.0 = sym here ∙ e.1 in
      let right : Some h ≡ Some f.0 = sym there ∙ f.1 in
      let one : g ≡ e.0 = cc in
      let two : h ≡ f.0 = cc in
      ap (λ (w : Event). w.parents) (one ∙ (shared_equal shared ∙ sym two))

-- the id at a position
pub told : (history : List Event) (p : ℕ) → p < length history → (x : Id) × (slice_get (ids_of history) p ≡ Some x)
told history p within = let e = element_there history p within in (e.0.id, made_get (λ (g : Event). g.id) history p e.0 e.1)

-- it is found where it was looked for
pub found_told : (one other : List Event) (p q : ℕ) (x : Id) → slice_get (ids_of one) p ≡ Some x → position (id_eq x) (ids_of other) ≡ Some q
    → (y : Id) → slice_get (ids_of one) p ≡ Some y → position (id_eq y) (ids_of other) ≡ Some q
found_told one other p q x at found y there =
    let both : Some x ≡ Some y = sym at ∙ there in
    let same : x ≡ y = cc in
    subst (λ z. position (id_eq z) (ids_of other) ≡ Some q) same found

-- an event whose id isn't found isn't shared
pub none_shared : (one other : List Event) (p : ℕ) (x : Id) → p < length one → slice_get (ids_of one) p ≡ Some x → position (id_eq x) (ids_of other) ≡ None → IsShared one p other → ⊥
none_shared one other p x within at none shared =
    let e = element_there one p within in
    let new : is_held other x ≡ false = sym (found_held other x) ∙ ap is_some none in
    let id : x ≡ e.0.id = same_made (λ (g : Event). g.id) one p e.0 x e.1 at in
    false≢true (sym new ∙ (ap (is_held other) id ∙ held_of other e.0 (shared e.0 e.1)))

-- all events are shared where those at all positions are
pub all_shared : (one other : List Event) → ((p : ℕ) → p < length one → IsShared one p other) → (e : Event) → Among e one → Among e other
all_shared one other shared e m = let at = place_among one e m in shared at.0 at.1 e at.2

apart : (history : List Event) → IsAdmitted history → AreApart history
apart history admitted = apart_mapped (λ (e : Event). e.id) history (apart_untied id_total (ids_of history) (ids_apart [] history (laid history admitted)))

-- AS MANY EVENTS, all of which are shared, are the same
pub same_sets : (one other : List Event) → IsAdmitted one → length one ≡ length other → ((e : Event) → Among e one → Among e other) → SameElements one other
same_sets one other admitted many there = record { there = there; back = no_others one other (apart one admitted) there (omega (arith, many)) }

pub same_count : (one other : List Event) → IsAdmitted one → IsAdmitted other → SameElements one other → length one ≡ length other
same_count one other admitted known same =
    let left = no_more one other (apart one admitted) same.there in
    let right = no_more other one (apart other known) same.back in
    omega (arith, left, right)
