-- Ids that are found at some positions.
use Rattle.std.proofs.Common.{◌≡◌, ℕ, zero, suc, ◌<◌, Bool, true, false, nat_eq, List, [], ◌∷◌, length, position, Some, None, is_some, sym, ap, ◌∙◌, subst, All}
use Rattle.std.specs.Prelude.{slice_get}
use Rattle.std.specs.Bool.{MatchBool}
use Rattle.std.specs.List.{list_any, list_all, AllWithin, HoldsAt}
use Rattle.std.proofs.lemmas.Bool.{false≢true, false_from_ne_true}
use Rattle.std.proofs.lemmas.Cmp.{nat_eq_equiv}
use Rattle.std.proofs.lemmas.List.Elements.{recursion_from_All, All-from_all_within}
use Rattle.std.proofs.lemmas.List.Folds.{list_all_at}
use Rattle.std.proofs.lemmas.Map.Views.{exact_unsigned_eq}
use Rattle.ew_model.specs.declared.id.Id.{Id}
use Rattle.ew_model.specs.declared.event.Event.{Event}
use Rattle.ew_model.specs.Ids.{id_eq, is_among}
use Rattle.ew_model.specs.Ancestors.{ids_of, is_held}
use Rattle.ew_model.proofs.IdLaws.{is_same_id}
use Rattle.ew_model.proofs.CoverLaws.{held_by}
use Rattle.ew_model.proofs.ListTests.{found_by, pass_all, same_truth, any_alike, any_mapped}
use Rattle.ew_model.proofs.SetLaws.{among_map}
use Rattle.ew_model.proofs.SortingLaws.{all_at}
use Rattle.event_graph.specs.Keeping.{IsAdmitted, id_of}
use Rattle.event_graph.proofs.Admitted.{laid}
use Rattle.event_graph.proofs.Places.{found_event, event_among, one_place}
use Rattle.agreement.specs.Sharing.{ids_at}
use Rattle.event_graph.proofs.Rebuilt.{id_there}
use Rattle.ew_model.proofs.ListParts.{element_there, is_some-position}

-- an id is found exactly where an event has it
pub found_held : (history : List Event) (x : Id) → is_some (position (id_eq x) (ids_of history)) ≡ is_held history x
found_held history x = is_some-position (id_eq x) (ids_of history)

-- the id at a position
pub told_id : (ids : List Id) (place : ℕ) (x : Id) → slice_get ids place ≡ Some x → x ≡ id_of ids place
told_id [] place x h = let no : ⊥ = cc in absurd no
told_id (y ∷ ids) zero x h = let one : x ≡ y = cc in one
told_id (y ∷ ids) (suc place) x h = told_id ids place x h

-- an id stands at a position exactly where that is the one at which it is found
same_place : (history : List Event) (x : Id) (q p : ℕ) → IsAdmitted history → position (id_eq x) (ids_of history) ≡ Some q → p < length history → id_eq x (id_of (ids_of history) p) ≡ nat_eq p q
same_place history x q p admitted at within =
    let f = found_event history x q at in
    let g = element_there history p within in
    let here : id_of (ids_of history) p ≡ g.0.id = id_there history p g.0 g.1 in
    same_truth (id_eq x (id_of (ids_of history) p)) (nat_eq p q)
    (λ e.
    let one : x ≡ id_of (ids_of history) p = (is_same_id x (id_of (ids_of history) p)).0 e in
    let same : p ≡ q = one_place history (laid history admitted) p q g.0 f.0 g.1 f.1 (sym here ∙ (sym one ∙ f.2)) in
    subst (λ n. nat_eq p n ≡ true) same (nat_eq_equiv.refl p))
    (λ e.
    let same : p ≡ q = exact_unsigned_eq p q e in
    let both : Some g.0 ≡ Some f.0 = sym g.1 ∙ (ap (slice_get history) same ∙ f.1) in
    let one : g.0 ≡ f.0 = cc in
    (is_same_id x (id_of (ids_of history) p)).1 (f.2 ∙ (ap (λ (w : Event). w.id) (sym one) ∙ sym here)))

-- so it stands at one of some positions exactly where that is one of them
pub found_among : (history : List Event) (positions : List ℕ) (x : Id) (q : ℕ) → IsAdmitted history → position (id_eq x) (ids_of history) ≡ Some q → All (λ p. p < length history) positions
    → list_any (λ p. nat_eq p q) positions ≡ is_among (ids_at history positions) x
found_among history positions x q admitted at within =
    let each = recursion_from_All (λ p. p < length history) positions within in
    sym (any_mapped (id_of (ids_of history)) (id_eq x) positions
    ∙ any_alike (λ p. id_eq x (id_of (ids_of history) p)) (λ p. nat_eq p q) positions (λ p m. same_place history x q p admitted at (all_at (λ n. n < length history) positions p each m)))

-- and at none where it isn't found
pub none_among : (history : List Event) (positions : List ℕ) (x : Id) → position (id_eq x) (ids_of history) ≡ None → All (λ p. p < length history) positions → false ≡ is_among (ids_at history positions) x
none_among history positions x none within =
    let each = recursion_from_All (λ p. p < length history) positions within in
    let new : is_held history x ≡ false = sym (found_held history x) ∙ ap is_some none in
    sym (false_from_ne_true (is_among (ids_at history positions) x) (λ e.
    let y = found_by (id_eq x) (ids_at history positions) e in
    let p = among_map (id_of (ids_of history)) positions y.0 y.1 in
    let g = element_there history p.0 (all_at (λ n. n < length history) positions p.0 each p.1) in
    let same : id_eq x g.0.id ≡ true = subst (λ z. id_eq x z ≡ true) (p.2 ∙ id_there history p.0 g.0 g.1) y.2 in
    false≢true (sym new ∙ held_by history x g.0 (event_among history p.0 g.0 g.1) same)))

-- what is told of a test by numbers that all pass, or by one that doesn't
pub told_all : (test : ℕ → Bool) (r : Bool) (xs : List ℕ) → MatchBool r (AllWithin (λ x. test x ≡ true) xs 0 (length xs)) ((k : ℕ) × (k < length xs) × HoldsAt (λ x. test x ≡ false) xs k) → r ≡ list_all test xs
told_all test true xs h =
    let each = recursion_from_All (λ x. test x ≡ true) xs (All-from_all_within (λ x. test x ≡ true) xs h) in
    sym (pass_all test xs (λ x m. all_at (λ y. test y ≡ true) xs x each m))
told_all test false xs h = sym (list_all_at test xs h.0 0 h.1 (h.2 0))
