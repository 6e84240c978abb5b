-- The heads, by their positions: their ids, how many there are, and their order.
use Rattle.std.proofs.Common.{◌≡◌, ◌≤◌, Bool, true, not, cond, inl, inr, List, [], ◌∷◌, map, filter, length, refl, sym, ap, ◌∙◌, arith}
use Rattle.std.proofs.lemmas.List.{length-map}
use Rattle.std.proofs.lemmas.List.Sums.{length-filter, count_by-le-length}
use Rattle.std.specs.List.Sorted.{IsPermutation, IsSorted}
use Rattle.ew_model.specs.declared.id.Id.{Id}
use Rattle.ew_model.specs.declared.event.Event.{Event}
use Rattle.ew_model.specs.Sets.{Among}
use Rattle.ew_model.specs.Ids.{id_cmp, id_eq, is_among}
use Rattle.ew_model.specs.Ancestors.{ids_of, is_parent, heads}
use Rattle.ew_model.specs.Sorting.{sort_by}
use Rattle.ew_model.specs.Verdicts.{IsGood}
use Rattle.ew_model.proofs.IdLaws.{is_same_id}
use Rattle.ew_model.proofs.ListTests.{any_from, found_by, same_truth}
use Rattle.ew_model.proofs.PathOrder.{id_total}
use Rattle.ew_model.proofs.SetLaws.{among_filter, filter_among}
use Rattle.ew_model.proofs.SortingLaws.{NoTies, ties_filter}
use Rattle.ew_model.proofs.SortedLists.{sorted_is_sort_by}
use Rattle.ew_model.proofs.CoverLaws.{among_here}
use Rattle.ew_model.proofs.EditHeads.{ids_apart}
use Rattle.ew_model.proofs.GoodLaws.{good_laid_out}
use Rattle.event_graph.specs.Keeping.{id_of}
use Rattle.event_graph.proofs.Rebuilt.{ids_at_positions}
use Rattle.replica.specs.Keeping.{head_positions}

-- of ids that are among these, those that pass a test are among the ones that pass
among_passing : (p : Id → Bool) (ids : List Id) (x : Id) → is_among ids x ≡ true → is_among (filter p ids) x ≡ p x
among_passing p ids x there =
    let here = found_by (id_eq x) ids there in
    same_truth (is_among (filter p ids) x) (p x)
    (λ e.
    let found = found_by (id_eq x) (filter p ids) e in
    ap p ((is_same_id x found.0).0 found.2) ∙ (among_filter p ids found.0 found.1).1)
    (λ passes. any_from (id_eq x) (filter p ids) here.0 (filter_among p ids here.0 here.1 (ap p (sym ((is_same_id x here.0).0 here.2)) ∙ passes)) here.2)

filter_alike : (p q : Id → Bool) (ids : List Id) → ((x : Id) → Among x ids → p x ≡ q x) → filter p ids ≡ filter q ids
filter_alike p q [] h = refl
filter_alike p q (x ∷ ids) h = λ i. cond (h x (inl refl) i) (x ∷ filter_alike p q ids (λ y m. h y (inr m)) i) (filter_alike p q ids (λ y m. h y (inr m)) i)

-- the ids at the positions of the heads are the heads
pub heads_found : (history : List Event) → map (id_of (ids_of history)) (head_positions history) ≡ heads history
heads_found history =
    let p : Id → Bool = λ x. not (is_parent history x) in
    ids_at_positions history (heads history)
    ∙ filter_alike (is_among (heads history)) p (ids_of history) (λ x m. among_passing p (ids_of history) x (among_here (ids_of history) x m))

pub length-head_positions : (history : List Event) → length (head_positions history) ≡ length (heads history)
length-head_positions history = sym (length-map (head_positions history) (id_of (ids_of history))) ∙ ap length (heads_found history)

pub few_heads : (history : List Event) → length (heads history) ≤ length history
few_heads history =
    let p : Id → Bool = λ x. not (is_parent history x) in
    let passing = length-filter p (ids_of history) in
    let few = count_by-le-length p (ids_of history) in
    let all : length (ids_of history) ≡ length history = length-map history (λ (e : Event). e.id) in
    omega (arith, passing, few, all)

-- what a sort makes of the heads
pub sorted_heads : (history : List Event) (ids : List Id) → IsGood history → IsPermutation (heads history) ids → IsSorted id_cmp ids → ids ≡ sort_by id_cmp (heads history)
sorted_heads history ids good p s =
    let apart : NoTies id_cmp (heads history) = ties_filter id_cmp (λ x. not (is_parent history x)) (ids_of history) (ids_apart [] history (good_laid_out history good)) in
    sorted_is_sort_by id_total (heads history) ids apart p s
