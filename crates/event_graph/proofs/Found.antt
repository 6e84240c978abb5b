-- The positions that are found, in order, are those of the events with these ids.
use Rattle.std.proofs.Common.{◌≡◌, ℕ, ◌+◌, true, inl, ⊎_elim, List, [], ◌∷◌, ◌++◌, filter, position, Option, Some, None, refl, sym, ap, ◌∙◌, subst, arith}
use Rattle.std.specs.Prelude.{slice_get}
use Rattle.std.specs.List.Sorted.{IsPermutation, IsSorted}
use Rattle.std.specs.Option.{option_to_list}
use Rattle.std.specs.Ordering.{nat_cmp}
use Rattle.std.specs.declared.cmp.Ordering.TheVariants.{Equal}
use Rattle.std.proofs.lemmas.Cmp.{nat_cmp_total, tied_itself, ranked}
use Rattle.std.proofs.lemmas.Map.Keys.{sorted_from_strictly_increasing}
use Rattle.ew_model.specs.declared.id.Id.{Id}
use Rattle.ew_model.specs.declared.event.Event.{Event}
use Rattle.ew_model.specs.Sets.{Among}
use Rattle.ew_model.specs.Sorting.{sort_by}
use Rattle.ew_model.specs.Ids.{id_cmp, id_eq, is_among, ids_ascend}
use Rattle.ew_model.specs.Ancestors.{ids_of}
use Rattle.ew_model.specs.Positions.{positions_in}
use Rattle.ew_model.proofs.IdLaws.{is_same_id}
use Rattle.ew_model.proofs.PathOrder.{id_total}
use Rattle.ew_model.proofs.SetLaws.{among_map, among_filter, among_flat, flat_among}
use Rattle.ew_model.proofs.SortingLaws.{NoTie, NoTies, all_at, all_from, sort_sorted, sorted_unique, sort_among, among_sort}
use Rattle.ew_model.proofs.SortedLists.{sorted_is_sort_by}
use Rattle.ew_model.proofs.EntryLaws.{LaidOut}
use Rattle.ew_model.proofs.CoverLaws.{among_here}
use Rattle.ew_model.proofs.VersionLaws.{found_by}
use Rattle.ew_model.proofs.RisingLists.{number_among}
use Rattle.ew_model.proofs.PositionNumbers.{numbered, numbered_get, positions_filtered, position_named}
use Rattle.event_graph.specs.Finding.{found_in}
use Rattle.event_graph.proofs.Ascending.{ascending_ties}
use Rattle.event_graph.proofs.Places.{found_event, place_of, numbered_event, positions_increase}

abbrev place_list : List Event → Id → List ℕ
place_list history x = option_to_list (position (id_eq x) (ids_of history))

in_option : (o : Option ℕ) (q : ℕ) → Among q (option_to_list o) → o ≡ Some q
in_option None q m = absurd m
in_option (Some p) q m = ⊎_elim (λ e. ap Some (sym e)) (λ k. absurd k) m

option_in : (o : Option ℕ) (q : ℕ) → o ≡ Some q → Among q (option_to_list o)
option_in None q e = let no : ⊥ = cc in absurd no
option_in (Some p) q e = let same : q ≡ p = cc in inl same

-- a position that is found is of one of the ids
pub found_one : (history : List Event) (ids : List Id) (q : ℕ) → Among q (found_in history ids) → (f : Event) × Among f.id ids × (slice_get history q ≡ Some f)
found_one history ids q m =
    let y = among_flat (place_list history) ids q m in
    let f = found_event history y.0 q (in_option (position (id_eq y.0) (ids_of history)) q y.2) in
    (f.0, subst (λ x. Among x ids) f.2 y.1, f.1)

-- no two ids are found at one position
apart : (history : List Event) (x : Id) (ids : List Id) (p q : ℕ) → position (id_eq x) (ids_of history) ≡ Some p → Among q (found_in history ids) → p ≡ q → Among x ids
apart history x ids p q h m same =
    let f = found_event history x p h in
    let g = found_one history ids q m in
    let both : Some f.0 ≡ Some g.0 = sym f.1 ∙ (ap (slice_get history) same ∙ g.2) in
    let one : f.0 ≡ g.0 = cc in
    subst (λ y. Among y ids) (sym (f.2 ∙ ap (λ (e : Event). e.id) one)) g.1

ties_with : (history : List Event) (x : Id) (ids : List Id) (o : Option ℕ) → position (id_eq x) (ids_of history) ≡ o → NoTie id_cmp x ids → NoTies nat_cmp (found_in history ids) → NoTies nat_cmp (option_to_list o ++ found_in history ids)
ties_with history x ids None e n rest = rest
ties_with history x ids (Some p) e n rest = (
  all_from (λ q. nat_cmp p q ≡ Equal → ⊥) (found_in history ids) (λ q m tie.
      let same : p ≡ q = ranked p q Equal (sym tie) in
      all_at (λ y. id_cmp x y ≡ Equal → ⊥) ids x n (apart history x ids p q e m same) (tied_itself id_total x)),
  rest,
)

found_ties : (history : List Event) (ids : List Id) → NoTies id_cmp ids → NoTies nat_cmp (found_in history ids)
found_ties history [] n = tt
found_ties history (x ∷ ids) n = ties_with history x ids (position (id_eq x) (ids_of history)) refl n.0 (found_ties history ids n.1)

pub found_named : (history : List Event) (ids : List Id) (q : ℕ) → Among q (found_in history ids) → Among q (positions_in history ids)
found_named history ids q m =
    let f = found_one history ids q m in
    let same : 0 + q ≡ q = omega arith in
    let named = position_named ids 0 history (0 + q, f.0) (numbered_get 0 history q f.0 f.2) in
    subst (λ p. Among p (positions_in history ids)) same (number_among (positions_in history ids) (0 + q) (named ∙ among_here ids f.0.id f.1))

pub named_found : (history : List Event) (ids : List Id) → LaidOut [] history → (q : ℕ) → Among q (positions_in history ids) → Among q (found_in history ids)
named_found history ids there q m =
    let passes = λ (z : ℕ × Event). is_among ids z.1.id in
    let z = among_map (λ (z : ℕ × Event). z.0) (filter passes (numbered 0 history)) q (subst (Among q) (positions_filtered ids 0 history) m) in
    let kept = among_filter passes (numbered 0 history) z.0 z.1 in
    let at = numbered_event history z.0 kept.0 in
    let y = found_by (id_eq z.0.1.id) ids kept.1 in
    let same : z.0.1.id ≡ y.0 = (is_same_id z.0.1.id y.0).0 y.2 in
    let found : position (id_eq y.0) (ids_of history) ≡ Some q = ap (λ x. position (id_eq x) (ids_of history)) (sym same) ∙ (place_of history there z.0.0 z.0.1 at ∙ ap Some (sym z.2)) in
    flat_among (place_list history) ids y.0 q y.1 (option_in (position (id_eq y.0) (ids_of history)) q found)

pub sorted_found : (history : List Event) (ids : List Id) (vs : List ℕ) → LaidOut [] history → ids_ascend ids ≡ true → IsPermutation (found_in history ids) vs → IsSorted nat_cmp vs → vs ≡ positions_in history ids
sorted_found history ids vs there ascend p s =
    let found = found_in history ids in
    let ties = found_ties history ids (ascending_ties ids ascend) in
    sorted_is_sort_by nat_cmp_total found vs ties p s
    ∙ sorted_unique nat_cmp_total (sort_by nat_cmp found) (positions_in history ids) (sort_sorted nat_cmp_total found ties) (sorted_from_strictly_increasing (positions_in history ids) (positions_increase history ids))
    (λ z m. found_named history ids z (sort_among nat_cmp_total found z m))
    (λ z m. among_sort nat_cmp_total found z (named_found history ids there z m))
