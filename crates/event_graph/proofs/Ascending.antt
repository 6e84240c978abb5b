-- Ascending ids.
use Rattle.std.proofs.Common.{◌≡◌, true, List, [], ◌∷◌, refl}
use Rattle.std.specs.List.Sorted.{IsStrictlySortedBy}
use Rattle.std.specs.Ordering.{is_lt}
use Rattle.std.specs.declared.cmp.Ordering.{Ordering}
use Rattle.std.specs.declared.cmp.Ordering.TheVariants.{Less, Equal, Greater}
use Rattle.std.proofs.lemmas.Bool.{and_parts}
use Rattle.ew_model.specs.declared.id.Id.{Id}
use Rattle.ew_model.specs.Ids.{id_cmp, id_lt, ids_ascend}
use Rattle.ew_model.proofs.MarkGroups.{ties_sorted}
use Rattle.ew_model.proofs.PathOrder.{id_total}
use Rattle.ew_model.proofs.SortingLaws.{NoTies, below_all}

less_of : (r : Ordering) → is_lt r ≡ true → r ≡ Less
less_of Less h = refl
less_of Equal h = let no : ⊥ = cc in absurd no
less_of Greater h = let no : ⊥ = cc in absurd no

pub strictly : (ids : List Id) → ids_ascend ids ≡ true → IsStrictlySortedBy id_cmp ids
unfolding IsStrictlySortedBy
strictly [] h = tt
strictly (x ∷ []) h = (tt, tt)
strictly (x ∷ y ∷ ids) h =
    let parts = and_parts (id_lt x y) (ids_ascend (y ∷ ids)) h in
    let up = less_of (id_cmp x y) parts.0 in
    let rest = strictly (y ∷ ids) parts.1 in
    ((up, below_all id_total x y ids up rest.0), rest)

pub ascending_ties : (ids : List Id) → ids_ascend ids ≡ true → NoTies id_cmp ids
ascending_ties ids h = ties_sorted ids (strictly ids h)
