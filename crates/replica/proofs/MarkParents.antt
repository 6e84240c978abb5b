-- What a sort leaves of ids, of which some may be the same.
use Rattle.std.proofs.Common.{◌≡◌, ℕ, zero, suc, ◌+◌, Bool, true, false, cond, List, [], ◌∷◌, count_by, get_or, refl, sym, ap, ◌∙◌, subst, arith}
use Rattle.std.specs.List.{AllByRecursion}
use Rattle.std.specs.Cmp.{IsStrictWeakOrder}
use Rattle.std.specs.List.Sorted.{IsPermutation, IsSorted}
use Rattle.std.specs.Ordering.{is_lt, ordering_reverse}
use Rattle.std.specs.declared.cmp.Ordering.{Ordering}
use Rattle.std.specs.declared.cmp.Ordering.TheVariants.{Less, Equal, Greater}
use Rattle.std.proofs.lemmas.Bool.{false≢true, false_from_ne_true}
use Rattle.std.proofs.lemmas.List.Sums.{sum_by-cons}
use Rattle.std.proofs.lemmas.List.Sorted.{ranks_by, sum_by-IsPermutation}
use Rattle.ew_model.specs.declared.id.Id.{Id}
use Rattle.ew_model.specs.Ids.{id_cmp, id_eq}
use Rattle.ew_model.specs.Sorting.{put_in_order, sort_by}
use Rattle.ew_model.proofs.IdLaws.{is_same_id}
use Rattle.ew_model.proofs.PathOrder.{id_total, id_exact}

abbrev below : Id → Id → Bool
below x y = is_lt (id_cmp x y)

ranked : IsStrictWeakOrder below
ranked = ranks_by id_total (λ (x : Id). x)

-- none of the ids is below x
abbrev NoneBelow : Id → List Id → Type 0
NoneBelow x ids = AllByRecursion (λ y. below y x ≡ false) ids

abbrev InOrder : List Id → Type 0
InOrder [] = Unit {0}
InOrder (x ∷ ids) = NoneBelow x ids × InOrder ids

none_through : (x y : Id) (ids : List Id) → below y x ≡ false → NoneBelow y ids → NoneBelow x ids
none_through x y [] h k = tt
none_through x y (z ∷ ids) h k = (ranked.chain z y x k.0 h, none_through x y ids h k.1)

sorted_tail : (y : Id) (ys : List Id) → IsSorted id_cmp (y ∷ ys) → IsSorted id_cmp ys
sorted_tail y ys s =
    λ k d low within.
    let next : suc k + 1 ≡ suc (k + 1) = omega arith in
    subst (λ n. is_lt (id_cmp (get_or (y ∷ ys) n d) (get_or ys k d)) ≡ false) next (s (suc k) d (omega arith) (omega (arith, within)))

in_order : (ids : List Id) → IsSorted id_cmp ids → InOrder ids
in_order [] s = tt
in_order (x ∷ []) s = (tt, tt)
in_order (x ∷ y ∷ ids) s =
    let more = in_order (y ∷ ids) (sorted_tail x (y ∷ ids) s) in
    let next : below y x ≡ false = s 0 x (omega arith) (omega arith) in
    ((next, none_through x y ids next more.0), more)

-- one more at its place
none_below_put : (y x : Id) (ids : List Id) → below x y ≡ false → NoneBelow y ids → NoneBelow y (put_in_order id_cmp x ids)
none_below_put y x [] h k = (h, tt)
none_below_put y x (z ∷ ids) h k = at (below x z) (none_below_put y x ids h k.1)
  where
    at : (b : Bool) → NoneBelow y (put_in_order id_cmp x ids) → NoneBelow y (cond b (x ∷ z ∷ ids) (z ∷ put_in_order id_cmp x ids))
    at true more = (h, k)
    at false more = (k.0, more)

put_there : (x : Id) (ids : List Id) → InOrder ids → InOrder (put_in_order id_cmp x ids)
put_there x [] s = (tt, tt)
put_there x (y ∷ ids) s = at (below x y) refl (put_there x ids s.1)
  where
    at : (b : Bool) → below x y ≡ b → InOrder (put_in_order id_cmp x ids) → InOrder (cond b (x ∷ y ∷ ids) (y ∷ put_in_order id_cmp x ids))
    at true is more = let back = ranked.one_way x y is in ((back, none_through x y ids back s.0), s)
    at false is more = (none_below_put y x ids is s.0, more)

sort_in_order : (ids : List Id) → InOrder (sort_by id_cmp ids)
sort_in_order [] = tt
sort_in_order (x ∷ ids) = put_there x (sort_by id_cmp ids) (sort_in_order ids)

-- how often an id stands in a list
abbrev times : Id → List Id → ℕ
times x ids = count_by (λ y. id_eq x y) ids

times-cons : (x y : Id) (ids : List Id) → times x (y ∷ ids) ≡ cond (id_eq x y) 1 0 + times x ids
times-cons x y ids = sum_by-cons (λ z. cond (id_eq x z) 1 0) y ids

times-itself : (x : Id) (ids : List Id) → times x (x ∷ ids) ≡ suc (times x ids)
times-itself x ids =
    let itself : id_eq x x ≡ true = (is_same_id x x).1 refl in
    times-cons x x ids ∙ ap (λ b. cond b 1 0 + times x ids) itself ∙ omega arith

times-put : (z x : Id) (ids : List Id) → times z (put_in_order id_cmp x ids) ≡ cond (id_eq z x) 1 0 + times z ids
times-put z x [] = times-cons z x []
times-put z x (y ∷ ids) = at (below x y) (times-put z x ids)
  where
    at : (b : Bool) → times z (put_in_order id_cmp x ids) ≡ cond (id_eq z x) 1 0 + times z ids → times z (cond b (x ∷ y ∷ ids) (y ∷ put_in_order id_cmp x ids)) ≡ cond (id_eq z x) 1 0 + times z (y ∷ ids)
    at true h = times-cons z x (y ∷ ids)
    at false h =
        let behind = times-cons z y (put_in_order id_cmp x ids) in
        let before = times-cons z y ids in
        omega (arith, h, behind, before)

times-sort : (z : Id) (ids : List Id) → times z (sort_by id_cmp ids) ≡ times z ids
times-sort z [] = refl
times-sort z (x ∷ ids) = times-put z x (sort_by id_cmp ids) ∙ ap (λ n. cond (id_eq z x) 1 0 + n) (times-sort z ids) ∙ sym (times-cons z x ids)

-- an id below all of these stands among none
none_there : (x y : Id) (ids : List Id) → below x y ≡ true → NoneBelow y ids → times x ids ≡ 0
none_there x y [] h k = refl
none_there x y (z ∷ ids) h k =
    let other : id_eq x z ≡ false = false_from_ne_true (id_eq x z) (λ e. false≢true (sym k.0 ∙ (ap (λ w. below w y) (sym ((is_same_id x z).0 e)) ∙ h))) in
    times-cons x z ids ∙ ap (λ b. cond b 1 0 + times x ids) other ∙ (let more = none_there x y ids h k.1 in omega (arith, more))

itself_not_below : (x : Id) → below x x ≡ false
itself_not_below x = false_from_ne_true (below x x) (λ e. false≢true (sym (ranked.one_way x x e) ∙ e))

first_not_below : (x y : Id) (xs ys : List Id) → NoneBelow y ys → times x (x ∷ xs) ≡ times x (y ∷ ys) → below x y ≡ false
first_not_below x y xs ys s same =
    false_from_ne_true (below x y) (λ e.
    let none : times x (y ∷ ys) ≡ 0 = none_there x y (y ∷ ys) e (itself_not_below y, s) in
    let some = times-itself x xs in
    absurd (omega (arith, none, some, same)))

tied : (x y : Id) → below x y ≡ false → below y x ≡ false → x ≡ y
tied x y h k = at (id_cmp x y) refl
  where
    at : (r : Ordering) → id_cmp x y ≡ r → x ≡ y
    at Less is = absurd (false≢true (sym h ∙ ap is_lt is))
    at Equal is = id_exact x y is
    at Greater is = absurd (false≢true (sym k ∙ ap is_lt (id_total.antisymm y x ∙ ap ordering_reverse is)))

-- lists in order of the same ids are one
same_list : (xs ys : List Id) → InOrder xs → InOrder ys → ((z : Id) → times z xs ≡ times z ys) → xs ≡ ys
same_list [] [] s t same = refl
same_list [] (y ∷ ys) s t same = absurd (let some = times-itself y ys in let none = same y in omega (arith, some, none))
same_list (x ∷ xs) [] s t same = absurd (let some = times-itself x xs in let none = same x in omega (arith, some, none))
same_list (x ∷ xs) (y ∷ ys) s t same =
    let first : x ≡ y = tied x y (first_not_below x y xs ys t.0 (same x)) (first_not_below y x ys xs s.0 (sym (same y))) in
    let rest : xs ≡ ys = same_list xs ys s.1 t.1 (λ z.
    let one = times-cons z x xs in
    let other = times-cons z y ys in
    let both = same z in
    let alike = ap (λ (w : Id). cond (id_eq z w) (suc zero) zero) first in
    omega (arith, one, other, both, alike)) in
    λ i. first i ∷ rest i

-- A sort leaves the ids in order.
pub sorted_ids : (xs ys : List Id) → IsPermutation xs ys → IsSorted id_cmp ys → ys ≡ sort_by id_cmp xs
sorted_ids xs ys p s =
    same_list ys (sort_by id_cmp xs) (in_order ys s) (sort_in_order xs)
    (λ z. sum_by-IsPermutation (λ y. cond (id_eq z y) 1 0) xs ys p ∙ sym (times-sort z xs))
