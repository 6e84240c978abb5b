-- What a sort leaves is the list in order, where no two elements tie.
use Rattle.std.proofs.Common.{◌≡◌, ℕ, zero, suc, ◌+◌, ◌≤◌, ◌<◌, Bool, true, false, cond, inl, inr, List, [], ◌∷◌, length, count_by, get_or, refl, sym, ap, ◌∙◌, subst, zero-add, arith}
use Rattle.std.specs.Ordering.{is_lt, is_eq}
use Rattle.std.specs.declared.cmp.Ordering.{Ordering}
use Rattle.std.specs.declared.cmp.Ordering.TheVariants.{Less, Equal, Greater}
use Rattle.std.specs.Cmp.{IsTotalOrder}
use Rattle.std.specs.List.{Contains}
use Rattle.std.specs.List.Sorted.{IsPermutation, IsSorted, IsStrictlySortedBy}
use Rattle.std.proofs.lemmas.Bool.{false≢true}
use Rattle.std.proofs.lemmas.Cmp.{tied_itself}
use Rattle.std.proofs.lemmas.List.Sums.{sum_by-cons}
use Rattle.std.proofs.lemmas.List.Sorted.{Contains-permutation, IsPermutation-sym, sum_by-IsPermutation}
use Rattle.ew_model.specs.Sorting.{sort_by}
use Rattle.ew_model.specs.Sets.{Among}
use Rattle.ew_model.proofs.SortingLaws.{NoTie, NoTies, above_from, below_all, sort_sorted, sorted_unique, sort_among, among_sort}

-- elements by their places
contains_from : {X : Type 0} (xs : List X) (z : X) → Among z xs → Contains xs z
contains_from [] z m = absurd m
contains_from (x ∷ xs) z (inl e) = (zero, omega arith, sym e)
contains_from (x ∷ xs) z (inr m) = let c = contains_from xs z m in (suc c.0, (let within : c.0 < length xs = c.1 in omega arith), c.2)

among_at : {X : Type 0} (xs : List X) (z : X) (k : ℕ) → k < length xs → get_or xs k z ≡ z → Among z xs
among_at [] z k h e = absurd (omega arith)
among_at (x ∷ xs) z zero h e = inl (sym e)
among_at (x ∷ xs) z (suc k) h e = inr (among_at xs z k (omega arith) e)

pub among_permutation : {X : Type 0} (xs ys : List X) → IsPermutation xs ys → (z : X) → Among z xs → Among z ys
among_permutation xs ys p z m = let c = Contains-permutation xs ys z p (contains_from xs z m) in among_at ys z c.0 c.1 c.2

not_equal : (r : Ordering) → (r ≡ Equal → ⊥) → is_eq r ≡ false
not_equal Less n = refl
not_equal Equal n = absurd (n refl)
not_equal Greater n = refl

module _ {X : Type 0} {R : X → X → Ordering} (o : IsTotalOrder R) where
  -- how many elements tie with x
  abbrev tied_with : X → List X → ℕ
  tied_with x xs = count_by (λ y. is_eq (R x y)) xs

  tied_with-cons : (x y : X) (ys : List X) (b : Bool) → is_eq (R x y) ≡ b → tied_with x (y ∷ ys) ≡ cond b 1 0 + tied_with x ys
  tied_with-cons x y ys b e = sum_by-cons (λ z. cond (is_eq (R x z)) 1 0) y ys ∙ ap (λ c. cond c 1 0 + tied_with x ys) e

  none_tied : (x : X) (ys : List X) → NoTie R x ys → tied_with x ys ≡ 0
  none_tied x [] h = refl
  none_tied x (y ∷ ys) h = tied_with-cons x y ys false (not_equal (R x y) h.0) ∙ zero-add (tied_with x ys) ∙ none_tied x ys h.1

  no_tie_by : (x y : X) (zs : List X) → R x y ≡ Equal → NoTie R y zs → NoTie R x zs
  no_tie_by x y [] e h = tt
  no_tie_by x y (z ∷ zs) e h = ((λ k. h.0 (sym (o.congr x y z e) ∙ k)), no_tie_by x y zs e h.1)

  one_more : (x y : X) (ys : List X) (r : Ordering) → R x y ≡ r → NoTie R y ys → tied_with x ys ≤ 1 → tied_with x (y ∷ ys) ≤ 1
  one_more x y ys Less e n few = omega (arith, tied_with-cons x y ys false (ap is_eq e), few)
  one_more x y ys Equal e n few = omega (arith, tied_with-cons x y ys true (ap is_eq e), none_tied x ys (no_tie_by x y ys e n))
  one_more x y ys Greater e n few = omega (arith, tied_with-cons x y ys false (ap is_eq e), few)

  -- where no two elements tie, at most one ties with x
  one_tied : (xs : List X) → NoTies R xs → (x : X) → tied_with x xs ≤ 1
  one_tied [] n x = omega arith
  one_tied (y ∷ ys) n x = one_more x y ys (R x y) refl n.0 (one_tied ys n.1 x)

  fewer_tied : (y : X) (ys : List X) → ((x : X) → tied_with x (y ∷ ys) ≤ 1) → (x : X) → tied_with x ys ≤ 1
  fewer_tied y ys few x = omega (arith, tied_with-cons x y ys (is_eq (R x y)) refl, few x)

  sorted_tail : (y : X) (ys : List X) → IsSorted R (y ∷ ys) → IsSorted R ys
  sorted_tail y ys s =
      λ k d low within.
      let next : suc k + 1 ≡ suc (k + 1) = omega arith in
      subst (λ n. is_lt (R (get_or (y ∷ ys) n d) (get_or ys k d)) ≡ false) next (s (suc k) d (omega arith) (omega arith))

  two_tied : (y z : X) (zs : List X) → R z y ≡ Equal → tied_with z (y ∷ z ∷ zs) ≤ 1 → ⊥
  two_tied y z zs e few =
      absurd (omega (arith, tied_with-cons z y (z ∷ zs) true (ap is_eq e), tied_with-cons z z zs true (ap is_eq (tied_itself o z)), few))

  -- elements in order of which none tie rise
  rising : (ys : List X) → IsSorted R ys → ((x : X) → tied_with x ys ≤ 1) → IsStrictlySortedBy R ys
  unfolding IsStrictlySortedBy
  rising [] s few = tt
  rising (y ∷ []) s few = (tt, tt)
  rising (y ∷ z ∷ zs) s few =
      let rest : IsStrictlySortedBy R (z ∷ zs) = rising (z ∷ zs) (sorted_tail y (z ∷ zs) s) (fewer_tied y (z ∷ zs) few) in
      let up : R y z ≡ Less = above_from o z y (λ e. false≢true (sym (s zero y (omega arith) (omega arith)) ∙ ap is_lt e)) (λ e. two_tied y z zs e (few z)) in
      ((up, below_all o y z zs up rest.0), rest)

  pub sorted_is_sort_by : (xs ys : List X) → NoTies R xs → IsPermutation xs ys → IsSorted R ys → ys ≡ sort_by R xs
  sorted_is_sort_by xs ys n p s =
      let few : (x : X) → tied_with x ys ≤ 1 = λ x. subst (λ k. k ≤ 1) (sym (sum_by-IsPermutation (λ z. cond (is_eq (R x z)) 1 0) xs ys p)) (one_tied xs n x) in
      sorted_unique o ys (sort_by R xs) (rising ys s few) (sort_sorted o xs n)
      (λ z m. among_sort o xs z (among_permutation ys xs (IsPermutation-sym xs ys p) z m))
      (λ z m. among_permutation xs ys p z (sort_among o xs z m))
