-- Lists of rising numbers.
use Rattle.std.proofs.Common.{◌≡◌, ℕ, ◌<◌, ◌≤◌, true, ◌&&◌, inl, inr, ⊎_elim, nat_eq, List, [], ◌∷◌, ◌++◌, refl, sym, subst, arith, All, false}
use Rattle.std.specs.List.{AllByRecursion}
use Rattle.std.specs.List.Sorted.{IsStrictlyIncreasing, IsStrictlySortedBy}
use Rattle.std.specs.Ordering.{nat_cmp, is_eq, is_lt}
use Rattle.std.specs.declared.cmp.Ordering.TheVariants.{Less}
use Rattle.std.specs.Cmp.{nat_cmp_is}
use Rattle.std.specs.Cmp.Lexicographic.{pointwise}
use Rattle.std.proofs.lemmas.Bool.{and_parts, and_from}
use Rattle.std.proofs.lemmas.Cmp.{ranked, nat_cmp_total, nat_eq_equiv}
use Rattle.std.proofs.lemmas.Map.Keys.{sorted_from_strictly_increasing, IsStrictlyIncreasing-from_sorted}
use Rattle.std.proofs.lemmas.Map.Views.{exact_unsigned_eq}
use Rattle.ew_model.specs.Sets.{Among}
use Rattle.ew_model.specs.Graph.{is_named, are_named}
use Rattle.ew_model.proofs.ListTests.{any_from, found_by, passes, pass_all, same_truth}
use Rattle.ew_model.proofs.SortingLaws.{all_at, all_from, sorted_unique}
use Rattle.std.proofs.lemmas.Bool.Decides.{nat_tests}
use Rattle.std.proofs.lemmas.List.Elements.{recursion_from_All}

-- each number is below all behind it
abbrev pub Rise : List ℕ → Type 0
Rise [] = Unit {0}
Rise (x ∷ xs) = AllByRecursion (λ y. x < y) xs × Rise xs

rise_sorted : (xs : List ℕ) → IsStrictlySortedBy nat_cmp xs → Rise xs
unfolding IsStrictlySortedBy
rise_sorted [] h = tt
rise_sorted (x ∷ xs) h = (all_from (λ y. x < y) xs (λ y m. ranked x y Less (sym (all_at (λ z. nat_cmp x z ≡ Less) xs y h.0 m))), rise_sorted xs h.1)

pub rise_of : (xs : List ℕ) → IsStrictlyIncreasing xs → Rise xs
rise_of xs h = rise_sorted xs (sorted_from_strictly_increasing xs h)

sorted_of : (xs : List ℕ) → Rise xs → IsStrictlySortedBy nat_cmp xs
unfolding IsStrictlySortedBy
sorted_of [] h = tt
sorted_of (x ∷ xs) h = (all_from (λ y. nat_cmp x y ≡ Less) xs (λ y m. sym (nat_cmp_is x y Less (all_at (λ z. x < z) xs y h.0 m))), sorted_of xs h.1)

pub increasing_of : (xs : List ℕ) → Rise xs → IsStrictlyIncreasing xs
increasing_of xs h = IsStrictlyIncreasing-from_sorted xs (sorted_of xs h)

-- the last of rising numbers is the greatest
pub below_last : (xs : List ℕ) (x : ℕ) → Rise (xs ++ x ∷ []) → (y : ℕ) → Among y (xs ++ x ∷ []) → y ≤ x
below_last [] x h y m = ⊎_elim (λ e. omega (arith, e)) (λ no. absurd no) m
below_last (z ∷ xs) x h y m = ⊎_elim (λ e. let far : z < x = all_at (λ w. z < w) (xs ++ x ∷ []) x h.0 (last xs) in omega (arith, e)) (λ k. below_last xs x h.1 y k) m
  where
    last : (ys : List ℕ) → Among x (ys ++ x ∷ [])
    last [] = inl refl
    last (y ∷ ys) = inr (last ys)

-- a number is named exactly where it is among them
pub number_among : (xs : List ℕ) (x : ℕ) → is_named nat_eq xs x ≡ true → Among x xs
number_among xs x h = let found = found_by (nat_eq x) xs h in subst (λ y. Among y xs) (sym (exact_unsigned_eq x found.0 found.2)) found.1

pub among_named : (xs : List ℕ) (x : ℕ) → Among x xs → is_named nat_eq xs x ≡ true
among_named xs x m = any_from (nat_eq x) xs x m (nat_eq_equiv.refl x)

-- rising numbers with the same elements are one list
pub rising_unique : (xs ys : List ℕ) → Rise xs → Rise ys → ((z : ℕ) → Among z xs → Among z ys) → ((z : ℕ) → Among z ys → Among z xs) → xs ≡ ys
rising_unique xs ys h k f g = sorted_unique nat_cmp_total xs ys (sorted_of xs h) (sorted_of ys k) f g

pub pointwise_same : (xs ys : List ℕ) → pointwise nat_eq xs ys ≡ true → xs ≡ ys
pointwise_same [] [] h = refl
pointwise_same [] (y ∷ ys) h = let no : ⊥ = cc in absurd no
pointwise_same (x ∷ xs) [] h = let no : ⊥ = cc in absurd no
pointwise_same (x ∷ xs) (y ∷ ys) h =
    let parts = and_parts (nat_eq x y) (pointwise nat_eq xs ys) h in
    let first : x ≡ y = exact_unsigned_eq x y parts.0 in
    let rest : xs ≡ ys = pointwise_same xs ys parts.1 in
    λ i. first i ∷ rest i

pub pointwise_itself : (xs : List ℕ) → pointwise nat_eq xs xs ≡ true
pointwise_itself [] = refl
pointwise_itself (x ∷ xs) = and_from (nat_eq x x) (pointwise nat_eq xs xs) (nat_eq_equiv.refl x) (pointwise_itself xs)

-- So two rising lists name each other's numbers exactly where they are one.
pub named_both : (xs ys : List ℕ) → Rise xs → Rise ys → (are_named nat_eq xs ys && are_named nat_eq ys xs) ≡ pointwise nat_eq xs ys
named_both xs ys h k =
    same_truth (are_named nat_eq xs ys && are_named nat_eq ys xs) (pointwise nat_eq xs ys)
    (λ e. let parts = and_parts (are_named nat_eq xs ys) (are_named nat_eq ys xs) e in
    let one : xs ≡ ys = rising_unique xs ys h k (λ z m. number_among ys z (passes (is_named nat_eq ys) xs z parts.1 m)) (λ z m. number_among xs z (passes (is_named nat_eq xs) ys z parts.0 m)) in
    subst (λ zs. pointwise nat_eq xs zs ≡ true) one (pointwise_itself xs))
    (λ e. let one : xs ≡ ys = pointwise_same xs ys e in
    subst (λ zs. (are_named nat_eq xs zs && are_named nat_eq zs xs) ≡ true) one
    (and_from (are_named nat_eq xs xs) (are_named nat_eq xs xs) (pass_all (is_named nat_eq xs) xs (λ z m. among_named xs z m)) (pass_all (is_named nat_eq xs) xs (λ z m. among_named xs z m))))

-- what lies below n and is named is below n
pub named_low : (xs : List ℕ) (n m : ℕ) → All (λ p. p < n) xs → is_named nat_eq xs m ≡ true → m < n
named_low xs n m h e = all_at (λ p. p < n) xs m (recursion_from_All (λ p. p < n) xs h) (number_among xs m e)

-- comparisons as sets of numbers make them
pub cmp_same : (n m : ℕ) → is_eq (nat_cmp n m) ≡ nat_eq n m
cmp_same n m = grind (arith, nat_tests)

pub cmp_not_above : (n m : ℕ) → is_lt (nat_cmp n m) ≡ false → m ≤ n
cmp_not_above n m h = grind (arith, nat_tests, ranked n m (nat_cmp n m) refl)
