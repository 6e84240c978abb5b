-- A piece of a list, from a position on.
use Rattle.std.proofs.Common.{◌≡◌, ℕ, zero, suc, ◌+◌, ◌-◌, ◌≤◌, List, [], ◌∷◌, ◌++◌, take, drop, Some, refl, ap, ◌∙◌, arith}
use Rattle.std.specs.List.{slice_get}
use Rattle.ew_model.proofs.ListParts.{take_next}

-- what stands behind a position, by its place in the whole list
slice_behind : {X : Type 0} (n : ℕ) (xs : List X) (i : ℕ) → slice_get (drop n xs) i ≡ slice_get xs (n + i)
slice_behind zero xs i = let none : i ≡ 0 + i = omega arith in ap (slice_get xs) none
slice_behind (suc n) [] i = refl
slice_behind (suc n) (x ∷ xs) i = let one : suc (n + i) ≡ suc n + i = omega arith in slice_behind n xs i ∙ ap (slice_get (x ∷ xs)) one

-- one element more
pub piece_next : {X : Type 0} (xs : List X) (start here : ℕ) (x : X) → start ≤ here → slice_get xs here ≡ Some x
    → take (here + 1 - start) (drop start xs) ≡ take (here - start) (drop start xs) ++ x ∷ []
piece_next xs start here x order at =
    let next : here + 1 - start ≡ suc (here - start) = omega (arith, order) in
    let place : start + (here - start) ≡ here = omega (arith, order) in
    ap (λ n. take n (drop start xs)) next ∙ take_next (drop start xs) (here - start) x (slice_behind start xs (here - start) ∙ ap (slice_get xs) place ∙ at)
