-- Numbers that follow one another.
use Rattle.std.proofs.Common.{◌≡◌, ℕ, zero, suc, ◌+◌, ◌-◌, ◌<◌, List, [], ◌∷◌, ◌++◌, slice_get, Some, ap, ◌∙◌, arith}
use Rattle.std.specs.List.{range_with_len}

-- the lowest comes first
pub range_first : (low high : ℕ) → low < high → range_with_len low (high - low) ≡ low ∷ range_with_len (low + 1) (high - (low + 1))
range_first low high lt = let long : high - low ≡ suc (high - (low + 1)) = omega (arith, lt) in ap (range_with_len low) long

-- one more
pub range_more : (a n : ℕ) → range_with_len a (suc n) ≡ range_with_len a n ++ (a + n) ∷ []
range_more a zero = let e : a ≡ a + 0 = omega arith in ap (λ (k : ℕ). k ∷ []) e
range_more a (suc n) = let e : a + 1 + n ≡ a + suc n = omega arith in ap (λ xs. a ∷ xs) (range_more (a + 1) n ∙ ap (λ k. range_with_len (a + 1) n ++ k ∷ []) e)

-- as many again behind them
pub range_joined : (from count more : ℕ) → range_with_len from (count + more) ≡ range_with_len from count ++ range_with_len (from + count) more
range_joined from zero more =
    let none : 0 + more ≡ more = omega arith in
    let start : from ≡ from + 0 = omega arith in
    λ i. range_with_len (start i) (none i)
range_joined from (suc count) more =
    let long : suc count + more ≡ suc (count + more) = omega arith in
    let start : from + 1 + count ≡ from + suc count = omega arith in
    ap (range_with_len from) long ∙ ap (λ ps. from ∷ ps) (range_joined (from + 1) count more ∙ ap (λ (n : ℕ). range_with_len (from + 1) count ++ range_with_len n more) start)

-- the number at a place
pub read_range : (a n : ℕ) (rest : List ℕ) (p : ℕ) → p < n → slice_get (range_with_len a n ++ rest) p ≡ Some (a + p)
read_range a zero rest p l = absurd (omega (arith, l))
read_range a (suc n) rest zero l = let e : a ≡ a + 0 = omega arith in ap Some e
read_range a (suc n) rest (suc p) l = let e : a + 1 + p ≡ a + suc p = omega arith in read_range (a + 1) n rest p (omega (arith, l)) ∙ ap Some e

-- and what stands behind them
pub skip_range : (a n : ℕ) (rest : List ℕ) (p q : ℕ) → q ≡ n + p → slice_get (range_with_len a n ++ rest) q ≡ slice_get rest p
skip_range a zero rest p q e = let same : q ≡ p = omega (arith, e) in ap (slice_get rest) same
skip_range a (suc n) rest p zero e = absurd (omega (arith, e))
skip_range a (suc n) rest p (suc q) e = skip_range (a + 1) n rest p q (omega (arith, e))
