-- Neighbouring numbers.
use Rattle.std.proofs.Common.{◌≡◌, ℕ, zero, suc, ◌+◌, ◌<◌, ◌≤◌, cond, ◌⊎◌, inl, inr, ⊎_elim, nat_lt, List, [], ◌∷◌, ◌++◌, map, filter, take, slice_get, slice_index_or, Some, refl, ap, ◌∙◌, arith, lt-ltb, le-ltb}
use Rattle.std.specs.List.{range_with_len}
use Rattle.std.proofs.lemmas.Option.{same_Some}
use Rattle.ew_model.specs.Sets.{Among}

-- a number on its own
abbrev pub single : ℕ → List ℕ
single k = k ∷ []

-- those below a bound
pub range_inside : (a n e : ℕ) → a + n ≤ e → filter (λ k. nat_lt k e) (range_with_len a n) ≡ range_with_len a n
range_inside a zero e l = refl
range_inside a (suc n) e l =
    let ih = range_inside (a + 1) n e (omega (arith, l)) in
    λ i. cond (lt-ltb a e (omega (arith, l)) i) (a ∷ ih i) (ih i)

pub range_outside : (a n e : ℕ) → e ≤ a → filter (λ k. nat_lt k e) (range_with_len a n) ≡ []
range_outside a zero e l = refl
range_outside a (suc n) e l =
    let ih = range_outside (a + 1) n e (omega (arith, l)) in
    λ i. cond (le-ltb a e l i) (a ∷ ih i) (ih i)

pub range_part : (a n m e : ℕ) → a + m ≡ e → m ≤ n → filter (λ k. nat_lt k e) (range_with_len a n) ≡ range_with_len a m
range_part a n zero e at l = range_outside a n e (omega (arith, at))
range_part a zero (suc m) e at l = absurd (omega (arith, l))
range_part a (suc n) (suc m) e at l =
    let ih = range_part (a + 1) n m e (omega (arith, at)) (omega (arith, l)) in
    λ i. cond (lt-ltb a e (omega (arith, at)) i) (a ∷ ih i) (filter (λ k. nat_lt k e) (range_with_len (a + 1) n))

either : (a k : ℕ) → a ≤ k → (k ≡ a) ⊎ (a + 1 ≤ k)
either zero zero l = inl refl
either zero (suc k) l = inr (omega arith)
either (suc a) zero l = absurd (omega (arith, l))
either (suc a) (suc k) l = ⊎_elim (λ e. inl (ap suc e)) (λ m. inr (omega (arith, m))) (either a k (omega (arith, l)))

pub range_among : (a n k : ℕ) → a ≤ k → k < a + n → Among k (range_with_len a n)
range_among a zero k l m = absurd (omega (arith, l, m))
range_among a (suc n) k l m = ⊎_elim (λ e. inl e) (λ h. inr (range_among (a + 1) n k h (omega (arith, m)))) (either a k l)

pub among_range : (a n k : ℕ) → Among k (range_with_len a n) → (a ≤ k) × (k < a + n)
among_range a zero k m = absurd m
among_range a (suc n) k m =
    ⊎_elim (λ e. (omega (arith, e), omega (arith, e))) (λ h. let more = among_range (a + 1) n k h in (omega (arith, more), omega (arith, more))) m

-- what stands among neighbours with others behind them
pub place_inside : (a n : ℕ) (rest : List ℕ) (q x : ℕ) → slice_get (range_with_len a n ++ rest) q ≡ Some x → x < a + n
    → ((y : ℕ) (p : ℕ) → slice_get rest p ≡ Some y → a + n ≤ y) → (q < n) × (x ≡ a + q)
place_inside a zero rest q x e l high = let h = high x q e in absurd (omega (arith, h, l))
place_inside a (suc n) rest zero x e l high = let same = same_Some a x e in (omega arith, omega (arith, same))
place_inside a (suc n) rest (suc q) x e l high =
    let ih = place_inside (a + 1) n rest q x e (omega (arith, l)) (λ y p at. let h = high y p at in omega (arith, h)) in
    (omega (arith, ih), omega (arith, ih))

pub place_behind : (a n : ℕ) (rest : List ℕ) (q x : ℕ) → slice_get (range_with_len a n ++ rest) q ≡ Some x → a + n ≤ x
    → (p : ℕ) × (q ≡ n + p) × (slice_get rest p ≡ Some x)
place_behind a zero rest q x e l = (q, omega arith, e)
place_behind a (suc n) rest zero x e l = let same = same_Some a x e in absurd (omega (arith, same, l))
place_behind a (suc n) rest (suc q) x e l =
    let ih = place_behind (a + 1) n rest q x e (omega (arith, l)) in
    (ih.0, (let at = ih.1 in omega (arith, at)), ih.2)

pub read_single : (a n : ℕ) (rest : List (List ℕ)) (q : ℕ) → q < n → slice_index_or (map single (range_with_len a n) ++ rest) q [] ≡ (a + q) ∷ []
read_single a zero rest q l = absurd (omega (arith, l))
read_single a (suc n) rest zero l = let e : a ≡ a + 0 = omega arith in ap single e
read_single a (suc n) rest (suc q) l = let e : a + 1 + q ≡ a + suc q = omega arith in read_single (a + 1) n rest q (omega (arith, l)) ∙ ap single e

pub read_behind : (a n : ℕ) (rest : List (List ℕ)) (p q : ℕ) → q ≡ n + p → slice_index_or (map single (range_with_len a n) ++ rest) q [] ≡ slice_index_or rest p []
read_behind a zero rest p q e = let same : q ≡ p = omega (arith, e) in ap (λ k. slice_index_or rest k []) same
read_behind a (suc n) rest p zero e = absurd (omega (arith, e))
read_behind a (suc n) rest p (suc q) e = read_behind (a + 1) n rest p q (omega (arith, e))

-- the first of them
pub take_singles : (a n m : ℕ) (rest : List (List ℕ)) → m ≤ n → take m (map single (range_with_len a n) ++ rest) ≡ map single (range_with_len a m)
take_singles a n zero rest l = refl
take_singles a zero (suc m) rest l = absurd (omega (arith, l))
take_singles a (suc n) (suc m) rest l = ap (λ xs. single a ∷ xs) (take_singles (a + 1) n m rest (omega (arith, l)))

pub take_over : (a n m : ℕ) (rest : List (List ℕ)) → take (n + m) (map single (range_with_len a n) ++ rest) ≡ map single (range_with_len a n) ++ take m rest
take_over a zero m rest = let e : 0 + m ≡ m = omega arith in ap (λ k. take k rest) e
take_over a (suc n) m rest = let e : suc n + m ≡ suc (n + m) = omega arith in ap (λ k. take k (map single (range_with_len a (suc n)) ++ rest)) e ∙ ap (λ xs. single a ∷ xs) (take_over (a + 1) n m rest)
