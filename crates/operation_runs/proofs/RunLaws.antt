-- Operations that go on from one another.
use Rattle.std.proofs.Common.{◌≡◌, ℕ, zero, suc, ◌+◌, ◌-◌, ◌<◌, ◌≤◌, List, [], ◌∷◌, ◌++◌, length, take, drop, slice_get, get_or, Some, refl, sym, ap, ◌∙◌, arith}
use Rattle.std.proofs.lemmas.List.{drop-take}
use Rattle.ew_model.specs.declared.text_op.TextOp.TheVariants.{Ins, Del, Nothing}
use Rattle.operation_runs.specs.Runs.{insertions, deletions, back_deletions, nothings}

pub length-insertions : (at : ℕ) (chars : List ℕ) → length (insertions at chars) ≡ length chars
length-insertions at [] = refl
length-insertions at (ch ∷ chars) = ap suc (length-insertions (at + 1) chars)

pub length-deletions : (at n : ℕ) → length (deletions at n) ≡ n
length-deletions at zero = refl
length-deletions at (suc n) = ap suc (length-deletions at n)

pub length-back_deletions : (at n : ℕ) → length (back_deletions at n) ≡ n
length-back_deletions at zero = refl
length-back_deletions at (suc n) = ap suc (length-back_deletions (at - 1) n)

pub length-nothings : (n : ℕ) → length (nothings n) ≡ n
length-nothings zero = refl
length-nothings (suc n) = ap suc (length-nothings n)

pub insertion_there : (at : ℕ) (chars : List ℕ) (k : ℕ) → k < length chars → slice_get (insertions at chars) k ≡ Some (Ins (at + k) (get_or chars k 0))
insertion_there at [] k h = grind arith
insertion_there at (ch ∷ chars) zero h = let e : at ≡ at + 0 = omega arith in ap (λ i. Some (Ins i ch)) e
insertion_there at (ch ∷ chars) (suc k) h =
    let e : at + 1 + k ≡ at + suc k = omega arith in insertion_there (at + 1) chars k (omega (arith, h)) ∙ ap (λ i. Some (Ins i (get_or chars k 0))) e

pub deletion_there : (at n k : ℕ) → k < n → slice_get (deletions at n) k ≡ Some (Del at)
deletion_there at zero k h = grind arith
deletion_there at (suc n) zero h = refl
deletion_there at (suc n) (suc k) h = deletion_there at n k (omega (arith, h))

pub back_there : (at n k : ℕ) → k < n → slice_get (back_deletions at n) k ≡ Some (Del (at - k))
back_there at zero k h = grind arith
back_there at (suc n) zero h = let e : at ≡ at - 0 = omega arith in ap (λ i. Some (Del i)) e
back_there at (suc n) (suc k) h = let e : at - 1 - k ≡ at - suc k = omega arith in back_there (at - 1) n k (omega (arith, h)) ∙ ap (λ i. Some (Del i)) e

pub nothing_there : (n k : ℕ) → k < n → slice_get (nothings n) k ≡ Some Nothing
nothing_there zero k h = grind arith
nothing_there (suc n) zero h = refl
nothing_there (suc n) (suc k) h = nothing_there n k (omega (arith, h))

pub insertions_append : (at : ℕ) (xs ys : List ℕ) → insertions at (xs ++ ys) ≡ insertions at xs ++ insertions (at + length xs) ys
insertions_append at [] ys = let e : at ≡ at + 0 = omega arith in ap (λ i. insertions i ys) e
insertions_append at (x ∷ xs) ys =
    let e : at + 1 + length xs ≡ at + suc (length xs) = omega arith in ap (λ ops. Ins at x ∷ ops) (insertions_append (at + 1) xs ys ∙ ap (λ i. insertions (at + 1) xs ++ insertions i ys) e)

pub deletions_append : (at n m : ℕ) → deletions at (n + m) ≡ deletions at n ++ deletions at m
deletions_append at zero m = let e : 0 + m ≡ m = omega arith in ap (deletions at) e
deletions_append at (suc n) m = let e : suc n + m ≡ suc (n + m) = omega arith in ap (deletions at) e ∙ ap (λ ops. Del at ∷ ops) (deletions_append at n m)

pub back_append : (at n m : ℕ) → back_deletions at (n + m) ≡ back_deletions at n ++ back_deletions (at - n) m
back_append at zero m = let e : 0 + m ≡ m = omega arith in let f : at ≡ at - 0 = omega arith in ap (back_deletions at) e ∙ ap (λ i. back_deletions i m) f
back_append at (suc n) m =
    let e : suc n + m ≡ suc (n + m) = omega arith in
    let f : at - 1 - n ≡ at - suc n = omega arith in
    ap (back_deletions at) e ∙ ap (λ ops. Del at ∷ ops) (back_append (at - 1) n m ∙ ap (λ i. back_deletions (at - 1) n ++ back_deletions i m) f)

pub nothings_append : (n m : ℕ) → nothings (n + m) ≡ nothings n ++ nothings m
nothings_append zero m = let e : 0 + m ≡ m = omega arith in ap nothings e
nothings_append (suc n) m = let e : suc n + m ≡ suc (n + m) = omega arith in ap nothings e ∙ ap (λ ops. Nothing ∷ ops) (nothings_append n m)

pub insertions_from : (at : ℕ) (chars : List ℕ) (k : ℕ) → drop k (insertions at chars) ≡ insertions (at + k) (drop k chars)
insertions_from at chars zero = let e : at ≡ at + 0 = omega arith in ap (λ i. insertions i chars) e
insertions_from at [] (suc k) = refl
insertions_from at (ch ∷ chars) (suc k) = let e : at + 1 + k ≡ at + suc k = omega arith in insertions_from (at + 1) chars k ∙ ap (λ i. insertions i (drop k chars)) e

pub insertions_to : (at : ℕ) (chars : List ℕ) (k : ℕ) → take k (insertions at chars) ≡ insertions at (take k chars)
insertions_to at chars zero = refl
insertions_to at [] (suc k) = refl
insertions_to at (ch ∷ chars) (suc k) = ap (λ ops. Ins at ch ∷ ops) (insertions_to (at + 1) chars k)

pub deletions_from : (at n k : ℕ) → drop k (deletions at n) ≡ deletions at (n - k)
deletions_from at n zero = let e : n ≡ n - 0 = omega arith in ap (deletions at) e
deletions_from at zero (suc k) = let e : 0 ≡ 0 - suc k = omega arith in ap (deletions at) e
deletions_from at (suc n) (suc k) = let e : n - k ≡ suc n - suc k = omega arith in deletions_from at n k ∙ ap (deletions at) e

pub deletions_to : (at n k : ℕ) → k ≤ n → take k (deletions at n) ≡ deletions at k
deletions_to at n zero h = refl
deletions_to at zero (suc k) h = grind arith
deletions_to at (suc n) (suc k) h = ap (λ ops. Del at ∷ ops) (deletions_to at n k (omega (arith, h)))

pub back_from : (at n k : ℕ) → drop k (back_deletions at n) ≡ back_deletions (at - k) (n - k)
back_from at n zero = let e : at ≡ at - 0 = omega arith in let f : n ≡ n - 0 = omega arith in λ i. back_deletions (e i) (f i)
back_from at zero (suc k) = let e : 0 ≡ 0 - suc k = omega arith in ap (back_deletions (at - suc k)) e
back_from at (suc n) (suc k) = let e : at - 1 - k ≡ at - suc k = omega arith in let f : n - k ≡ suc n - suc k = omega arith in back_from (at - 1) n k ∙ (λ i. back_deletions (e i) (f i))

pub back_to : (at n k : ℕ) → k ≤ n → take k (back_deletions at n) ≡ back_deletions at k
back_to at n zero h = refl
back_to at zero (suc k) h = grind arith
back_to at (suc n) (suc k) h = ap (λ ops. Del at ∷ ops) (back_to (at - 1) n k (omega (arith, h)))

pub nothings_from : (n k : ℕ) → drop k (nothings n) ≡ nothings (n - k)
nothings_from n zero = let e : n ≡ n - 0 = omega arith in ap nothings e
nothings_from zero (suc k) = let e : 0 ≡ 0 - suc k = omega arith in ap nothings e
nothings_from (suc n) (suc k) = let e : n - k ≡ suc n - suc k = omega arith in nothings_from n k ∙ ap nothings e

pub nothings_to : (n k : ℕ) → k ≤ n → take k (nothings n) ≡ nothings k
nothings_to n zero h = refl
nothings_to zero (suc k) h = grind arith
nothings_to (suc n) (suc k) h = ap (λ ops. Nothing ∷ ops) (nothings_to n k (omega (arith, h)))

pub insertions_part : (at : ℕ) (chars : List ℕ) (from to : ℕ) → from ≤ to → insertions (at + from) (take (to - from) (drop from chars)) ≡ drop from (take to (insertions at chars))
insertions_part at chars from to h =
    let e : from + (to - from) ≡ to = omega (arith, h) in
    ap (insertions (at + from)) (sym (drop-take from (to - from) chars) ∙ ap (λ n. drop from (take n chars)) e) ∙ sym (insertions_from at (take to chars) from) ∙ ap (drop from) (sym (insertions_to at chars to))

pub deletions_part : (at n from to : ℕ) → to ≤ n → deletions at (to - from) ≡ drop from (take to (deletions at n))
deletions_part at n from to h = sym (deletions_from at to from) ∙ ap (drop from) (sym (deletions_to at n to h))

pub back_part : (at n from to : ℕ) → to ≤ n → back_deletions (at - from) (to - from) ≡ drop from (take to (back_deletions at n))
back_part at n from to h = sym (back_from at to from) ∙ ap (drop from) (sym (back_to at n to h))

pub nothings_part : (n from to : ℕ) → to ≤ n → nothings (to - from) ≡ drop from (take to (nothings n))
nothings_part n from to h = sym (nothings_from to from) ∙ ap (drop from) (sym (nothings_to n to h))
