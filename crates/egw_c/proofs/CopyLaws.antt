-- A list is copied over the front of another, each element mapped.
use Rattle.std.proofs.Common.{◌≡◌, ℕ, zero, suc, ◌+◌, ◌<◌, List, [], ◌∷◌, ◌++◌, map, length, take, drop, get_or, slice_set, ap, ◌∙◌, arith}

put_suc : {A B : Type 0} (f : A → B) (xs : List A) (out : List B) (n : ℕ) (x : A) (y : B) → n < length xs → n < length out → x ≡ get_or xs n x → y ≡ f x → slice_set (take n (map f xs) ++ drop n out) n y ≡ take (suc n) (map f xs) ++ drop (suc n) out
put_suc f [] out n x y lt room is e = absurd (omega arith)
put_suc f (z ∷ xs) [] n x y lt room is e = absurd (omega arith)
put_suc {B = B} f (z ∷ xs) (w ∷ out) zero x y lt room is e = ap (λ (v : B). v ∷ out) (e ∙ ap f is)
put_suc {B = B} f (z ∷ xs) (w ∷ out) (suc n) x y lt room is e = ap (λ (vs : List B). f z ∷ vs) (put_suc f xs out n x y (omega arith) (omega arith) is e)

next_place : (n : ℕ) → suc n ≡ n + 1
next_place n = omega arith

-- one more is copied
pub copy_more : {A B : Type 0} (f : A → B) (xs : List A) (out : List B) (n : ℕ) (x : A) (y : B) → n < length xs → n < length out → x ≡ get_or xs n x → y ≡ f x → slice_set (take n (map f xs) ++ drop n out) n y ≡ take (n + 1) (map f xs) ++ drop (n + 1) out
copy_more f xs out n x y lt room is e = put_suc f xs out n x y lt room is e ∙ ap (λ k. take k (map f xs) ++ drop k out) (next_place n)
