-- Searches and counts that go through a list by its places.
use Rattle.std.proofs.Common.{◌≡◌, ℕ, zero, suc, ◌+◌, ◌<◌, ◌≤◌, Bool, true, false, cond, ◌||◌, List, [], ◌∷◌, ◌++◌, map, filter, length, take, drop, get_or, Some, slice_get, slice_set, refl, sym, ap, ◌∙◌, arith}
use Rattle.std.specs.List.{list_any}
use Rattle.std.proofs.Math.Seq.{take-length}
use Rattle.std.proofs.lemmas.Bool.{false≢true}
use Rattle.std.proofs.lemmas.List.Folds.{list_any-append}
use Rattle.fugue_place.proofs.ListLaws.{one_more}
use Rattle.ew_model.proofs.ListTests.{count-append}

-- COUNTS
abbrev pub count : {X : Type 0} → (X → Bool) → List X → ℕ
count p xs = length (filter p xs)

pub length-push : {X : Type 0} (xs : List X) (x : X) → length (xs ++ x ∷ []) ≡ suc (length xs)
length-push [] x = refl
length-push (y ∷ xs) x = ap suc (length-push xs x)

length-one : {X : Type 0} (b : Bool) (x : X) → length (cond b (x ∷ []) []) ≡ cond b 1 0
length-one true x = refl
length-one false x = refl

count-one : {X : Type 0} (p : X → Bool) (x : X) → count p (x ∷ []) ≡ cond (p x) 1 0
count-one p x = length-one (p x) x

pub count_few : {X : Type 0} (p : X → Bool) (xs : List X) → count p xs ≤ length xs
count_few p [] = omega arith
count_few p (x ∷ xs) = at (p x) (count_few p xs)
  where
    at : (b : Bool) → length (filter p xs) ≤ length xs → length (cond b (x ∷ filter p xs) (filter p xs)) ≤ suc (length xs)
    at true le = omega arith
    at false le = omega arith

length-take : {X : Type 0} (xs : List X) (n : ℕ) → length (take n xs) ≤ n
length-take xs zero = omega arith
length-take [] (suc n) = omega arith
length-take (x ∷ xs) (suc n) = omega (arith, length-take xs n)

-- x is the element at the place n
module _ {X : Type 0} (p : X → Bool) (xs : List X) (n : ℕ) (x : X) (within : n < length xs) (is : x ≡ get_or xs n x) where
  pub count_more : count p (take (n + 1) xs) ≡ count p (take n xs) + cond (p x) 1 0
  count_more = ap (count p) (one_more xs n x within is) ∙ count-append p (take n xs) (x ∷ []) ∙ ap (λ k. count p (take n xs) + k) (count-one p x)

  pub count_passes : p x ≡ true → count p (take (n + 1) xs) ≡ count p (take n xs) + 1
  count_passes e = count_more ∙ ap (λ b. count p (take n xs) + cond b 1 0) e

  pub count_skips : p x ≡ false → count p (take (n + 1) xs) ≡ count p (take n xs)
  count_skips e = let step : count p (take (n + 1) xs) ≡ count p (take n xs) + 0 = count_more ∙ ap (λ b. count p (take n xs) + cond b 1 0) e in omega (arith, step)

  any_more : list_any p (take (n + 1) xs) ≡ list_any p (take n xs ++ x ∷ [])
  any_more = ap (list_any p) (one_more xs n x within is)

  pub none_more : list_any p (take n xs) ≡ false → p x ≡ false → list_any p (take (n + 1) xs) ≡ false
  none_more none e = any_more ∙ list_any-append p (take n xs) (x ∷ []) ∙ both (list_any p (take n xs)) (p x) none e
    where
      both : (a b : Bool) → a ≡ false → b ≡ false → (a || (b || false)) ≡ false
      both true b h k = h
      both false true h k = k
      both false false h k = refl

pub count_bound : {X : Type 0} (p : X → Bool) (xs : List X) (n : ℕ) → count p (take n xs) ≤ n
count_bound p xs n = omega (arith, count_few p (take n xs), length-take xs n)

-- SUCH A LIST FROM A PLACE ON
next_place : (n : ℕ) → suc n ≡ n + 1
next_place n = omega arith

-- THE FIRST ONES MAPPED
abbrev pub mapped : {X : Type 0} → (X → X) → List X → ℕ → List X
mapped f xs n = map f (take n xs) ++ drop n xs

set_suc : {X : Type 0} (f : X → X) (xs : List X) (n : ℕ) (x y : X) → n < length xs → x ≡ get_or xs n x → y ≡ f x → slice_set (mapped f xs n) n y ≡ mapped f xs (suc n)
set_suc f [] n x y lt is e = absurd (omega arith)
set_suc {X = X} f (z ∷ xs) zero x y lt is e = ap (λ (w : X). w ∷ xs) (e ∙ ap f is)
set_suc {X = X} f (z ∷ xs) (suc n) x y lt is e = ap (λ (zs : List X). f z ∷ zs) (set_suc f xs n x y (omega arith) is e)

same_suc : {X : Type 0} (f : X → X) (xs : List X) (n : ℕ) (x : X) → n < length xs → x ≡ get_or xs n x → f x ≡ x → mapped f xs n ≡ mapped f xs (suc n)
same_suc f [] n x lt is e = absurd (omega arith)
same_suc {X = X} f (z ∷ xs) zero x lt is e = ap (λ (w : X). w ∷ xs) (sym is ∙ sym e ∙ ap f is)
same_suc {X = X} f (z ∷ xs) (suc n) x lt is e = ap (λ (zs : List X). f z ∷ zs) (same_suc f xs n x (omega arith) is e)

-- one more is mapped where it is set to what it goes to, or goes to itself
pub set_mapped : {X : Type 0} (f : X → X) (xs : List X) (n : ℕ) (x y : X) → n < length xs → x ≡ get_or xs n x → y ≡ f x → slice_set (mapped f xs n) n y ≡ mapped f xs (n + 1)
set_mapped f xs n x y lt is e = set_suc f xs n x y lt is e ∙ ap (mapped f xs) (next_place n)

pub same_mapped : {X : Type 0} (f : X → X) (xs : List X) (n : ℕ) (x : X) → n < length xs → x ≡ get_or xs n x → f x ≡ x → mapped f xs n ≡ mapped f xs (n + 1)
same_mapped f xs n x lt is e = same_suc f xs n x lt is e ∙ ap (mapped f xs) (next_place n)

-- the next one is still that of the list
pub read_mapped : {X : Type 0} (f : X → X) (xs : List X) (n : ℕ) (x : X) → get_or (mapped f xs n) n x ≡ get_or xs n x
read_mapped f [] zero x = refl
read_mapped f [] (suc n) x = refl
read_mapped f (y ∷ xs) zero x = refl
read_mapped f (y ∷ xs) (suc n) x = read_mapped f xs n x

pub taken_all : {X : Type 0} (xs : List X) → take (length xs) xs ≡ xs
taken_all xs = take-length xs

-- before an element that passes are fewer than in all
pub count_above : {X : Type 0} (p : X → Bool) (xs : List X) (k : ℕ) (x : X) → slice_get xs k ≡ Some x → p x ≡ true → count p (take k xs) < count p xs
count_above p [] k x e h = let no : ⊥ = cc in absurd no
count_above p (y ∷ xs) zero x e h = first (p y) (ap p same ∙ h)
  where
    same : y ≡ x
    same = cc

    first : (b : Bool) → b ≡ true → 0 < length (cond b (y ∷ filter p xs) (filter p xs))
    first true k = omega arith
    first false k = absurd (false≢true k)
count_above p (y ∷ xs) (suc k) x e h = more (p y) (count_above p xs k x e h)
  where
    more : (b : Bool) → count p (take k xs) < count p xs → length (cond b (y ∷ filter p (take k xs)) (filter p (take k xs))) < length (cond b (y ∷ filter p xs) (filter p xs))
    more true lt = omega arith
    more false lt = lt
