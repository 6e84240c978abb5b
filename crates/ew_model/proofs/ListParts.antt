-- Lists cut at a place, searched and filtered.
use Rattle.std.proofs.Common.{◌≡◌, ℕ, zero, suc, ◌+◌, ◌<◌, ◌≤◌, Bool, true, false, cond, ◌||◌, List, [], ◌∷◌, ◌++◌, filter, length, take, drop, get_or, Option, Some, None, option_map, slice_get, refl, sym, ap, ◌∙◌, append_assoc, arith, add-one}
use Rattle.std.specs.Option.{is_some}
use Rattle.std.specs.List.{list_any, position}
use Rattle.std.proofs.Math.Seq.{drop-cons}
use Rattle.std.proofs.lemmas.Bool.{false≢true}
use Rattle.ew_model.proofs.TextLaws.{position-cons}

-- the elements from a place on are the one there and those behind it
pub drop_turn : {X : Type 0} (xs : List X) (i : ℕ) (x : X) → i < length xs → x ≡ get_or xs i x → drop i xs ≡ x ∷ drop (i + 1) xs
drop_turn xs i x h e = drop-cons xs i x h ∙ (λ k. sym e k ∷ drop (sym (add-one i) k) xs)

-- the elements up to one, and it
pub take_next : {X : Type 0} (xs : List X) (n : ℕ) (x : X) → slice_get xs n ≡ Some x → take (suc n) xs ≡ take n xs ++ x ∷ []
take_next [] n x h = let no : ⊥ = cc in absurd no
take_next (y ∷ xs) zero x h = let one : y ≡ x = cc in ap (λ z. z ∷ []) one
take_next (y ∷ xs) (suc n) x h = ap (λ ys. y ∷ ys) (take_next xs n x h)

-- a place within a list has an element
pub element_there : {X : Type 0} (xs : List X) (n : ℕ) → n < length xs → (x : X) × (slice_get xs n ≡ Some x)
element_there [] n h = absurd (omega (arith, h))
element_there (x ∷ xs) zero h = (x, refl)
element_there (x ∷ xs) (suc n) h = element_there xs n (omega (arith, h))

-- no more elements pass a test than there are
pub length-filter-le : {X : Type 0} (p : X → Bool) (xs : List X) → length (filter p xs) ≤ length xs
length-filter-le p [] = omega arith
length-filter-le p (x ∷ xs) = at (p x) (length-filter-le p xs)
  where
    at : (b : Bool) → length (filter p xs) ≤ length xs → length (cond b (x ∷ filter p xs) (filter p xs)) ≤ suc (length xs)
    at true h = omega (arith, h)
    at false h = omega (arith, h)

pub none_from_is_some : {X : Type 0} (o : Option X) → is_some o ≡ false → o ≡ None
none_from_is_some None h = refl
none_from_is_some (Some x) h = absurd (false≢true (sym h))

is_some_at : (b : Bool) (o : Option ℕ) → is_some (cond b (Some 0) (option_map (λ i. 1 + i) o)) ≡ (b || is_some o)
is_some_at true o = refl
is_some_at false None = refl
is_some_at false (Some i) = refl

-- there is a place of an element that passes where one passes
pub is_some-position : {X : Type 0} (p : X → Bool) (xs : List X) → is_some (position p xs) ≡ list_any p xs
is_some-position p [] = refl
is_some-position p (x ∷ xs) = ap is_some (position-cons p x xs) ∙ is_some_at (p x) (position p xs) ∙ ap (λ b. p x || b) (is_some-position p xs)

-- no element is left
pub none_left : {X : Type 0} (xs : List X) → length xs ≡ 0 → xs ≡ []
none_left [] h = refl
none_left (x ∷ xs) h = absurd (omega (arith, h))

-- the next of what is left goes to what is there
pub one_moved : {X : Type 0} (xs rest more all : List X) (x : X) → rest ≡ x ∷ more → xs ++ rest ≡ all → (xs ++ x ∷ []) ++ more ≡ all
one_moved xs rest more all x is h = append_assoc xs (x ∷ []) more ∙ ap (λ ys. xs ++ ys) (sym is) ∙ h
