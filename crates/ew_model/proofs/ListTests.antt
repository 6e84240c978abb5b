-- Tests of the elements of a list.
use Rattle.std.proofs.Common.{rules, is_gt, nat_cmp, ◌≡◌, ℕ, ◌≤◌, Bool, true, false, cond, ◌&&◌, ◌⊎◌, inl, inr, ⊎_elim, List, [], ◌∷◌, refl, sym, ap, ◌∙◌, ◌||◌, ◌++◌, map, filter, reverse, length, ◌+◌, append-nil}
use Rattle.std.specs.List.{list_any, list_all}
use Rattle.std.proofs.lemmas.Bool.{false≢true, false_from_ne_true, and_parts, or_cases, or_left, or_right}
use Rattle.std.proofs.lemmas.List.{reverse-append, length-append}
use Rattle.std.proofs.lemmas.List.Elements.{filter-append}
use Rattle.ew_model.specs.Sets.{Among}

-- a test of a list finds an element that passes
pub any_from : {X : Type 0} (p : X → Bool) (xs : List X) (x : X) → Among x xs → p x ≡ true → list_any p xs ≡ true
any_from p [] x m e = absurd m
any_from p (y ∷ ys) x m e =
    ⊎_elim (λ same. or_left (p y) (list_any p ys) (ap p (sym same) ∙ e)) (λ k. or_right (p y) (list_any p ys) (any_from p ys x k e)) m

pub found_by : {X : Type 0} (p : X → Bool) (xs : List X) → list_any p xs ≡ true → (x : X) × Among x xs × (p x ≡ true)
found_by p [] e = absurd (false≢true e)
found_by p (y ∷ ys) e =
    ⊎_elim (λ h. (y, inl refl, h)) (λ h. let more = found_by p ys h in (more.0, inr more.1, more.2)) (or_cases (p y) (list_any p ys) e)

-- elements of a list that may have one more in front
pub kept_cases : {X : Type 0} (b : Bool) (x z : X) (xs : List X) → Among z (cond b (x ∷ xs) xs) → ((z ≡ x) × (b ≡ true)) ⊎ Among z xs
kept_cases true x z xs m = ⊎_elim (λ e. inl (e, refl)) (λ k. inr k) m
kept_cases false x z xs m = inr m

-- a test that all pass
pub passes : {X : Type 0} (p : X → Bool) (xs : List X) (x : X) → list_all p xs ≡ true → Among x xs → p x ≡ true
passes p [] x h m = absurd m
passes p (y ∷ ys) x h m = let parts = and_parts (p y) (list_all p ys) h in ⊎_elim (λ e. ap p e ∙ parts.0) (λ k. passes p ys x parts.1 k) m

pub pass_all : {X : Type 0} (p : X → Bool) (xs : List X) → ((x : X) → Among x xs → p x ≡ true) → list_all p xs ≡ true
pass_all p [] f = refl
pass_all p (y ∷ ys) f = λ i. f y (inl refl) i && pass_all p ys (λ x m. f x (inr m)) i

pub pass_alike : {X : Type 0} (p q : X → Bool) (xs : List X) → ((x : X) → Among x xs → p x ≡ q x) → list_all p xs ≡ list_all q xs
pass_alike p q [] f = refl
pass_alike p q (x ∷ xs) f = λ i. f x (inl refl) i && pass_alike p q xs (λ y m. f y (inr m)) i

pub one_fails : {X : Type 0} (p : X → Bool) (xs : List X) (x : X) → Among x xs → p x ≡ false → list_all p xs ≡ false
one_fails p xs x m e = false_from_ne_true (list_all p xs) (λ h. false≢true (sym e ∙ passes p xs x h m))

-- two tests that imply each other
pub same_truth : (a b : Bool) → (a ≡ true → b ≡ true) → (b ≡ true → a ≡ true) → a ≡ b
same_truth true b f g = sym (f refl)
same_truth false true f g = g refl
same_truth false false f g = refl

pub any_alike : {X : Type 0} (p q : X → Bool) (xs : List X) → ((x : X) → Among x xs → p x ≡ q x) → list_any p xs ≡ list_any q xs
any_alike p q [] f = refl
any_alike p q (x ∷ xs) f = λ i. f x (inl refl) i || any_alike p q xs (λ y m. f y (inr m)) i

-- tests of what a list is mapped to
pub any_mapped : {X Y : Type 0} (f : X → Y) (p : Y → Bool) (xs : List X) → list_any p (map f xs) ≡ list_any (λ x. p (f x)) xs
any_mapped f p [] = refl
any_mapped f p (x ∷ xs) = ap (λ b. p (f x) || b) (any_mapped f p xs)

pub all_mapped : {X Y : Type 0} (f : X → Y) (p : Y → Bool) (xs : List X) → list_all p (map f xs) ≡ list_all (λ x. p (f x)) xs
all_mapped f p [] = refl
all_mapped f p (x ∷ xs) = ap (λ b. p (f x) && b) (all_mapped f p xs)

-- the elements that pass
pub filter_alike : {X : Type 0} (p q : X → Bool) (xs : List X) → ((x : X) → Among x xs → p x ≡ q x) → filter p xs ≡ filter q xs
filter_alike p q [] f = refl
filter_alike p q (x ∷ xs) f = λ i. cond (f x (inl refl) i) (x ∷ filter_alike p q xs (λ y m. f y (inr m)) i) (filter_alike p q xs (λ y m. f y (inr m)) i)

pub filter_twice : {X : Type 0} (p q : X → Bool) (xs : List X) → filter q (filter p xs) ≡ filter (λ x. p x && q x) xs
filter_twice p q [] = refl
filter_twice p q (x ∷ xs) = at (p x) ∙ ap (λ ys. cond (p x && q x) (x ∷ ys) ys) (filter_twice p q xs)
  where
    at : (b : Bool) → filter q (cond b (x ∷ filter p xs) (filter p xs)) ≡ cond (b && q x) (x ∷ filter q (filter p xs)) (filter q (filter p xs))
    at true = refl
    at false = refl

pub filter_mapped : {X Y : Type 0} (f : X → Y) (p : Y → Bool) (xs : List X) → filter p (map f xs) ≡ map f (filter (λ x. p (f x)) xs)
filter_mapped f p [] = refl
filter_mapped f p (x ∷ xs) = ap (λ ys. cond (p (f x)) (f x ∷ ys) ys) (filter_mapped f p xs) ∙ at (p (f x))
  where
    at : (b : Bool) → cond b (f x ∷ map f (filter (λ z. p (f z)) xs)) (map f (filter (λ z. p (f z)) xs)) ≡ map f (cond b (x ∷ filter (λ z. p (f z)) xs) (filter (λ z. p (f z)) xs))
    at true = refl
    at false = refl

pub filter_reversed : {X : Type 0} (p : X → Bool) (xs : List X) → filter p (reverse xs) ≡ reverse (filter p xs)
filter_reversed p [] = refl
filter_reversed p (x ∷ xs) =
    ap (filter p) (reverse-append (x ∷ []) xs) ∙ filter-append p (reverse xs) (x ∷ []) ∙ ap (λ ys. ys ++ filter p (x ∷ [])) (filter_reversed p xs) ∙ at (p x)
  where
    at : (b : Bool) → reverse (filter p xs) ++ cond b (x ∷ []) [] ≡ reverse (cond b (x ∷ filter p xs) (filter p xs))
    at true = sym (reverse-append (x ∷ []) (filter p xs))
    at false = append-nil (reverse (filter p xs))

-- those of two lists that pass are counted one list after another
pub count-append : {X : Type 0} (p : X → Bool) (xs ys : List X) → length (filter p (xs ++ ys)) ≡ length (filter p xs) + length (filter p ys)
count-append p xs ys = ap length (filter-append p xs ys) ∙ length-append (filter p xs) (filter p ys)

-- a number up to another one isn't above it
pub le_not_gt : (a b : ℕ) → a ≤ b → is_gt (nat_cmp a b) ≡ false
le_not_gt a b le = search (rules, le)
