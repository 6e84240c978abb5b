-- Positions taken out of rising ones.
use Rattle.std.proofs.Common.{◌≡◌, ℕ, zero, suc, ◌+◌, ◌<◌, ◌≤◌, Bool, true, false, not, cond, ◌||◌, ◌⊎◌, inl, inr, ⊎_elim, nat_eq, List, [], ◌∷◌, ◌++◌, length, get_or, filter, remove, Result, Ok, Err, nat_cmp, refl, sym, ap, ◌∙◌, subst, arith, eq-eqb}
use Rattle.std.specs.List.{AllByRecursion}
use Rattle.std.specs.List.Sorted.{IsStrictlyIncreasing, IsBinarySearchResult}
use Rattle.std.proofs.lemmas.Bool.{ne_eqb}
use Rattle.std.proofs.lemmas.List.Folds.{list_any-append}
use Rattle.std.proofs.lemmas.List.Sorted.{searched}
use Rattle.ew_model.specs.Graph.{is_named}
use Rattle.ew_model.proofs.RisingLists.{Rise, rise_of, increasing_of}
use Rattle.frontier.specs.Heads.{without}

-- The numbers of a rising list don't fall.
pub at_least : (xs : List ℕ) (x : ℕ) → AllByRecursion (λ y. x < y) xs → (j : ℕ) → j < length xs → x < get_or xs j 0
at_least [] x h j l = absurd (omega (arith, l))
at_least (y ∷ xs) x h zero l = h.0
at_least (y ∷ xs) x h (suc j) l = at_least xs x h.1 j (omega (arith, l))

pub rise_ordered : (xs : List ℕ) → Rise xs → (i j : ℕ) → i ≤ j → j < length xs → get_or xs i 0 ≤ get_or xs j 0
rise_ordered [] h i j le l = absurd (omega (arith, l))
rise_ordered (x ∷ xs) h zero zero le l = omega arith
rise_ordered (x ∷ xs) h zero (suc j) le l = let far = at_least xs x h.0 j (omega (arith, l)) in omega (arith, far)
rise_ordered (x ∷ xs) h (suc i) zero le l = absurd (omega (arith, le))
rise_ordered (x ∷ xs) h (suc i) (suc j) le l = rise_ordered xs h.1 i j (omega (arith, le)) (omega (arith, l))

-- a number that differs from all takes none away
without_none : (xs : List ℕ) (p : ℕ) → ((k : ℕ) → k < length xs → get_or xs k 0 ≡ p → ⊥) → without p xs ≡ xs
without_none [] p h = refl
without_none (x ∷ xs) p h =
    ap (λ b. cond (not b) (x ∷ without p xs) (without p xs)) (ne_eqb x p (λ e. h 0 (omega arith) e))
    ∙ ap (λ ys. x ∷ ys) (without_none xs p (λ k l e. h (suc k) (omega (arith, l)) e))

pub without_absent : (xs : List ℕ) (p i : ℕ) → ((k : ℕ) → k < i → get_or xs k 0 < p) → ((k : ℕ) → i ≤ k → k < length xs → p < get_or xs k 0) → without p xs ≡ xs
without_absent xs p i below above =
    without_none xs p (λ k l e. ⊎_elim (λ low. let less = below k low in omega (arith, less, e)) (λ high. let more = above k high l in omega (arith, more, e)) (two_sides k i))
  where
    two_sides : (k i : ℕ) → (k < i) ⊎ (i ≤ k)
    two_sides k zero = inr (omega arith)
    two_sides zero (suc i) = inl (omega arith)
    two_sides (suc k) (suc i) = ⊎_elim (λ l. inl (omega (arith, l))) (λ l. inr (omega (arith, l))) (two_sides k i)

-- a number that is there is taken from its place
pub without_there : (xs : List ℕ) (p i : ℕ) → Rise xs → i < length xs → get_or xs i 0 ≡ p → without p xs ≡ remove xs i
without_there [] p i h l e = absurd (omega (arith, l))
without_there (x ∷ xs) p zero h l e =
    ap (λ b. cond (not b) (x ∷ without p xs) (without p xs)) (eq-eqb x p e)
    ∙ without_none xs p (λ k m f. let far = at_least xs x h.0 k m in omega (arith, far, f, e))
without_there (x ∷ xs) p (suc i) h l e =
    let far = at_least xs x h.0 i (omega (arith, l)) in
    ap (λ b. cond (not b) (x ∷ without p xs) (without p xs)) (ne_eqb x p (λ f. omega (arith, far, e, f)))
    ∙ ap (λ ys. x ∷ ys) (without_there xs p i h.1 (omega (arith, l)) e)

-- what a binary search has found
pub without_found : (xs ys : List ℕ) (p i : ℕ) → ys ≡ xs → IsStrictlyIncreasing xs → IsBinarySearchResult (λ y. nat_cmp y p) ys (Ok i) → without p xs ≡ remove xs i
without_found xs ys p i same h r =
    let rise = rise_of xs h in
    let at = searched xs p (Ok i) (subst (λ zs. IsBinarySearchResult (λ y. nat_cmp y p) zs (Ok i)) same r) (rise_ordered xs rise) in
    without_there xs p i rise at.0 at.1

pub without_missed : (xs ys : List ℕ) (p : ℕ) (r : Result ℕ ℕ) → ys ≡ xs → IsStrictlyIncreasing xs → IsBinarySearchResult (λ y. nat_cmp y p) ys r → ((i : ℕ) → r ≡ Ok i → ⊥) → without p xs ≡ xs
without_missed xs ys p (Ok i) same h r missed = absurd (missed i refl)
without_missed xs ys p (Err i) same h r missed =
    let at = searched xs p (Err i) (subst (λ zs. IsBinarySearchResult (λ y. nat_cmp y p) zs (Err i)) same r) (rise_ordered xs (rise_of xs h)) in
    without_absent xs p i at.1 at.2

-- one position more is taken out
pub without_more : (xs ps : List ℕ) (p : ℕ) → without p (filter (λ h. not (is_named nat_eq ps h)) xs) ≡ filter (λ h. not (is_named nat_eq (ps ++ p ∷ []) h)) xs
without_more [] ps p = refl
without_more (x ∷ xs) ps p =
    at (is_named nat_eq ps x) (without_more xs ps p) (sym (list_any-append (nat_eq x) ps (p ∷ [])))
  where
    at : (b : Bool) → without p (filter (λ h. not (is_named nat_eq ps h)) xs) ≡ filter (λ h. not (is_named nat_eq (ps ++ p ∷ []) h)) xs → (b || (nat_eq x p || false)) ≡ is_named nat_eq (ps ++ p ∷ []) x
        → without p (cond (not b) (x ∷ filter (λ h. not (is_named nat_eq ps h)) xs) (filter (λ h. not (is_named nat_eq ps h)) xs))
        ≡ cond (not (is_named nat_eq (ps ++ p ∷ []) x)) (x ∷ filter (λ h. not (is_named nat_eq (ps ++ p ∷ []) h)) xs) (filter (λ h. not (is_named nat_eq (ps ++ p ∷ []) h)) xs)
    at true ih e = ih ∙ ap (λ c. cond (not c) (x ∷ filter (λ h. not (is_named nat_eq (ps ++ p ∷ []) h)) xs) (filter (λ h. not (is_named nat_eq (ps ++ p ∷ []) h)) xs)) e
    at false ih e =
        one (nat_eq x p) ih
        ∙ ap (λ c. cond (not c) (x ∷ filter (λ h. not (is_named nat_eq (ps ++ p ∷ []) h)) xs) (filter (λ h. not (is_named nat_eq (ps ++ p ∷ []) h)) xs)) e
      where
        one : (c : Bool) {us vs : List ℕ} → us ≡ vs → cond (not c) (x ∷ us) us ≡ cond (not (c || false)) (x ∷ vs) vs
        one true f = f
        one false f = ap (λ ys. x ∷ ys) f

pub none_out : (xs : List ℕ) → filter (λ h. not (is_named nat_eq [] h)) xs ≡ xs
none_out [] = refl
none_out (x ∷ xs) = ap (λ ys. x ∷ ys) (none_out xs)

pub fewer : (p : ℕ → Bool) (xs : List ℕ) → length (filter p xs) ≤ length xs
fewer p [] = omega arith
fewer p (x ∷ xs) = at (p x) (fewer p xs)
  where
    at : (b : Bool) → length (filter p xs) ≤ length xs → length (cond b (x ∷ filter p xs) (filter p xs)) ≤ suc (length xs)
    at true h = omega (arith, h)
    at false h = omega (arith, h)

-- and with the next position behind they rise
rise_behind : (xs : List ℕ) (n : ℕ) → Rise xs → AllByRecursion (λ x. x < n) xs → Rise (xs ++ n ∷ [])
rise_behind [] n h low = (tt, tt)
rise_behind (x ∷ xs) n h low = (front xs h.0, rise_behind xs n h.1 low.1)
  where
    front : (ys : List ℕ) → AllByRecursion (λ y. x < y) ys → AllByRecursion (λ y. x < y) (ys ++ n ∷ [])
    front [] g = (low.0, tt)
    front (y ∷ ys) g = (g.0, front ys g.1)

pub increasing_behind : (xs : List ℕ) (n : ℕ) → IsStrictlyIncreasing xs → AllByRecursion (λ x. x < n) xs → IsStrictlyIncreasing (xs ++ n ∷ [])
increasing_behind xs n h low = increasing_of (xs ++ n ∷ []) (rise_behind xs n (rise_of xs h) low)

pub some_below : (p : ℕ → Bool) (xs : List ℕ) (n : ℕ) → AllByRecursion (λ x. x < n) xs → AllByRecursion (λ x. x < n) (filter p xs)
some_below p [] n low = tt
some_below p (x ∷ xs) n low = at (p x) (some_below p xs n low.1)
  where
    at : (b : Bool) → AllByRecursion (λ y. y < n) (filter p xs) → AllByRecursion (λ y. y < n) (cond b (x ∷ filter p xs) (filter p xs))
    at true h = (low.0, h)
    at false h = h

-- all of which are below the position after
pub all_behind : (xs : List ℕ) (n : ℕ) → AllByRecursion (λ x. x < n) xs → AllByRecursion (λ x. x < n + 1) (xs ++ n ∷ [])
all_behind [] n low = (omega arith, tt)
all_behind (x ∷ xs) n low = (let first : x < n = low.0 in omega (arith, first), all_behind xs n low.1)
