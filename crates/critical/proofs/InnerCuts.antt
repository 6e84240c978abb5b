-- The critical cuts of a history below its length.
use Rattle.std.proofs.Common.{◌≡◌, ℕ, zero, suc, ◌<◌, ◌≤◌, Bool, true, false, cond, ◌⊎◌, inl, inr, ⊎_elim, nat_eq, nat_lt, nat_le, List, [], ◌∷◌, ◌++◌, length, filter, refl, sym, ap, ◌∙◌, arith, append-nil, lt-ltb, le-ltb}
use Rattle.std.specs.List.{AllByRecursion}
use Rattle.std.proofs.lemmas.Bool.{true≢false, false_from_ne_true, and_parts, leb-true, ltb-true}
use Rattle.std.proofs.lemmas.List.Elements.{filter-append}
use Rattle.ew_model.specs.Sets.{Among}
use Rattle.ew_model.specs.Graph.{is_named, greatest_to, passing_to}
use Rattle.ew_model.specs.Positions.{events_from, is_cut_at, latest_cut_at, cuts_at}
use Rattle.ew_model.proofs.ListTests.{same_truth}
use Rattle.ew_model.proofs.RisingLists.{number_among, among_named}
use Rattle.ew_model.proofs.SetLaws.{among_joined, among_filter, filter_among, joined_left, joined_right}
use Rattle.ew_model.proofs.PositionEvents.{length-events_from}
use Rattle.ew_model.proofs.PositionCuts.{cut_at_0, cut_at_length}
use Rattle.critical.specs.KeptCuts.{inner_cuts}
use Rattle.critical.specs.Searches.{IsGreatestTo}

all_more : (m n : ℕ) (xs : List ℕ) → m ≤ n → AllByRecursion (λ k. k ≤ m) xs → AllByRecursion (λ k. k ≤ n) xs
all_more m n [] l h = tt
all_more m n (x ∷ xs) l h = (let first : x ≤ m = h.0 in omega (arith, first, l), all_more m n xs l h.1)

all_behind : (m : ℕ) (xs : List ℕ) (x : ℕ) → AllByRecursion (λ k. k ≤ m) xs → x ≤ m → AllByRecursion (λ k. k ≤ m) (xs ++ x ∷ [])
all_behind m [] x h l = (l, tt)
all_behind m (y ∷ xs) x h l = (h.0, all_behind m xs x h.1 l)

-- the numbers that pass up to m are at most m
pub passing_low : (p : ℕ → Bool) (m : ℕ) → AllByRecursion (λ k. k ≤ m) (passing_to p m)
passing_low p zero = (omega arith, tt)
passing_low p (suc m) = at (p (suc m)) (all_more m (suc m) (passing_to p m) (omega arith) (passing_low p m))
  where
    at : (b : Bool) → AllByRecursion (λ k. k ≤ suc m) (passing_to p m) → AllByRecursion (λ k. k ≤ suc m) (cond b (passing_to p m ++ suc m ∷ []) (passing_to p m))
    at true h = all_behind (suc m) (passing_to p m) (suc m) h (omega arith)
    at false h = h

-- all of numbers that are below a bound
pub filter-below : (xs : List ℕ) (m n : ℕ) → AllByRecursion (λ k. k ≤ m) xs → m < n → filter (λ k. nat_lt k n) xs ≡ xs
filter-below [] m n h l = refl
filter-below (x ∷ xs) m n h l =
    let first : x ≤ m = h.0 in
    (λ i. cond (lt-ltb x n (omega (arith, first, l)) i) (x ∷ filter-below xs m n h.1 l i) (filter-below xs m n h.1 l i))

-- THE CUTS are those below the length, and the length.
pub cuts_split : (history : List (List ℕ)) → cuts_at history ≡ inner_cuts history ++ length history ∷ []
cuts_split history = at (length history) (cut_at_length history)
  where
    last : (n : ℕ) → filter (λ k. nat_lt k n) (n ∷ []) ≡ []
    last n = ap (λ b. cond b (n ∷ []) []) (le-ltb n n (omega arith))

    at : (n : ℕ) → is_cut_at history n ≡ true → passing_to (is_cut_at history) n ≡ filter (λ k. nat_lt k n) (passing_to (is_cut_at history) n) ++ n ∷ []
    at zero c = sym (ap (λ xs. xs ++ 0 ∷ []) (last 0))
    at (suc m) c =
        let p = is_cut_at history in
        let whole : passing_to p (suc m) ≡ passing_to p m ++ suc m ∷ [] = ap (λ b. cond b (passing_to p m ++ suc m ∷ []) (passing_to p m)) c in
        let inner : filter (λ k. nat_lt k (suc m)) (passing_to p (suc m)) ≡ passing_to p m =
        ap (filter (λ k. nat_lt k (suc m))) whole ∙ filter-append (λ k. nat_lt k (suc m)) (passing_to p m) (suc m ∷ [])
        ∙ (λ i. filter-below (passing_to p m) m (suc m) (passing_low p m) (omega arith) i ++ last (suc m) i) ∙ append-nil (passing_to p m) in
        whole ∙ ap (λ xs. xs ++ suc m ∷ []) (sym inner)

-- what passes is among them, and what is among them passes
passing_among : (p : ℕ → Bool) (m k : ℕ) → k ≤ m → p k ≡ true → Among k (passing_to p m)
passing_among p zero k l h = inl (omega (arith, l))
passing_among p (suc m) k l h = at (p (suc m)) refl (two_ways k m l) (λ low. passing_among p m k low h)
  where
    two_ways : (k m : ℕ) → k ≤ suc m → (k ≤ m) ⊎ (k ≡ suc m)
    two_ways zero m l = inl (omega arith)
    two_ways (suc k) zero l = inr (omega (arith, l))
    two_ways (suc k) (suc m) l = ⊎_elim (λ low. inl (omega (arith, low))) (λ e. inr (ap suc e)) (two_ways k m (omega (arith, l)))

    at : (b : Bool) → p (suc m) ≡ b → (k ≤ m) ⊎ (k ≡ suc m) → (k ≤ m → Among k (passing_to p m)) → Among k (cond b (passing_to p m ++ suc m ∷ []) (passing_to p m))
    at true e (inl low) f = joined_left (passing_to p m) (suc m ∷ []) k (f low)
    at true e (inr top) f = joined_right (passing_to p m) (suc m ∷ []) k (inl top)
    at false e (inl low) f = f low
    at false e (inr top) f = absurd (true≢false (sym h ∙ ap p top ∙ e))

among_passing : (p : ℕ → Bool) (m k : ℕ) → p 0 ≡ true → Among k (passing_to p m) → p k ≡ true
among_passing p zero k start m = ⊎_elim (λ e. ap p e ∙ start) (λ no. absurd no) m
among_passing p (suc n) k start m = at (p (suc n)) refl m (λ a. among_passing p n k start a)
  where
    at : (b : Bool) → p (suc n) ≡ b → Among k (cond b (passing_to p n ++ suc n ∷ []) (passing_to p n)) → (Among k (passing_to p n) → p k ≡ true) → p k ≡ true
    at true e a f = ⊎_elim f (λ l. ⊎_elim (λ q. ap p q ∙ e) (λ no. absurd no) l) (among_joined (passing_to p n) (suc n ∷ []) k a)
    at false e a f = f a

-- no cut is above the length
pub cut_low : (history : List (List ℕ)) (k : ℕ) → is_cut_at history k ≡ true → k ≤ length history
unfolding is_cut_at
cut_low history k c =
    let low = leb-true k (length (events_from 0 history)) ((and_parts (nat_le k (length (events_from 0 history))) _ c).0) in
    let long = length-events_from 0 history in
    omega (arith, low, long)

pub inner_of : (history : List (List ℕ)) (k : ℕ) → Among k (inner_cuts history) → (is_cut_at history k ≡ true) × (k < length history)
inner_of history k m =
    let parts = among_filter (λ j. nat_lt j (length history)) (cuts_at history) k m in
    (among_passing (is_cut_at history) (length history) k (cut_at_0 history) parts.0, ltb-true k (length history) parts.1)

pub of_inner : (history : List (List ℕ)) (k : ℕ) → is_cut_at history k ≡ true → k < length history → Among k (inner_cuts history)
of_inner history k c l =
    filter_among (λ j. nat_lt j (length history)) (cuts_at history) k (passing_among (is_cut_at history) (length history) k (omega (arith, l)) c) (lt-ltb k (length history) l)

-- A cut but for the length is critical exactly where it is among them.
pub named_cut : (history : List (List ℕ)) (k : ℕ) → (k ≡ length history → ⊥) → is_named nat_eq (inner_cuts history) k ≡ is_cut_at history k
named_cut history k other =
    same_truth (is_named nat_eq (inner_cuts history) k) (is_cut_at history k)
    (λ e. (inner_of history k (number_among (inner_cuts history) k e)).0)
    (λ c. let low = cut_low history k c in among_named (inner_cuts history) k (of_inner history k c (omega (arith, low, other))))

-- the greatest number that passes
greatest_is : (p : ℕ → Bool) (m r : ℕ) → r ≤ m → (r ≡ 0) ⊎ (p r ≡ true) → ((k : ℕ) → r < k → k ≤ m → p k ≡ false) → greatest_to p m ≡ r
greatest_is p zero r l h none = omega (arith, l)
greatest_is p (suc m) r l h none = at (p (suc m)) refl (two_ways r m l) (λ low. greatest_is p m r low h (λ k g j. none k g (omega (arith, j))))
  where
    two_ways : (k m : ℕ) → k ≤ suc m → (k ≤ m) ⊎ (k ≡ suc m)
    two_ways zero m l = inl (omega arith)
    two_ways (suc k) zero l = inr (omega (arith, l))
    two_ways (suc k) (suc m) l = ⊎_elim (λ low. inl (omega (arith, low))) (λ e. inr (ap suc e)) (two_ways k m (omega (arith, l)))

    at : (b : Bool) → p (suc m) ≡ b → (r ≤ m) ⊎ (r ≡ suc m) → (r ≤ m → greatest_to p m ≡ r) → cond b (suc m) (greatest_to p m) ≡ r
    at true e (inl low) f = absurd (true≢false (sym e ∙ none (suc m) (omega (arith, low)) (omega arith)))
    at true e (inr top) f = sym top
    at false e (inl low) f = f low
    at false e (inr top) f = absurd (⊎_elim (λ z. omega (arith, z, top)) (λ c. true≢false (sym c ∙ ap p top ∙ e)) h)

-- THE LATEST CUT, from the length on and below it.
pub latest_whole : (history : List (List ℕ)) (m : ℕ) → length history ≤ m → length history ≡ latest_cut_at history m
latest_whole history m l =
    sym (greatest_is (is_cut_at history) m (length history) l (inr (cut_at_length history))
    (λ k g j. false_from_ne_true (is_cut_at history k) (λ c. let low = cut_low history k c in omega (arith, low, g))))

pub latest_inner : (history : List (List ℕ)) (m r : ℕ) → m < length history → IsGreatestTo (inner_cuts history) m r → r ≡ latest_cut_at history m
latest_inner history m r l g =
    sym (greatest_is (is_cut_at history) m r g.within
    (⊎_elim (λ z. inl z) (λ a. inr ((inner_of history r a).0)) g.there)
    (λ k high j. false_from_ne_true (is_cut_at history k) (λ c. let top = g.greatest k (of_inner history k c (omega (arith, j, l))) j in omega (arith, top, high))))
