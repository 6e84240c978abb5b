-- Events that are named by their positions.
use Rattle.std.proofs.Common.{◌≡◌, ℕ, zero, suc, ◌+◌, ◌<◌, ◌≤◌, false, not, ◌⊎◌, inl, inr, ⊎_elim, nat_eq, List, [], ◌∷◌, ◌++◌, map, take, length, refl, sym, ap, ◌∙◌, subst, arith}
use Rattle.std.specs.List.Sorted.{IsStrictlyIncreasing}
use Rattle.std.proofs.lemmas.Bool.{false_from_ne_true}
use Rattle.std.proofs.lemmas.List.Elements.{recursion_from_All}
use Rattle.std.proofs.lemmas.List.Kept.{IsStrictlyIncreasing-filter}
use Rattle.ew_model.specs.Sets.{Among}
use Rattle.ew_model.specs.Graph.{is_named, has_child}
use Rattle.ew_model.specs.CutChange.{AreInOrder}
use Rattle.ew_model.specs.Positions.{AreParents, parents_at, IsHistoryOfParents, EventAt, events_from, frontier_of}
use Rattle.ew_model.proofs.ListTests.{pass_all}
use Rattle.ew_model.proofs.SortingLaws.{all_at, all_from}
use Rattle.ew_model.proofs.RisingLists.{Rise, increasing_of, number_among, among_named}

abbrev pub position_of : EventAt → ℕ
position_of e = e.position

abbrev pub parents_of : EventAt → List ℕ
parents_of e = e.parents

pub events_from-append : (n : ℕ) (xs ys : List (List ℕ)) → events_from n (xs ++ ys) ≡ events_from n xs ++ events_from (n + length xs) ys
events_from-append n [] ys = let same : n ≡ n + 0 = omega arith in ap (λ m. events_from m ys) same
events_from-append n (x ∷ xs) ys =
    let same : suc n + length xs ≡ n + suc (length xs) = omega arith in
    ap (λ es. record { position = n; parents = x } ∷ es) (events_from-append (suc n) xs ys ∙ ap (λ m. events_from (suc n) xs ++ events_from m ys) same)

pub length-events_from : (n : ℕ) (xs : List (List ℕ)) → length (events_from n xs) ≡ length xs
length-events_from n [] = refl
length-events_from n (x ∷ xs) = ap suc (length-events_from (suc n) xs)

pub take-events_from : (k n : ℕ) (xs : List (List ℕ)) → take k (events_from n xs) ≡ events_from n (take k xs)
take-events_from zero n xs = refl
take-events_from (suc k) n [] = refl
take-events_from (suc k) n (x ∷ xs) = ap (λ es. record { position = n; parents = x } ∷ es) (take-events_from k (suc n) xs)

-- one more event
pub events_push : (history : List (List ℕ)) (parents : List ℕ) → events_from 0 (history ++ parents ∷ []) ≡ events_from 0 history ++ record { position = length history; parents = parents } ∷ []
events_push history parents =
    let same : 0 + length history ≡ length history = omega arith in
    events_from-append 0 history (parents ∷ []) ∙ ap (λ m. events_from 0 history ++ events_from m (parents ∷ [])) same

-- the positions are those from the first on
pub position_low : (n : ℕ) (xs : List (List ℕ)) (e : EventAt) → Among e (events_from n xs) → n ≤ e.position
position_low n [] e m = absurd m
position_low n (x ∷ xs) e m =
    ⊎_elim (λ k. let same : e.position ≡ n = ap position_of k in omega (arith, same)) (λ k. let more = position_low (suc n) xs e k in omega (arith, more)) m

pub position_high : (n : ℕ) (xs : List (List ℕ)) (e : EventAt) → Among e (events_from n xs) → e.position < n + length xs
position_high n [] e m = absurd m
position_high n (x ∷ xs) e m =
    ⊎_elim (λ k. let same : e.position ≡ n = ap position_of k in omega (arith, same)) (λ k. let more = position_high (suc n) xs e k in omega (arith, more)) m

pub position_there : (n : ℕ) (xs : List (List ℕ)) (p : ℕ) → n ≤ p → p < n + length xs → Among p (map position_of (events_from n xs))
position_there n [] p h k = absurd (omega (arith, h, k))
position_there n (x ∷ xs) p h k = at (first n p h) (λ l. position_there (suc n) xs p (omega (arith, l)) (omega (arith, k)))
  where
    first : (n p : ℕ) → n ≤ p → (p ≡ n) ⊎ (n < p)
    first zero zero h = inl refl
    first zero (suc p) h = inr (omega arith)
    first (suc n) zero h = absurd (omega (arith, h))
    first (suc n) (suc p) h = ⊎_elim (λ e. inl (ap suc e)) (λ l. inr (omega (arith, l))) (first n p (omega (arith, h)))

    at : (p ≡ n) ⊎ (n < p) → (n < p → Among p (map position_of (events_from (suc n) xs))) → Among p (n ∷ map position_of (events_from (suc n) xs))
    at (inl e) f = inl e
    at (inr l) f = inr (f l)

pub positions_bound : (n : ℕ) (xs : List (List ℕ)) (p : ℕ) → Among p (map position_of (events_from n xs)) → (n ≤ p) × (p < n + length xs)
positions_bound n [] p m = absurd m
positions_bound n (x ∷ xs) p m =
    ⊎_elim (λ e. (omega (arith, e), omega (arith, e))) (λ k. let more = positions_bound (suc n) xs p k in (omega (arith, more.0), omega (arith, more.1))) m

pub positions_rise : (n : ℕ) (xs : List (List ℕ)) → Rise (map position_of (events_from n xs))
positions_rise n [] = tt
positions_rise n (x ∷ xs) =
    (all_from (λ p. n < p) (map position_of (events_from (suc n) xs)) (λ p m. let far = (positions_bound (suc n) xs p m).0 in omega (arith, far)), positions_rise (suc n) xs)

-- the frontier rises
pub frontier_rises : (history : List (List ℕ)) → IsStrictlyIncreasing (frontier_of history)
frontier_rises history =
    IsStrictlyIncreasing-filter (λ p. not (has_child position_of parents_of nat_eq (events_from 0 history) p)) (map position_of (events_from 0 history))
    (increasing_of (map position_of (events_from 0 history)) (positions_rise 0 history))

-- each event's parents stand before it, by recursion
abbrev pub AreHistoryFrom : ℕ → List (List ℕ) → Type 0
AreHistoryFrom n [] = Unit {0}
AreHistoryFrom n (parents ∷ later) = AreParents n parents × AreHistoryFrom (suc n) later

history_at : (n : ℕ) (xs : List (List ℕ)) → ((j : ℕ) → j < length xs → AreParents (n + j) (parents_at xs j)) → AreHistoryFrom n xs
history_at n [] h = tt
history_at n (x ∷ xs) h =
    let none : n + 0 ≡ n = omega arith in (
      subst (λ m. AreParents m x) none (h 0 (omega arith)),
      history_at (suc n) xs (λ j l.
          let one : n + suc j ≡ suc n + j = omega arith in subst (λ m. AreParents m (parents_at xs j)) one (h (suc j) (omega (arith, l)))),
    )

pub history_from : (history : List (List ℕ)) → IsHistoryOfParents history → AreHistoryFrom 0 history
history_from history h = history_at 0 history (λ j l. let same : j ≡ 0 + j = omega arith in subst (λ m. AreParents m (parents_at history j)) same (h j l))

at_history : (n : ℕ) (xs : List (List ℕ)) → AreHistoryFrom n xs → (j : ℕ) → j < length xs → AreParents (n + j) (parents_at xs j)
at_history n [] h j l = absurd (omega (arith, l))
at_history n (x ∷ xs) h zero l = let none : n ≡ n + 0 = omega arith in subst (λ m. AreParents m x) none h.0
at_history n (x ∷ xs) h (suc j) l = let one : suc n + j ≡ n + suc j = omega arith in subst (λ m. AreParents m (parents_at xs j)) one (at_history (suc n) xs h.1 j (omega (arith, l)))

pub history_to : (history : List (List ℕ)) → AreHistoryFrom 0 history → IsHistoryOfParents history
history_to history h j l = let same : 0 + j ≡ j = omega arith in subst (λ m. AreParents m (parents_at history j)) same (at_history 0 history h j l)

pub history_joined : (n : ℕ) (xs ys : List (List ℕ)) → AreHistoryFrom n xs → AreHistoryFrom (n + length xs) ys → AreHistoryFrom n (xs ++ ys)
history_joined n [] ys h k = let same : n + 0 ≡ n = omega arith in subst (λ m. AreHistoryFrom m ys) same k
history_joined n (x ∷ xs) ys h k = let same : n + suc (length xs) ≡ suc n + length xs = omega arith in (h.0, history_joined (suc n) xs ys h.1 (subst (λ m. AreHistoryFrom m ys) same k))

pub history_push : (history : List (List ℕ)) (parents : List ℕ) → IsHistoryOfParents history → AreParents (length history) parents → IsHistoryOfParents (history ++ parents ∷ [])
history_push history parents h p =
    let same : length history ≡ 0 + length history = omega arith in
    history_to (history ++ parents ∷ []) (history_joined 0 history (parents ∷ []) (history_from history h) (subst (λ m. AreParents m parents) same p, tt))

-- so the events stand in order
not_before : (xs : List (List ℕ)) (p : ℕ) → length xs ≤ p → is_named nat_eq (map position_of (events_from 0 xs)) p ≡ false
not_before xs p h =
    false_from_ne_true (is_named nat_eq (map position_of (events_from 0 xs)) p) (λ e.
    let most_touches = (positions_bound 0 xs p (number_among (map position_of (events_from 0 xs)) p e)).1 in omega (arith, most_touches, h))

pub in_order : (before later : List (List ℕ)) → AreHistoryFrom (length before) later → AreInOrder position_of parents_of nat_eq (events_from 0 before) (events_from (length before) later)
in_order before [] h = tt
in_order before (ps ∷ later) h =
    let e : EventAt = record { position = length before; parents = ps } in
    let low = recursion_from_All (λ p. p < length before) ps h.0.lower in
    let pushed : events_from 0 (before ++ ps ∷ []) ≡ events_from 0 before ++ e ∷ [] = events_push before ps in
    let long : length (before ++ ps ∷ []) ≡ suc (length before) = pushed_length before ps in (
      not_before before (length before) (omega arith),
      pass_all (is_named nat_eq (map position_of (events_from 0 before))) ps (λ p m.
          among_named (map position_of (events_from 0 before)) p (position_there 0 before p (omega arith) (let l : p < length before = all_at (λ q. q < length before) ps p low m in omega (arith, l)))),
      subst (λ es. AreInOrder position_of parents_of nat_eq es (events_from (suc (length before)) later)) pushed
          (subst (λ m. AreInOrder position_of parents_of nat_eq (events_from 0 (before ++ ps ∷ [])) (events_from m later)) long
          (in_order (before ++ ps ∷ []) later (subst (λ m. AreHistoryFrom m later) (sym long) h.1))),
    )
  where
    pushed_length : (xs : List (List ℕ)) (x : List ℕ) → length (xs ++ x ∷ []) ≡ suc (length xs)
    pushed_length [] x = refl
    pushed_length (y ∷ xs) x = ap suc (pushed_length xs x)
