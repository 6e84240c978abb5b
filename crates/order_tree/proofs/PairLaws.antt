-- Lists of runs with rising labels.
use Rattle.std.proofs.Common.{Contains, slice_index_or, ◌≡◌, ℕ, zero, suc, ◌+◌, ◌<◌, ◌≤◌, Bool, true, false, not, List, [], ◌∷◌, ◌++◌, length, filter, All, cond, nat_eq, nat_lt, nat_le, arith, refl, sym, ap, ◌∙◌}
use Rattle.std.proofs.lemmas.List.Elements.{All-nil, All-cons, All-head, All-tail, All-weaker, Contains-append_right}
use Rattle.std.proofs.lemmas.List.Filters.{sum_by-filter_both}
use Rattle.std.proofs.lemmas.List.Sums.{sum_by-cons, sum_by-append}
use Rattle.std.proofs.lemmas.Bool.{lt-ltb, le-ltb, le-leb, lt-leb, ne_eqb}
use Rattle.order_tree.specs.Pairs.{RisesFrom, IsRising, lower, up_to, greater, total, labels}
use Rattle.order_tree.specs.Parts.{first_or_zero, last_known}

module _ {X : Type 0} where
  pub filter_all : (p : X → Bool) (xs : List X) → All (λ x. p x ≡ true) xs → filter p xs ≡ xs
  filter_all p [] h = refl
  filter_all p (x ∷ xs) h =
      let here : p x ≡ true = All-head (λ y. p y ≡ true) x xs h in
      rw here (ap (λ (ys : List X). x ∷ ys) (filter_all p xs (All-tail (λ y. p y ≡ true) x xs h)))

  pub filter_none : (p : X → Bool) (xs : List X) → All (λ x. p x ≡ false) xs → filter p xs ≡ []
  filter_none p [] h = refl
  filter_none p (x ∷ xs) h =
      let here : p x ≡ false = All-head (λ y. p y ≡ false) x xs h in
      rw here (filter_none p xs (All-tail (λ y. p y ≡ false) x xs h))

  pub All_right : (P : X → Type 0) (xs ys : List X) → All P (xs ++ ys) → All P ys
  All_right P [] ys h = h
  All_right P (x ∷ xs) ys h = All_right P xs ys (All-tail P x (xs ++ ys) h)

-- a number, or another where it is 0
pub at_none : (n m : ℕ) → n ≡ 0 → cond (nat_eq n 0) m n ≡ m
at_none n m e = rw e refl

pub at_some : (n m : ℕ) → 0 < n → cond (nat_eq n 0) m n ≡ n
at_some n m lt = let other : nat_eq n 0 ≡ false = ne_eqb n 0 (λ e. omega arith) in rw other refl

or_zero : (n : ℕ) → cond (nat_eq n 0) 0 n ≡ n
or_zero zero = refl
or_zero (suc n) = at_some (suc n) 0 (omega arith)

first_of : (n m own all : ℕ) → all ≡ cond (nat_eq n 0) m n → cond (nat_eq all 0) own all ≡ cond (nat_eq n 0) (cond (nat_eq m 0) own m) n
first_of zero m own all e = rw e refl
first_of (suc n) m own all e =
    let same : all ≡ suc n = e ∙ at_some (suc n) m (omega arith) in
    at_some all own (omega arith) ∙ same ∙ sym (at_some (suc n) (cond (nat_eq m 0) own m) (omega arith))

module _ {R : Type 0} where
  pub rises_weaker : (low high : ℕ) (ps : List (ℕ × R)) → low ≤ high → RisesFrom high ps → RisesFrom low ps
  rises_weaker low high [] le h = tt
  rises_weaker low high (p ∷ ps) le h = (omega (arith, h.0), h.1)

  -- a front of a rising list rises, and so does the rest
  pub rises_front : (low : ℕ) (xs ys : List (ℕ × R)) → RisesFrom low (xs ++ ys) → RisesFrom low xs
  rises_front low [] ys h = tt
  rises_front low (x ∷ xs) ys h = (h.0, rises_front x.0 xs ys h.1)

  pub rises_rest : (low : ℕ) (xs ys : List (ℕ × R)) → RisesFrom low (xs ++ ys) → RisesFrom low ys
  rises_rest low [] ys h = h
  rises_rest low (x ∷ xs) ys h = rises_weaker low x.0 ys (omega (arith, h.0)) (rises_rest x.0 xs ys h.1)

  pub rises_above : (low : ℕ) (ps : List (ℕ × R)) → RisesFrom low ps → All (λ p. low < p.0) ps
  rises_above low [] h = All-nil (λ p. low < p.0)
  rises_above low (p ∷ ps) h = All-cons (λ q. low < q.0) p ps h.0 (rises_above low ps (rises_weaker low p.0 ps (omega (arith, h.0)) h.1))

  first_above : (low : ℕ) (xs ys : List (ℕ × R)) → RisesFrom low (xs ++ ys) → 0 < length ys → low < first_or_zero ys
  first_above low [] [] h some = absurd (omega (arith, some))
  first_above low [] (y ∷ ys) h some = h.0
  first_above low (x ∷ xs) ys h some = omega (arith, h.0, first_above x.0 xs ys h.1 some)

  -- what stands before a label has lower labels
  pub front_below : (low label : ℕ) (xs ys : List (ℕ × R)) → RisesFrom low (xs ++ ys) → 0 < length ys → first_or_zero ys ≤ label → All (λ p. p.0 < label) xs
  front_below low label [] ys h some le = All-nil (λ p. p.0 < label)
  front_below low label (x ∷ xs) ys h some le =
      All-cons (λ p. p.0 < label) x xs (omega (arith, first_above x.0 xs ys h.1 some)) (front_below x.0 label xs ys h.1 some le)

  -- and what begins above a label has greater labels
  pub rest_above : (low label : ℕ) (ps : List (ℕ × R)) → RisesFrom low ps → (0 < length ps → label < first_or_zero ps) → All (λ p. label < p.0) ps
  rest_above low label [] h above = All-nil (λ p. label < p.0)
  rest_above low label (p ∷ ps) h above =
      let some : 0 < length (p ∷ ps) = omega arith in
      let here : label < p.0 = above some in
      All-cons (λ q. label < q.0) p ps here (rises_above label ps (rises_weaker label p.0 ps (omega (arith, here)) h.1))

  pub lower_all : (label : ℕ) (ps : List (ℕ × R)) → All (λ p. p.0 < label) ps → lower ps label ≡ ps
  lower_all label ps h = filter_all (λ p. nat_lt p.0 label) ps (λ k d lt. lt-ltb _ label (h k d lt))

  pub lower_none : (label : ℕ) (ps : List (ℕ × R)) → All (λ p. label ≤ p.0) ps → lower ps label ≡ []
  lower_none label ps h = filter_none (λ p. nat_lt p.0 label) ps (λ k d lt. le-ltb _ label (h k d lt))

  -- none has a lower label where the first has none
  pub lower_from : (label : ℕ) (ps : List (ℕ × R)) → IsRising ps → label ≤ first_or_zero ps → lower ps label ≡ []
  lower_from label [] rising le = refl
  lower_from label (p ∷ ps) rising le =
      lower_none label (p ∷ ps) (All-cons (λ q. label ≤ q.0) p ps le (All-weaker (λ q. p.0 < q.0) (λ q. label ≤ q.0) (λ q less. omega (arith, less, le)) ps (rises_above p.0 ps rising.1)))

  pub up_to_all : (label : ℕ) (ps : List (ℕ × R)) → All (λ p. p.0 ≤ label) ps → up_to ps label ≡ ps
  up_to_all label ps h = filter_all (λ p. nat_le p.0 label) ps (λ k d lt. le-leb _ label (h k d lt))

  pub up_to_none : (label : ℕ) (ps : List (ℕ × R)) → All (λ p. label < p.0) ps → up_to ps label ≡ []
  up_to_none label ps h = filter_none (λ p. nat_le p.0 label) ps (λ k d lt. lt-leb _ label (h k d lt))

  pub greater_all : (label : ℕ) (ps : List (ℕ × R)) → All (λ p. label < p.0) ps → greater ps label ≡ ps
  greater_all label ps h = filter_all (λ p. nat_lt label p.0) ps (λ k d lt. lt-ltb label _ (h k d lt))

  pub greater_none : (label : ℕ) (ps : List (ℕ × R)) → All (λ p. p.0 ≤ label) ps → greater ps label ≡ []
  greater_none label ps h = filter_none (λ p. nat_lt label p.0) ps (λ k d lt. le-ltb label _ (h k d lt))

  -- sums of lists one after the other
  pub total-append : (count : R → ℕ) (xs ys : List (ℕ × R)) → total count (xs ++ ys) ≡ total count xs + total count ys
  total-append count xs ys = sum_by-append (λ p. count p.1) xs ys

  pub total-cons : (count : R → ℕ) (x : ℕ × R) (xs : List (ℕ × R)) → total count (x ∷ xs) ≡ count x.1 + total count xs
  total-cons count x xs = sum_by-cons (λ p. count p.1) x xs

  pub total-one : (count : R → ℕ) (x : ℕ × R) → total count (x ∷ []) ≡ count x.1
  total-one count x = omega (arith, total-cons count x [])

  -- the last known run of two lists is that of the second, if it has one
  pub last_known-append : (known : R → ℕ) (xs ys : List (ℕ × R)) → last_known known (xs ++ ys) ≡ cond (nat_eq (last_known known ys) 0) (last_known known xs) (last_known known ys)
  last_known-append known [] ys = sym (or_zero (last_known known ys))
  last_known-append known (x ∷ xs) ys =
      first_of (last_known known ys) (last_known known xs) (cond (nat_lt 0 (known x.1)) x.0 0) (last_known known (xs ++ ys)) (last_known-append known xs ys)

  pub total-up_to-le : (count : R → ℕ) (ps : List (ℕ × R)) (label : ℕ) → total count (up_to ps label) ≤ total count ps
  total-up_to-le count ps label = omega (arith, sum_by-filter_both (λ p. nat_le p.0 label) (λ p. not (nat_le p.0 label)) (λ p. refl) (λ p. count p.1) ps)

  pub lower_zero : (count : R → ℕ) (ps : List (ℕ × R)) (label : ℕ) → label ≤ 0 → 0 ≡ total count (lower ps label)
  lower_zero count ps label le = sym (ap (total count) (lower_none label ps (λ k d lt. omega (arith, le))))

  -- a label of the list is that of a run
  pub has_label : (ps : List (ℕ × R)) (label : ℕ) → Contains (labels ps) label → (r : R) × Contains ps (label, r)
  has_label ps label h = at ps h.0 h.1 h.2
    where
      at : (qs : List (ℕ × R)) (k : ℕ) → k < length (labels qs) → slice_index_or (labels qs) k label ≡ label → (r : R) × Contains qs (label, r)
      at [] k lt e = absurd (omega (arith, lt))
      at (q ∷ qs) zero lt e = (q.1, (0, omega arith, ap (λ (n : ℕ). (n, q.1)) e))
      at (q ∷ qs) (suc k) lt e = let rest = at qs k (omega (arith, lt)) e in (rest.0, Contains-append_right (q ∷ []) qs (label, rest.0) rest.1)
