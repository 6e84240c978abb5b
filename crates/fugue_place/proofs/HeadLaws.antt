-- The first head behind a place.
use Rattle.std.proofs.Common.{◌≡◌, ℕ, zero, suc, ◌+◌, ◌<◌, ◌≤◌, ⊎_elim, List, [], ◌∷◌, ◌++◌, length, get_or, nat_lt, refl, sym, ◌∙◌, subst, arith}
use Rattle.std.proofs.lemmas.Bool.{cases_lt, lt-ltb, le-ltb, cond-true, cond-false}
use Rattle.fugue_place.specs.Ways.{next_head, AreInOrder}

-- the first of the heads is behind the place, or it isn't
pub next_now : (h : ℕ) (heads : List ℕ) (end k : ℕ) → k < h → next_head (h ∷ heads) end k ≡ h
next_now h heads end k lt = cond-true (nat_lt k h) h (next_head heads end k) (lt-ltb k h lt)

pub next_later : (h : ℕ) (heads : List ℕ) (end k : ℕ) → h ≤ k → next_head (h ∷ heads) end k ≡ next_head heads end k
next_later h heads end k le = cond-false (nat_lt k h) h (next_head heads end k) (le-ltb k h le)

pub next_ahead : (heads : List ℕ) (end k : ℕ) → k < end → k < next_head heads end k
next_ahead [] end k lt = lt
next_ahead (h ∷ heads) end k lt =
    ⊎_elim
    (λ now. subst (λ (x : ℕ). k < x) (sym (next_now h heads end k now)) now)
    (λ later. subst (λ (x : ℕ). k < x) (sym (next_later h heads end k later)) (next_ahead heads end k lt))
    (cases_lt k h)

-- all stand ahead of the end
abbrev pub AreBelow : List ℕ → ℕ → Type 0
AreBelow heads end = (r : ℕ) → r < length heads → get_or heads r 0 < end

below_first : (h : ℕ) (heads : List ℕ) (end : ℕ) → AreBelow (h ∷ heads) end → h < end
below_first h heads end below = below zero (omega arith)

below_rest : (h : ℕ) (heads : List ℕ) (end : ℕ) → AreBelow (h ∷ heads) end → AreBelow heads end
below_rest h heads end below = λ r lt. below (suc r) (omega arith)

pub next_within : (heads : List ℕ) (end k : ℕ) → AreBelow heads end → next_head heads end k ≤ end
next_within [] end k below = omega arith
next_within (h ∷ heads) end k below =
    ⊎_elim
    (λ now. let is = next_now h heads end k now in let low = below_first h heads end below in omega (arith, is, low))
    (λ later. let is = next_later h heads end k later in let low = next_within heads end k (below_rest h heads end below) in omega (arith, is, low))
    (cases_lt k h)

-- in between there is no head
pub next_same : (heads : List ℕ) (end k x : ℕ) → k ≤ x → x < next_head heads end k → next_head heads end x ≡ next_head heads end k
next_same [] end k x le lt = refl
next_same (h ∷ heads) end k x le lt =
    ⊎_elim
    (λ now. next_now h heads end x (subst (λ (y : ℕ). x < y) (next_now h heads end k now) lt) ∙ sym (next_now h heads end k now))
    (λ later.
    let is = next_later h heads end k later in
    next_later h heads end x (omega arith) ∙ next_same heads end k x le (subst (λ (y : ℕ). x < y) is lt) ∙ sym is)
    (cases_lt k h)

order_rest : (h : ℕ) (heads : List ℕ) → AreInOrder (h ∷ heads) → AreInOrder heads
order_rest h heads order = λ i j lt low. order (suc i) (suc j) (omega arith) (omega arith)

-- a head behind the place is no earlier
pub next_to : (heads : List ℕ) (end x r : ℕ) → AreInOrder heads → r < length heads → x < get_or heads r 0 → next_head heads end x ≤ get_or heads r 0
next_to [] end x r order low lt = absurd (omega arith)
next_to (h ∷ heads) end x zero order low lt = let is = next_now h heads end x lt in omega (arith, is)
next_to (h ∷ heads) end x (suc r) order low lt =
    ⊎_elim
    (λ now. let is = next_now h heads end x now in let later : h < get_or heads r 0 = order zero (suc r) (omega arith) low in omega (arith, is, later))
    (λ later. let is = next_later h heads end x later in let to = next_to heads end x r (order_rest h heads order) (omega arith) lt in omega (arith, is, to))
    (cases_lt x h)

-- it is the one that so many stand ahead of
pub next_point : (heads : List ℕ) (end x to : ℕ) → ((r : ℕ) → r < to → r < length heads → get_or heads r 0 ≤ x) → (to < length heads → x < get_or heads to 0) → next_head heads end x ≡ get_or heads to end
next_point [] end x to early late = refl
next_point (h ∷ heads) end x zero early late = next_now h heads end x (late (omega arith))
next_point (h ∷ heads) end x (suc to) early late =
    next_later h heads end x (early zero (omega arith) (omega arith))
    ∙ next_point heads end x to (λ r lt low. early (suc r) (omega arith) (omega arith)) (λ low. late (omega arith))

-- ONE MORE PLACE
-- it is a head
pub next_before_new : (heads : List ℕ) (n k : ℕ) → k < n → next_head (heads ++ n ∷ []) (n + 1) k ≡ next_head heads n k
next_before_new [] n k lt = next_now n [] (n + 1) k lt
next_before_new (h ∷ heads) n k lt =
    ⊎_elim
    (λ now. next_now h (heads ++ n ∷ []) (n + 1) k now ∙ sym (next_now h heads n k now))
    (λ later. next_later h (heads ++ n ∷ []) (n + 1) k later ∙ next_before_new heads n k lt ∙ sym (next_later h heads n k later))
    (cases_lt k h)

pub next_new : (heads : List ℕ) (n : ℕ) → AreBelow heads n → next_head (heads ++ n ∷ []) (n + 1) n ≡ n + 1
next_new [] n below = next_later n [] (n + 1) n (omega arith)
next_new (h ∷ heads) n below =
    next_later h (heads ++ n ∷ []) (n + 1) n (let low = below_first h heads n below in omega arith) ∙ next_new heads n (below_rest h heads n below)

-- it is no head
pub next_stays : (heads : List ℕ) (n k : ℕ) → next_head heads n k < n → next_head heads (n + 1) k ≡ next_head heads n k
next_stays [] n k lt = absurd (omega arith)
next_stays (h ∷ heads) n k lt =
    ⊎_elim
    (λ now. next_now h heads (n + 1) k now ∙ sym (next_now h heads n k now))
    (λ later. let is = next_later h heads n k later in next_later h heads (n + 1) k later ∙ next_stays heads n k (subst (λ (y : ℕ). y < n) is lt) ∙ sym is)
    (cases_lt k h)

pub next_grows : (heads : List ℕ) (n k : ℕ) → AreBelow heads n → next_head heads n k ≡ n → next_head heads (n + 1) k ≡ n + 1
next_grows [] n k below e = refl
next_grows (h ∷ heads) n k below e =
    ⊎_elim
    (λ now. let is = next_now h heads n k now in let low = below_first h heads n below in absurd (omega (arith, is, low, e)))
    (λ later. next_later h heads (n + 1) k later ∙ next_grows heads n k (below_rest h heads n below) (sym (next_later h heads n k later) ∙ e))
    (cases_lt k h)

pub next_newest : (heads : List ℕ) (n : ℕ) → AreBelow heads n → next_head heads (n + 1) n ≡ n + 1
next_newest [] n below = refl
next_newest (h ∷ heads) n below =
    next_later h heads (n + 1) n (let low = below_first h heads n below in omega arith) ∙ next_newest heads n (below_rest h heads n below)
