-- What a search among rising numbers finds.
use Rattle.std.proofs.Common.{◌≡◌, ℕ, zero, suc, ◌<◌, ◌≤◌, Bool, true, false, ◌&&◌, ◌||◌, ◌⊎◌, inl, inr, ⊎_elim, nat_eq, nat_lt, slice_get, List, [], ◌∷◌, length, get_or, Some, refl, sym, ap, ◌∙◌, arith, lt-ltb, le-ltb, eq-eqb}
use Rattle.std.proofs.lemmas.Bool.{ne_eqb, eqb-true}
use Rattle.std.proofs.lemmas.Option.{slice_get-get_or}
use Rattle.ew_model.specs.Sets.{Among}
use Rattle.ew_model.specs.CutChange.{stays_behind}
use Rattle.ew_model.proofs.RisingLists.{Rise}
use Rattle.frontier.proofs.Removals.{at_least}
use Rattle.critical.specs.Searches.{TellsHeads}

-- elements and places
pub place_among : (xs : List ℕ) (x : ℕ) → Among x xs → (j : ℕ) × (j < length xs) × (get_or xs j 0 ≡ x)
place_among [] x m = absurd m
place_among (y ∷ xs) x m = ⊎_elim (λ e. (0, omega arith, sym e)) (λ k. let more = place_among xs x k in (suc more.0, (let l : more.0 < length xs = more.1 in omega (arith, l)), more.2)) m

pub among_place : (xs : List ℕ) (j : ℕ) → j < length xs → Among (get_or xs j 0) xs
among_place [] j l = absurd (omega (arith, l))
among_place (x ∷ xs) zero l = inl refl
among_place (x ∷ xs) (suc j) l = inr (among_place xs j (omega (arith, l)))

pub rise_strict : (xs : List ℕ) → Rise xs → (i j : ℕ) → i < j → j < length xs → get_or xs i 0 < get_or xs j 0
rise_strict [] h i j le l = absurd (omega (arith, l))
rise_strict (x ∷ xs) h i zero le l = absurd (omega (arith, le))
rise_strict (x ∷ xs) h zero (suc j) le l = at_least xs x h.0 j (omega (arith, l))
rise_strict (x ∷ xs) h (suc i) (suc j) le l = rise_strict xs h.1 i j (omega (arith, le)) (omega (arith, l))

two_sides : (k i : ℕ) → (k < i) ⊎ (i ≤ k)
two_sides k zero = inr (omega arith)
two_sides zero (suc i) = inl (omega arith)
two_sides (suc k) (suc i) = ⊎_elim (λ l. inl (omega (arith, l))) (λ l. inr (omega (arith, l))) (two_sides k i)

pub stays_low : (past : ℕ) (same : Bool) (k : ℕ) → k < past → stays_behind past same k ≡ true
stays_low past same k l = ap (λ b. b || nat_eq k past && same) (lt-ltb k past l)

pub stays_at : (past : ℕ) (same : Bool) (k : ℕ) → k ≡ past → stays_behind past same k ≡ same
stays_at past same k e = λ i. le-ltb k past (omega (arith, e)) i || eq-eqb k past e i && same

pub stops_high : (past : ℕ) (same : Bool) (k : ℕ) → past < k → stays_behind past same k ≡ false
stops_high past same k l = λ i. le-ltb k past (omega (arith, l)) i || ne_eqb k past (λ e. omega (arith, l, e)) i && same

-- what tells the heads of one cut alike tells alike which cuts stay
pub stay_alike : (cuts : List ℕ) (heads : List (List ℕ)) (past : ℕ) (positions : List ℕ) (one other : Bool) → TellsHeads cuts heads past positions one → TellsHeads cuts heads past positions other
    → (k : ℕ) → Among k cuts → stays_behind past one k ≡ stays_behind past other k
stay_alike cuts heads past positions one other f g k m = at (nat_eq k past) refl
  where
    at : (b : Bool) → nat_eq k past ≡ b → stays_behind past one k ≡ stays_behind past other k
    at true e =
        let place = place_among cuts k m in
        let there : slice_get cuts place.0 ≡ Some past = slice_get-get_or cuts place.0 0 place.1 ∙ ap Some (place.2 ∙ eqb-true k past e) in
        ap (λ b. stays_behind past b k) (f place.0 there ∙ sym (g place.0 there))
    at false e = ap (λ b. nat_lt k past || b && one) e ∙ sym (ap (λ b. nat_lt k past || b && other) e)
