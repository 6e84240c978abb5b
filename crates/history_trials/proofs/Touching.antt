-- What is left of a history when one more event is taken, and how large the numbers of touches are.
use Rattle.std.proofs.Common.{◌≡◌, ℕ, suc, ◌+◌, ◌*◌, ◌^◌, ◌<◌, ◌≤◌, nat_le, min, Bool, true, false, cond, ◌||◌, List, [], ◌∷◌, ◌++◌, take, drop, length, get_or, refl, sym, ap, ◌∙◌, arith}
use Rattle.std.proofs.Math.Nat.{mul-le-mul_left}
use Rattle.std.proofs.lemmas.Bool.{leb-true, leb-false}
use Rattle.std.proofs.lemmas.List.{length-map, take_more, take_all, drop_all}
use Rattle.ew_model.specs.declared.id.Id.{Id}
use Rattle.ew_model.specs.declared.event.Event.{Event}
use Rattle.ew_model.specs.Ids.{is_among}
use Rattle.ew_model.specs.Ancestors.{ids_of, is_parent, version_events, ancestors}
use Rattle.ew_model.specs.Touches.{difference, touches_after, touches}
use Rattle.ew_model.proofs.ListParts.{drop_turn}

take_turn : {X : Type 0} (xs : List X) (i : ℕ) (x : X) → i < length xs → x ≡ get_or xs i x → take (i + 1) xs ≡ take i xs ++ x ∷ []
take_turn xs i x h e = take_more xs i x h ∙ ap (λ y. take i xs ++ y ∷ []) (sym e)

-- the touches of the next event, and of the rest
pub touches_turn : (history : List Event) (i : ℕ) (prepared : List Id) (e : Event) → i < length history → e ≡ get_or history i e
    → touches_after (take i history) prepared (drop i history)
    ≡ 1 + difference prepared (ancestors (take i history) e.parents) + touches_after (take (i + 1) history) (ancestors (take (i + 1) history) (e.id ∷ [])) (drop (i + 1) history)
touches_turn history i prepared e h is =
    ap (touches_after (take i history) prepared) (drop_turn history i e h is)
    ∙ ap (λ next. 1 + difference prepared (ancestors (take i history) e.parents) + touches_after next (ancestors next (e.id ∷ [])) (drop (i + 1) history)) (sym (take_turn history i e h is))

-- a cut behind the end counts as the end
pub touches-min : (history : List Event) (k : ℕ) → touches history (min k (length history)) ≡ touches history k
unfolding touches
touches-min history k = at (nat_le k (length history)) refl
  where
    past : length history ≤ k → min k (length history) ≡ length history → touches history (min k (length history)) ≡ touches history k
    past h e =
        ap (touches history) e
        ∙ (λ i. touches_after (take_all (length history) history (omega arith) i) (ids_of (take_all (length history) history (omega arith) i)) (drop_all (length history) history (omega arith) i))
        ∙ sym (λ i. touches_after (take_all k history h i) (ids_of (take_all k history h i)) (drop_all k history h i))

    at : (b : Bool) → nat_le k (length history) ≡ b → touches history (min k (length history)) ≡ touches history k
    at true q = let within : k ≤ length history = leb-true k (length history) q in ap (touches history) (let e : min k (length history) ≡ k = omega (arith, within) in e)
    at false q = let beyond : length history < k = leb-false k (length history) q in past (omega (arith, beyond)) (omega (arith, beyond))

kept_le : {X : Type 0} (b : Bool) (x : X) (xs : List X) (n : ℕ) → length xs ≤ n → length (cond b (x ∷ xs) xs) ≤ suc n
kept_le true x xs n h = omega (arith, h)
kept_le false x xs n h = omega (arith, h)

length-version_events-le : (history : List Event) (named : List Id) → length (version_events history named) ≤ length history
length-version_events-le [] named = omega arith
length-version_events-le (e ∷ later) named =
    kept_le (is_among named e.id || is_parent (version_events later named) e.id) e (version_events later named) (length later) (length-version_events-le later named)

pub length-ancestors-le : (history : List Event) (named : List Id) → length (ancestors history named) ≤ length history
length-ancestors-le history named =
    omega (arith, length-map (version_events history named) (λ (e : Event). e.id), length-version_events-le history named)

-- a square of 32 bits has 64
pub square_fits : (n : ℕ) → n < 2 ^ 32 → n * n < 2 ^ 64
square_fits n h =
    let most : n ≤ 4294967295 = omega (arith, h) in
    let wide : n * n ≤ n * 4294967295 = mul-le-mul_left n most in
    omega (arith, wide, most)
