-- The positions of a version: they rise, are those of events, and stay as events come.
use Rattle.std.proofs.Common.{◌≡◌, ℕ, suc, ◌+◌, ◌<◌, ◌≤◌, Bool, true, false, cond, ◌||◌, nat_eq, List, [], ◌∷◌, ◌++◌, map, length, reverse, All, sym, ap, ◌∙◌, arith, ne_eqb}
use Rattle.std.specs.List.Sorted.{IsStrictlyIncreasing}
use Rattle.std.proofs.lemmas.Bool.{or_left}
use Rattle.std.proofs.lemmas.Cmp.{nat_eq_equiv}
use Rattle.std.proofs.lemmas.List.{map-append, length-reverse}
use Rattle.std.proofs.lemmas.List.Elements.{All-from_recursion}
use Rattle.ew_model.specs.Sets.{Among}
use Rattle.ew_model.specs.Graph.{is_named, has_child, version_of, names_known}
use Rattle.ew_model.specs.Positions.{EventAt, events_from, known_positions, is_known_at}
use Rattle.ew_model.proofs.SetLaws.{among_map}
use Rattle.ew_model.proofs.SortingLaws.{all_from}
use Rattle.ew_model.proofs.GraphVersions.{taken_held, taken_named, version_before, version_of_last}
use Rattle.ew_model.proofs.GraphOrder.{held_of}
use Rattle.ew_model.proofs.RisingLists.{Rise, increasing_of}
use Rattle.ew_model.proofs.PositionEvents.{position_of, parents_of, events_push, position_low, position_high, position_there}
use Rattle.ew_model.proofs.PositionWalk.{taken_agree, walk_is, low_named}
use Rattle.std.specs.List.{AllByRecursion}

abbrev version : ℕ → List (List ℕ) → List ℕ → List EventAt
version n history named = version_of position_of parents_of nat_eq (events_from n history) named

known_low : (n : ℕ) (history : List (List ℕ)) (named : List ℕ) (p : ℕ) → Among p (map position_of (version n history named)) → (n ≤ p) × (p < n + length history)
known_low n history named p m =
    let e = among_map position_of (version n history named) p m in
    let here = taken_held position_of parents_of nat_eq (events_from n history) named e.0 e.1 in
    let low = position_low n history e.0 here in
    let high = position_high n history e.0 here in
    let same = e.2 in
    (omega (arith, low, same), omega (arith, high, same))

known_rise : (n : ℕ) (history : List (List ℕ)) (named : List ℕ) → Rise (map position_of (version n history named))
known_rise n [] named = tt
known_rise n (ps ∷ history) named =
    at (is_named nat_eq named n || has_child position_of parents_of nat_eq (version (suc n) history named) n) (known_rise (suc n) history named)
    (all_from (λ p. n < p) (map position_of (version (suc n) history named)) (λ p m. let low = (known_low (suc n) history named p m).0 in omega (arith, low)))
  where
    at : (b : Bool) → Rise (map position_of (version (suc n) history named)) → AllByRecursion (λ p. n < p) (map position_of (version (suc n) history named)) → Rise (map position_of (cond b (record { position = n; parents = ps } ∷ version (suc n) history named) (version (suc n) history named)))
    at true rest above = (above, rest)
    at false rest above = rest

pub known_rises : (history : List (List ℕ)) (version : List ℕ) → IsStrictlyIncreasing (known_positions history version)
known_rises history version = increasing_of (known_positions history version) (known_rise 0 history version)

pub known_within : (history : List (List ℕ)) (version : List ℕ) → All (λ p. p < length history) (known_positions history version)
known_within history version =
    All-from_recursion (λ p. p < length history) (known_positions history version)
    (all_from (λ p. p < length history) (known_positions history version) (λ p m. let high = (known_low 0 history version p m).1 in omega (arith, high)))

-- the positions of a version are known in it
pub known_named : (history : List (List ℕ)) (version : List ℕ) (p : ℕ) → p < length history → is_named nat_eq version p ≡ true → is_known_at history version p ≡ true
known_named history version p l h =
    let here : Among p (map position_of (events_from 0 history)) = position_there 0 history p (omega arith) (omega (arith, l)) in
    let e = among_map position_of (events_from 0 history) p here in
    let named : is_named nat_eq version (position_of e.0) ≡ true = ap (is_named nat_eq version) (sym e.2) ∙ h in
    ap (is_known_at history version) e.2
    ∙ held_of position_of parents_of nat_eq nat_eq_equiv (version_of position_of parents_of nat_eq (events_from 0 history) version) e.0 (taken_named position_of parents_of nat_eq (events_from 0 history) version e.0 e.1 named)

-- a version depends on which positions are named, and not on how they are listed
pub known_alike : (history : List (List ℕ)) (version other : List ℕ) → ((p : ℕ) → p < length history → is_named nat_eq version p ≡ is_named nat_eq other p) → known_positions history version ≡ known_positions history other
known_alike history version other h =
    sym (walk_is history version)
    ∙ ap reverse (taken_agree (reverse history) (is_named nat_eq version) (is_named nat_eq other) (λ m l. h m (let same = length-reverse history in omega (arith, l, same))))
    ∙ walk_is history other

-- a later event changes no version of those before it
pub known_push : (history : List (List ℕ)) (parents version : List ℕ) → All (λ p. p < length history) version → known_positions (history ++ parents ∷ []) version ≡ known_positions history version
known_push history parents version h =
    let e : EventAt = record { position = length history; parents = parents } in
    ap (λ es. names_known position_of parents_of nat_eq es version) (events_push history parents)
    ∙ ap (map position_of) (version_before position_of parents_of nat_eq (events_from 0 history) (e ∷ []) version (low_named version (length history) (length history) h (omega arith), tt))

-- and knows, beside itself, what its parents know
pub known_of_last : (history : List (List ℕ)) (parents : List ℕ) → known_positions (history ++ parents ∷ []) (length history ∷ []) ≡ known_positions history parents ++ length history ∷ []
known_of_last history parents =
    let e : EventAt = record { position = length history; parents = parents } in
    let own : is_named nat_eq (length history ∷ []) (length history) ≡ true = or_left (nat_eq (length history) (length history)) false (nat_eq_equiv.refl (length history)) in
    let without : known_positions history (length history ∷ parents) ≡ known_positions history parents =
    known_alike history (length history ∷ parents) parents (λ p l. ap (λ b. b || is_named nat_eq parents p) (ne_eqb p (length history) (λ e. omega (arith, l, e)))) in
    ap (λ es. names_known position_of parents_of nat_eq es (length history ∷ [])) (events_push history parents)
    ∙ ap (map position_of) (version_of_last position_of parents_of nat_eq (events_from 0 history) e (length history ∷ []) own)
    ∙ map-append position_of (version_of position_of parents_of nat_eq (events_from 0 history) (length history ∷ parents)) (e ∷ [])
    ∙ ap (λ ps. ps ++ length history ∷ []) without
