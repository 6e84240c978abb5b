-- An event behind a critical cut knows all events below it.
use Rattle.std.proofs.Common.{◌≡◌, ℕ, zero, suc, ◌+◌, ◌<◌, ◌≤◌, Bool, true, false, ◌||◌, not, inl, inr, ⊎_elim, nat_eq, nat_le, List, [], ◌∷◌, All, flat_map, length, map, take, drop, refl, sym, ap, ◌∙◌, subst, arith}
use Rattle.std.specs.List.{list_all}
use Rattle.std.proofs.lemmas.Bool.{and_parts, false_from_ne_true, true≢false}
use Rattle.std.proofs.lemmas.List.{length-take-le}
use Rattle.std.proofs.lemmas.List.Elements.{recursion_from_All}
use Rattle.ew_model.specs.Graph.{are_named, is_named, names_known}
use Rattle.ew_model.specs.Positions.{EventAt, IsHistoryOfParents, events_from, is_cut_at, is_known_at, is_reduced_at, parents_at}
use Rattle.ew_model.specs.Sets.{Among}
use Rattle.ew_model.proofs.ListTests.{any_from, passes}
use Rattle.ew_model.proofs.PositionEvents.{position_of, parents_of, position_there, take-events_from}
use Rattle.ew_model.proofs.SortingLaws.{all_at}
use Rattle.ew_model.proofs.PositionReduced.{known_joined, known_of_one, known_parents, reduced_by_parents}

abbrev event_at : ℕ → List ℕ → EventAt
event_at position parents = record { position = position; parents = parents }

-- the event at a position stands among those from an earlier one on
there : (n k q : ℕ) (xs : List (List ℕ)) → k ≤ q → q < length xs → Among (event_at (n + q) (parents_at xs q)) (drop k (events_from n xs))
there n k q [] l h = absurd (omega (arith, h))
there n zero zero (x ∷ xs) l h = let e : n + 0 ≡ n = omega arith in inl (ap (λ m. event_at m x) e)
there n zero (suc q) (x ∷ xs) l h =
    let e : suc n + q ≡ n + suc q = omega arith in
    inr (subst (λ m. Among (event_at m (parents_at xs q)) (events_from (suc n) xs)) e (there (suc n) zero q xs (omega arith) (omega (arith, h))))
there n (suc k) zero (x ∷ xs) l h = absurd (omega (arith, l))
there n (suc k) (suc q) (x ∷ xs) l h =
    let e : suc n + q ≡ n + suc q = omega arith in
    subst (λ m. Among (event_at m (parents_at xs q)) (drop k (events_from (suc n) xs))) e (there (suc n) k q xs (omega (arith, l)) (omega (arith, h)))

module _ (history : List (List ℕ)) (good : IsHistoryOfParents history) where
  by_parents : (cut p q : ℕ) → is_cut_at history cut ≡ true → p < cut → cut ≤ q → q < length history → is_known_at history (parents_at history q) p ≡ true
  unfolding is_cut_at
  by_parents cut p q critical low behind within =
      let all = events_from 0 history in
      let test = λ (e : EventAt). are_named nat_eq (names_known position_of parents_of nat_eq all e.parents) (map position_of (take cut all)) in
      let tested : list_all test (drop cut all) ≡ true = (and_parts (nat_le cut (length all)) (list_all test (drop cut all)) critical).1 in
      let one : test (event_at (0 + q) (parents_at history q)) ≡ true = passes test (drop cut all) (event_at (0 + q) (parents_at history q)) tested (there 0 cut q history behind within) in
      let long : length (take cut history) ≡ cut = length-take-le cut history (omega (arith, behind, within)) in
      passes (is_named nat_eq (names_known position_of parents_of nat_eq all (parents_at history q))) (map position_of (take cut all)) p one
      (subst (λ es. Among p (map position_of es)) (sym (take-events_from cut 0 history)) (position_there 0 (take cut history) p (omega arith) (omega (arith, long, low))))

  by_one : (q p : ℕ) → q < length history → is_known_at history (parents_at history q) p ≡ true → is_known_at history (q ∷ []) p ≡ true
  by_one q p within known = known_of_one history good q p within ∙ ap (λ b. nat_eq p q || b) known ∙ or_true (nat_eq p q)
    where
      or_true : (b : Bool) → (b || true) ≡ true
      or_true true = refl
      or_true false = refl

  by_version : (version : List ℕ) (q p : ℕ) → Among q version → is_known_at history (q ∷ []) p ≡ true → is_known_at history version p ≡ true
  by_version [] q p m known = absurd m
  by_version (x ∷ rest) q p m known =
      known_joined history good (x ∷ []) rest p
      ∙ ⊎_elim (λ e. first (is_known_at history (x ∷ []) p) (is_known_at history rest p) (ap (λ z. is_known_at history (z ∷ []) p) (sym e) ∙ known))
      (λ k. second (is_known_at history (x ∷ []) p) (is_known_at history rest p) (by_version rest q p k known)) m
    where
      first : (a b : Bool) → a ≡ true → (a || b) ≡ true
      first true b e = refl
      first false b e = let no : ⊥ = cc in absurd no

      second : (a b : Bool) → b ≡ true → (a || b) ≡ true
      second true b e = refl
      second false b e = e

  -- those behind a critical cut know all below it
  pub known_below : (version : List ℕ) (cut p q : ℕ) → is_cut_at history cut ≡ true → p < cut → cut ≤ q → q < length history → Among q version → is_known_at history version p ≡ true
  known_below version cut p q critical low behind within m = by_version version q p m (by_one q p within (by_parents cut p q critical low behind within))

  -- and none of them is reduced with one of these
  pub not_reduced : (positions : List ℕ) (cut p q : ℕ) → All (λ r. r < length history) positions → is_cut_at history cut ≡ true → p < cut → cut ≤ q → Among p positions → Among q positions → is_reduced_at history positions ≡ false
  not_reduced positions cut p q all critical low behind first last =
      let within : q < length history = all_at (λ r. r < length history) positions q (recursion_from_All (λ r. r < length history) positions all) last in
      let known = known_parents history good positions p ∙ any_from (λ r. is_known_at history (parents_at history r) p) positions q last (by_parents cut p q critical low behind within) in
      reduced_by_parents history good positions all
      ∙ false_from_ne_true (list_all (λ r. not (is_known_at history (flat_map (parents_at history) positions) r)) positions)
      (λ h. true≢false (sym (passes (λ r. not (is_known_at history (flat_map (parents_at history) positions) r)) positions p h first) ∙ ap not known))
