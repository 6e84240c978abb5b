-- Whether positions are reduced, told by one walk from their parents.
use Rattle.std.proofs.Common.{◌≡◌, ℕ, ◌<◌, Bool, true, false, not, cond, ◌&&◌, ◌||◌, ◌⊎◌, inl, inr, ⊎_elim, nat_eq, List, [], ◌∷◌, ◌++◌, flat_map, length, reverse, All, refl, sym, ap, ◌∙◌, arith, ne_eqb}
use Rattle.std.specs.List.{list_any, list_all}
use Rattle.std.proofs.lemmas.Bool.{or_cases, or_left, or_right, eqb-true}
use Rattle.std.proofs.lemmas.Cmp.{nat_eq_equiv}
use Rattle.std.proofs.lemmas.List.Elements.{recursion_from_All}
use Rattle.ew_model.specs.Sets.{Among}
use Rattle.ew_model.specs.Graph.{is_named, version_of, names_known}
use Rattle.ew_model.specs.Positions.{parents_at, IsHistoryOfParents, events_from, known_positions, is_known_at, is_reduced_at}
use Rattle.ew_model.proofs.ListTests.{passes, pass_all, pass_alike, same_truth}
use Rattle.ew_model.proofs.SortingLaws.{all_at}
use Rattle.ew_model.proofs.GraphVersions.{PointBack, named-append, taken_named, taken_parent, taken_within}
use Rattle.ew_model.proofs.GraphOrder.{event_of, held_by, laid_point_back, order_laid_out}
use Rattle.ew_model.proofs.RisingLists.{number_among}
use Rattle.ew_model.proofs.PositionEvents.{position_of, parents_of, history_from, in_order}
use Rattle.ew_model.proofs.PositionWalk.{taken, taken_agree, walk_takes, walk_is, after_taking, turn, taken_none, taken_below}
use Rattle.ew_model.proofs.PositionSides.{any_reversed, not_taken}

-- A version of the names of two lists is what the versions of both have together.
module _ {E N : Type 0} (name : E → N) (parents : E → List N) (same : N → N → Bool) where
  abbrev known : List E → List N → N → Bool
  known events named x = is_named same (names_known name parents same events named) x

  known_join : (events : List E) (xs ys : List N) (x : N) → PointBack name parents same events → known events (xs ++ ys) x ≡ true → (known events xs x || known events ys x) ≡ true
  known_join events xs ys x back h =
      let version = version_of name parents same events in
      let e = event_of name parents same (version (xs ++ ys)) x h in
      let side = taken_within name parents same (λ z. Among z (version xs) ⊎ Among z (version ys)) events (xs ++ ys)
      (λ z m q. ⊎_elim (λ k. inl (taken_named name parents same events xs z m k)) (λ k. inr (taken_named name parents same events ys z m k)) (or_cases (is_named same xs (name z)) (is_named same ys (name z)) (sym (named-append name parents same xs ys (name z)) ∙ q)))
      (λ f z t m q. ⊎_elim (λ k. inl (taken_parent name parents same events xs z f back k m q)) (λ k. inr (taken_parent name parents same events ys z f back k m q)) t)
      e.0 e.1 in
      ⊎_elim
      (λ k. or_left (known events xs x) (known events ys x) (held_by name parents same (version xs) x e.0 k e.2))
      (λ k. or_right (known events xs x) (known events ys x) (held_by name parents same (version ys) x e.0 k e.2))
      side

  -- more names, more events
  known_more : (events : List E) (xs ys : List N) (x : N) → PointBack name parents same events → ((z : N) → is_named same xs z ≡ true → is_named same ys z ≡ true) → known events xs x ≡ true → known events ys x ≡ true
  known_more events xs ys x back f h =
      let version = version_of name parents same events in
      let e = event_of name parents same (version xs) x h in
      held_by name parents same (version ys) x e.0
      (taken_within name parents same (λ z. Among z (version ys)) events xs
      (λ z m q. taken_named name parents same events ys z m (f (name z) q))
      (λ g z t m q. taken_parent name parents same events ys z g back t m q)
      e.0 e.1)
      e.2

  pub known_both : (events : List E) (xs ys : List N) (x : N) → PointBack name parents same events → known events (xs ++ ys) x ≡ (known events xs x || known events ys x)
  known_both events xs ys x back =
      same_truth (known events (xs ++ ys) x) (known events xs x || known events ys x)
      (known_join events xs ys x back)
      (λ h. ⊎_elim
      (λ k. known_more events xs (xs ++ ys) x back (λ z q. named-append name parents same xs ys z ∙ or_left (is_named same xs z) (is_named same ys z) q) k)
      (λ k. known_more events ys (xs ++ ys) x back (λ z q. named-append name parents same xs ys z ∙ or_right (is_named same xs z) (is_named same ys z) q) k)
      (or_cases (known events xs x) (known events ys x) h))

pub positions_point_back : (history : List (List ℕ)) → IsHistoryOfParents history → PointBack position_of parents_of nat_eq (events_from 0 history)
positions_point_back history h =
    laid_point_back position_of parents_of nat_eq [] (events_from 0 history) (order_laid_out position_of parents_of nat_eq nat_eq_equiv [] (events_from 0 history) (in_order [] history (history_from history h)))

module _ (history : List (List ℕ)) (good : IsHistoryOfParents history) where
  pub known_joined : (xs ys : List ℕ) (p : ℕ) → is_known_at history (xs ++ ys) p ≡ (is_known_at history xs p || is_known_at history ys p)
  known_joined xs ys p = known_both position_of parents_of nat_eq (events_from 0 history) xs ys p (positions_point_back history good)

  pub known_parents : (positions : List ℕ) (p : ℕ) → is_known_at history (flat_map (parents_at history) positions) p ≡ list_any (λ q. is_known_at history (parents_at history q) p) positions
  known_parents [] p = ap (λ ps. is_named nat_eq ps p) (sym (walk_is history []) ∙ ap reverse (taken_none (reverse history) (is_named nat_eq []) (λ m l. refl)))
  known_parents (q ∷ positions) p =
      known_joined (parents_at history q) (flat_map (parents_at history) positions) p ∙ ap (λ b. is_known_at history (parents_at history q) p || b) (known_parents positions p)

  -- An event knows itself and what its parents know.
  pub known_of_one : (q p : ℕ) → q < length history → is_known_at history (q ∷ []) p ≡ (nat_eq p q || is_known_at history (parents_at history q) p)
  known_of_one q p l =
      let first = is_named nat_eq (q ∷ []) in
      let next = after_taking first (parents_at history q) q in
      let own : first q ≡ true = or_left (nat_eq q q) false (nat_eq_equiv.refl q) in
      let top : (m : ℕ) → q < m → first m ≡ false = λ m k. ap (λ b. b || false) (ne_eqb m q (λ e. omega (arith, k, e))) in
      let rest : taken (reverse history) next ≡ taken (reverse history) (is_named nat_eq (parents_at history q)) =
      taken_agree (reverse history) next (is_named nat_eq (parents_at history q)) (λ m k. (λ i. cond (nat_eq q m) false (nat_eq m q || false) || (own i && is_named nat_eq (parents_at history q) m)) ∙ gone m (nat_eq q m) refl) in
      let walk : taken (reverse history) first ≡ q ∷ taken (reverse history) (is_named nat_eq (parents_at history q)) =
      turn history good q l first next top (λ m. refl) ∙ ap (λ b. cond b (q ∷ taken (reverse history) next) (taken (reverse history) next)) own ∙ ap (λ ps. q ∷ ps) rest in
      sym (any_reversed (nat_eq p) (known_positions history (q ∷ [])))
      ∙ ap (λ ps. is_named nat_eq ps p) (sym (walk_takes history (q ∷ [])) ∙ walk)
      ∙ ap (λ b. nat_eq p q || b) (ap (λ ps. is_named nat_eq ps p) (walk_takes history (parents_at history q)) ∙ any_reversed (nat_eq p) (known_positions history (parents_at history q)))
    where
      gone : (m : ℕ) (b : Bool) → nat_eq q m ≡ b → (cond b false (nat_eq m q || false) || is_named nat_eq (parents_at history q) m) ≡ is_named nat_eq (parents_at history q) m
      gone m true e = refl
      gone m false e = ap (λ c. (c || false) || is_named nat_eq (parents_at history q) m) (nat_eq_equiv.symm m q ∙ e)

  -- and its parents don't know it
  pub not_known_above : (q : ℕ) → q < length history → is_known_at history (parents_at history q) q ≡ false
  not_known_above q l =
      sym (any_reversed (nat_eq q) (known_positions history (parents_at history q)))
      ∙ ap (λ ps. is_named nat_eq ps q) (sym (walk_takes history (parents_at history q)))
      ∙ not_taken history good (is_named nat_eq (parents_at history q)) q (λ m e. all_at (λ p. p < q) (parents_at history q) m (recursion_from_All (λ p. p < q) (parents_at history q) (good q l).lower) (number_among (parents_at history q) m e))

  -- No position is an ancestor of another where none is known by the parents of all.
  pub reduced_by_parents : (positions : List ℕ) → All (λ p. p < length history) positions
      → is_reduced_at history positions ≡ list_all (λ p. not (is_known_at history (flat_map (parents_at history) positions) p)) positions
  unfolding is_reduced_at
  reduced_by_parents positions within =
      let knows = λ (q p : ℕ). is_known_at history (parents_at history q) p in
      let low : (q : ℕ) → Among q positions → q < length history = λ q m. all_at (λ p. p < length history) positions q (recursion_from_All (λ p. p < length history) positions within) m in
      let one : (q p : ℕ) → Among q positions → (nat_eq q p || not (is_known_at history (q ∷ []) p)) ≡ not (knows q p) =
      λ q p m. ap (λ b. nat_eq q p || not b) (known_of_one q p (low q m)) ∙ either q p (nat_eq q p) refl (not_known_above q (low q m)) in
      pass_alike (λ q. list_all (λ p. nat_eq q p || not (is_known_at history (q ∷ []) p)) positions) (λ q. list_all (λ p. not (knows q p)) positions) positions
      (λ q m. pass_alike (λ p. nat_eq q p || not (is_known_at history (q ∷ []) p)) (λ p. not (knows q p)) positions (λ p k. one q p m))
      ∙ same_truth (list_all (λ q. list_all (λ p. not (knows q p)) positions) positions) (list_all (λ p. list_all (λ q. not (knows q p)) positions) positions)
      (λ h. pass_all (λ p. list_all (λ q. not (knows q p)) positions) positions (λ p m. pass_all (λ q. not (knows q p)) positions (λ q k. passes (λ p. not (knows q p)) positions p (passes (λ q. list_all (λ p. not (knows q p)) positions) positions q h k) m)))
      (λ h. pass_all (λ q. list_all (λ p. not (knows q p)) positions) positions (λ q m. pass_all (λ p. not (knows q p)) positions (λ p k. passes (λ q. not (knows q p)) positions q (passes (λ p. list_all (λ q. not (knows q p)) positions) positions p h k) m)))
      ∙ pass_alike (λ p. list_all (λ q. not (knows q p)) positions) (λ p. not (is_known_at history (flat_map (parents_at history) positions) p)) positions
      (λ p m. none_of (λ q. knows q p) positions ∙ ap not (sym (known_parents positions p)))
    where
      none_of : (p : ℕ → Bool) (xs : List ℕ) → list_all (λ x. not (p x)) xs ≡ not (list_any p xs)
      none_of p [] = refl
      none_of p (x ∷ xs) = ap (λ b. not (p x) && b) (none_of p xs) ∙ both (p x) (list_any p xs)
        where
          both : (a b : Bool) → (not a && not b) ≡ not (a || b)
          both true b = refl
          both false b = refl

      either : (q p : ℕ) (b : Bool) → nat_eq q p ≡ b → is_known_at history (parents_at history q) q ≡ false → (b || not (nat_eq p q || is_known_at history (parents_at history q) p)) ≡ not (is_known_at history (parents_at history q) p)
      either q p true e none = sym (ap (λ r. not (is_known_at history (parents_at history q) r)) (sym (eqb-true q p e)) ∙ ap not none)
      either q p false e none = ap (λ b. not (b || is_known_at history (parents_at history q) p)) (nat_eq_equiv.symm p q ∙ e)

  -- Whether the version has a position: whether that one is still pending when the walk has come down to it.
  pub pending_is_known : (S : ℕ → Bool) (q : ℕ) → q < length history → ((m : ℕ) → q < m → S m ≡ false) → is_named nat_eq (taken (reverse history) S) q ≡ S q
  pending_is_known S q l top = ap (λ ps. is_named nat_eq ps q) (turn history good q l S next top (λ m. refl)) ∙ at (S q)
    where
      next : ℕ → Bool
      next m = after_taking S (parents_at history q) q m

      none : is_named nat_eq (taken (reverse history) next) q ≡ false
      none = not_taken history good next q (taken_below history good q l S next top (λ m. refl))

      at : (b : Bool) → is_named nat_eq (cond b (q ∷ taken (reverse history) next) (taken (reverse history) next)) q ≡ b
      at true = or_left (nat_eq q q) (is_named nat_eq (taken (reverse history) next) q) (nat_eq_equiv.refl q)
      at false = none
