-- Which cuts stop being critical when an event is appended, by positions alone.
use Rattle.std.proofs.Common.{◌≡◌, ℕ, zero, suc, ◌+◌, ◌-◌, ◌<◌, ◌≤◌, true, false, ◌&&◌, ◌⊎◌, inl, inr, nat_eq, List, [], ◌∷◌, ◌++◌, length, take, Some, refl, sym, ap, ◌∙◌, subst, arith, length-append}
use Rattle.std.specs.Prelude.{slice_get}
use Rattle.std.specs.Option.{option_map_or}
use Rattle.std.proofs.lemmas.Bool.{false_from_ne_true}
use Rattle.std.proofs.lemmas.Cmp.{nat_eq_equiv}
use Rattle.std.proofs.lemmas.List.Elements.{recursion_from_All}
use Rattle.ew_model.specs.Sets.{Among}
use Rattle.ew_model.specs.Graph.{is_named, is_cut}
use Rattle.ew_model.specs.CutChange.{AreInOrder, stays_behind, past_last, are_childless}
use Rattle.ew_model.specs.Positions.{AreParents, IsHistoryOfParents, EventAt, events_from, frontier_of, is_reduced_at, is_cut_at}
use Rattle.ew_model.specs.PositionCuts.{past_parents, is_frontier, CutsStepAt}
use Rattle.ew_model.proofs.SortingLaws.{all_at, all_from}
use Rattle.ew_model.proofs.GraphVersions.{AreUnnamed}
use Rattle.ew_model.proofs.GraphCuts.{top_is, top_nothing, top_within, cut_at_start, cut_at_end, cuts_follow}
use Rattle.ew_model.proofs.CutNumbers.{cuts_change}
use Rattle.ew_model.proofs.RisingLists.{Rise, rise_of, below_last, number_among, among_named, named_both}
use Rattle.ew_model.proofs.PositionEvents.{position_of, parents_of, events_from-append, length-events_from, take-events_from, events_push, position_low, frontier_rises, history_from, history_push, in_order}

-- a list that isn't empty has a last element
pub last_cases : {X : Type 0} (xs : List X) → (xs ≡ []) ⊎ ((front : List X) × (x : X) × (xs ≡ front ++ x ∷ []))
last_cases [] = inl refl
last_cases (x ∷ xs) = at (last_cases xs)
  where
    at : (xs ≡ []) ⊎ ((front : List _) × (y : _) × (xs ≡ front ++ y ∷ [])) → (x ∷ xs ≡ []) ⊎ ((front : List _) × (y : _) × (x ∷ xs ≡ front ++ y ∷ []))
    at (inl none) = inr ([], x, ap (λ ys. x ∷ ys) none)
    at (inr more) = inr (x ∷ more.0, more.1, ap (λ ys. x ∷ ys) more.2)

pub last_at : {X : Type 0} (front : List X) (x : X) → slice_get (front ++ x ∷ []) (length front) ≡ Some x
last_at [] x = refl
last_at (y ∷ front) x = last_at front x

-- a list in two parts at a place
pub split_at : {X : Type 0} (xs : List X) (p : ℕ) → p < length xs → (front : List X) × (x : X) × (rest : List X) × (xs ≡ front ++ x ∷ rest) × (length front ≡ p)
split_at [] p h = absurd (omega (arith, h))
split_at (x ∷ xs) zero h = ([], x, xs, refl, refl)
split_at (x ∷ xs) (suc p) h = let more = split_at xs p (omega (arith, h)) in (x ∷ more.0, more.1, more.2, ap (λ ys. x ∷ ys) more.3, ap suc more.4)

pub past_of_last : (front : List ℕ) (p : ℕ) → past_parents (front ++ p ∷ []) ≡ suc p
past_of_last front p =
    let at : length (front ++ p ∷ []) - 1 ≡ length front = omega (arith, length-append front (p ∷ [])) in
    ap (λ i. option_map_or (λ q. suc q) (slice_get (front ++ p ∷ []) i) 0) at ∙ ap (λ o. option_map_or (λ q. suc q) o 0) (last_at front p)

-- how far rising parents reach
reach_of_last : (history : List (List ℕ)) (front : List ℕ) (p : ℕ) → Rise (front ++ p ∷ []) → p < length history → past_last position_of parents_of nat_eq (events_from 0 history) (front ++ p ∷ []) ≡ suc p
reach_of_last history front p rise l =
    let parents = front ++ p ∷ [] in
    let s = split_at history p l in
    let m : ℕ = 0 + length s.0 in
    let here : m ≡ p = let e = s.4 in omega (arith, e) in
    let g : EventAt = record { position = m; parents = s.1 } in
    let rest = events_from (suc m) s.2 in
    let whole : events_from 0 history ≡ events_from 0 s.0 ++ g ∷ rest = ap (events_from 0) s.3 ∙ events_from-append 0 s.0 (s.1 ∷ s.2) in
    let named : is_named nat_eq parents m ≡ true = among_named parents m (subst (λ n. Among n parents) (sym here) (last_number front)) in
    let none : AreUnnamed position_of parents_of nat_eq rest parents =
    all_from (λ e. is_named nat_eq parents (position_of e) ≡ false) rest (λ e k. false_from_ne_true (is_named nat_eq parents e.position) (λ q.
    let low : e.position ≤ p = below_last front p rise e.position (number_among parents e.position q) in
    let high : suc m ≤ e.position = position_low (suc m) s.2 e k in
    omega (arith, low, high, here))) in
    ap (λ es. past_last position_of parents_of nat_eq es parents) whole
    ∙ top_is position_of parents_of nat_eq (events_from 0 s.0) g rest parents named none
    ∙ ap suc (length-events_from 0 s.0 ∙ s.4)
  where
    last_number : (xs : List ℕ) → Among p (xs ++ p ∷ [])
    last_number [] = inl refl
    last_number (x ∷ xs) = inr (last_number xs)

pub reach_is_past : (history : List (List ℕ)) (parents : List ℕ) → AreParents (length history) parents → past_last position_of parents_of nat_eq (events_from 0 history) parents ≡ past_parents parents
reach_is_past history parents h = at (last_cases parents)
  where
    nothing : past_last position_of parents_of nat_eq (events_from 0 history) [] ≡ 0
    nothing = top_nothing position_of parents_of nat_eq (events_from 0 history) [] (all_from (λ e. is_named nat_eq [] (position_of e) ≡ false) (events_from 0 history) (λ e m. refl))

    last_number : (xs : List ℕ) (p : ℕ) → Among p (xs ++ p ∷ [])
    last_number [] p = inl refl
    last_number (x ∷ xs) p = inr (last_number xs p)

    at : (parents ≡ []) ⊎ ((front : List ℕ) × (p : ℕ) × (parents ≡ front ++ p ∷ [])) → past_last position_of parents_of nat_eq (events_from 0 history) parents ≡ past_parents parents
    at (inl none) = ap (past_last position_of parents_of nat_eq (events_from 0 history)) none ∙ nothing ∙ sym (ap past_parents none)
    at (inr more) =
        let low : more.1 < length history = all_at (λ q. q < length history) parents more.1 (recursion_from_All (λ q. q < length history) parents h.lower) (subst (Among more.1) (sym more.2) (last_number more.0 more.1)) in
        ap (past_last position_of parents_of nat_eq (events_from 0 history)) more.2
        ∙ reach_of_last history more.0 more.1 (subst Rise more.2 (rise_of parents h.rising)) low
        ∙ sym (ap past_parents more.2 ∙ past_of_last more.0 more.1)

pub past_within : (history : List (List ℕ)) (parents : List ℕ) → AreParents (length history) parents → past_parents parents ≤ length history
past_within history parents h =
    let past_last_parent = top_within position_of parents_of nat_eq (events_from 0 history) parents in
    let past = reach_is_past history parents h in
    let long = length-events_from 0 history in
    omega (arith, past_last_parent, past, long)

-- rising positions are all heads, and no others, where they are the frontier
pub heads_are_frontier : (history : List (List ℕ)) (positions : List ℕ) → Rise positions → are_childless position_of parents_of nat_eq (events_from 0 history) positions ≡ is_frontier history positions
heads_are_frontier history positions h = named_both positions (frontier_of history) h (rise_of (frontier_of history) (frontier_rises history))

pub cut_at_0 : (history : List (List ℕ)) → is_cut_at history 0 ≡ true
unfolding is_cut_at
cut_at_0 history = cut_at_start position_of parents_of nat_eq (events_from 0 history)

pub cut_at_length : (history : List (List ℕ)) → is_cut_at history (length history) ≡ true
unfolding is_cut_at
cut_at_length history = ap (is_cut position_of parents_of nat_eq (events_from 0 history)) (sym (length-events_from 0 history)) ∙ cut_at_end position_of parents_of nat_eq (events_from 0 history)

-- the rule for one cut
pub cut_step_at : (history : List (List ℕ)) (parents : List ℕ) (k : ℕ) → IsHistoryOfParents history → AreParents (length history) parents → is_reduced_at history parents ≡ true → k ≤ length history
    → is_cut_at (history ++ parents ∷ []) k ≡ (is_cut_at history k && stays_behind (past_parents parents) (is_frontier (take (past_parents parents) history) parents) k)
unfolding is_cut_at is_reduced_at
cut_step_at history parents k h p reduced l =
    let events = events_from 0 history in
    let e : EventAt = record { position = length history; parents = parents } in
    let whole : events_from 0 (history ++ parents ∷ []) ≡ events ++ e ∷ [] = events_push history parents in
    let order : AreInOrder position_of parents_of nat_eq [] (events ++ e ∷ []) =
    subst (AreInOrder position_of parents_of nat_eq []) whole (in_order [] (history ++ parents ∷ []) (history_from (history ++ parents ∷ []) (history_push history parents h p))) in
    let rule = cuts_follow position_of parents_of nat_eq nat_eq_equiv events e order reduced in
    let past : past_last position_of parents_of nat_eq events parents ≡ past_parents parents = reach_is_past history parents p in
    let heads : are_childless position_of parents_of nat_eq (take (past_last position_of parents_of nat_eq events parents) events) parents ≡ is_frontier (take (past_parents parents) history) parents =
    ap (λ t. are_childless position_of parents_of nat_eq (take t events) parents) past
    ∙ ap (λ es. are_childless position_of parents_of nat_eq es parents) (take-events_from (past_parents parents) 0 history)
    ∙ heads_are_frontier (take (past_parents parents) history) parents (rise_of parents p.rising) in
    let long = length-events_from 0 history in
    ap (λ es. is_cut position_of parents_of nat_eq es k) whole
    ∙ rule.old k (omega (arith, l, long))
    ∙ (λ i. is_cut position_of parents_of nat_eq events k && stays_behind (past i) (heads i) k)

-- The law of cuts, by positions.
pub cuts_step_at : CutsStepAt
cuts_step_at history parents h p reduced =
    cuts_change is_cut_at history parents (past_parents parents) _ (past_within history parents p) cut_at_0 cut_at_length (λ k l. cut_step_at history parents k h p reduced l)
