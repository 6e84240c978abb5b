-- How the touches of a walk add up.
use Rattle.std.proofs.Common.{◌≡◌, ℕ, ◌+◌, ◌<◌, ◌≤◌, nat_le, Bool, true, false, not, cond, ◌||◌, inl, inr, ⊎_elim, List, [], ◌∷◌, ◌++◌, length, take, drop, filter, refl, sym, ap, ◌∙◌, subst, arith, append_assoc, append-nil}
use Rattle.std.proofs.lemmas.Bool.{or_left, or_cases, leb-true, leb-false}
use Rattle.std.proofs.lemmas.List.{take-append-drop, take-append-le, drop-append-le, drop_all}
use Rattle.ew_model.specs.declared.id.Id.{Id}
use Rattle.ew_model.specs.declared.event.Event.{Event}
use Rattle.ew_model.specs.Sets.{Among}
use Rattle.ew_model.specs.Ids.{id_eq, is_among}
use Rattle.ew_model.specs.Ancestors.{ids_of, is_held, version_events, ancestors}
use Rattle.ew_model.specs.Verdicts.{IsGood}
use Rattle.ew_model.specs.Cuts.{are_among}
use Rattle.ew_model.specs.Touches.{number_outside, difference, touches_after, touches}
use Rattle.ew_model.specs.TouchLaws.{prepared_after, prepared_from, EachKnowsAll, TouchesAdd}
use Rattle.ew_model.proofs.AncestorLaws.{version_events_before}
use Rattle.ew_model.proofs.SetLaws.{joined_right}
use Rattle.std.proofs.lemmas.Map.Steps.{list_any_congr}
use Rattle.ew_model.proofs.VersionLaws.{found_by, version_named}
use Rattle.ew_model.proofs.KeptLaws.{held_joined}
use Rattle.ew_model.proofs.OperationLaws.{laid_part}
use Rattle.ew_model.proofs.EntryLaws.{LaidOut, ancestors_held, points_back}
use Rattle.ew_model.proofs.ClearingLaw.{laid_rest}
use Rattle.ew_model.proofs.GoodLaws.{good_laid_out}
use Rattle.ew_model.proofs.CoverLaws.{ids_alike, same_truth, passes, among_here, ids_within, held_by, taken_below}

touches_on : (history : List Event) (prepared : List Id) (xs ys : List Event) → touches_after history prepared (xs ++ ys) ≡ touches_after history prepared xs + touches_after (history ++ xs) (prepared_after history prepared xs) ys
touches_on history prepared [] ys = ap (λ h. touches_after h prepared ys) (sym (append-nil history)) ∙ omega arith
touches_on history prepared (e ∷ xs) ys =
    let next = history ++ e ∷ [] in
    let now = ancestors next (e.id ∷ []) in
    let first = 1 + difference prepared (ancestors history e.parents) in
    let ih : touches_after next now (xs ++ ys) ≡ touches_after next now xs + touches_after (next ++ xs) (prepared_after next now xs) ys = touches_on next now xs ys in
    let place : touches_after (next ++ xs) (prepared_after next now xs) ys ≡ touches_after (history ++ e ∷ xs) (prepared_after next now xs) ys = ap (λ h. touches_after h (prepared_after next now xs) ys) (append_assoc history (e ∷ []) xs) in
    ap (λ n. first + n) (ih ∙ ap (λ n. touches_after next now xs + n) place) ∙ omega arith

touches_append : (history later : List Event) (k : ℕ) → k ≤ length history → touches (history ++ later) k ≡ touches history k + touches_after history (prepared_from history k) later
unfolding touches
touches_append history later k h =
    let below = take k history in
    let front : take k (history ++ later) ≡ below = take-append-le k history later h in
    let rest : drop k (history ++ later) ≡ drop k history ++ later = drop-append-le k history later h in
    (λ i. touches_after (front i) (ids_of (front i)) (rest i))
    ∙ touches_on below (ids_of below) (drop k history) later
    ∙ ap (λ w. touches_after below (ids_of below) (drop k history) + touches_after w (prepared_from history k) later) (take-append-drop k history)

no_touches : (history : List Event) (k : ℕ) → length history ≤ k → touches history k ≡ 0
unfolding touches
no_touches history k h = ap (touches_after (take k history) (ids_of (take k history))) (drop_all k history h)

touches_grow : (history later : List Event) (k : ℕ) → touches history k ≤ touches (history ++ later) k
touches_grow history later k = at (nat_le k (length history)) refl
  where
    at : (b : Bool) → nat_le k (length history) ≡ b → touches history k ≤ touches (history ++ later) k
    at true q = omega (arith, touches_append history later k (leb-true k (length history) q))
    at false q = omega (arith, no_touches history k (let far : length history < k = leb-false k (length history) q in omega (arith, far)))

each_after : (history : List Event) (prepared : List Id) (events : List Event) → length events ≤ touches_after history prepared events
each_after history prepared [] = omega arith
each_after history prepared (e ∷ events) = omega (arith, each_after (history ++ e ∷ []) (ancestors (history ++ e ∷ []) (e.id ∷ [])) events)

touches_each : (history : List Event) (k : ℕ) → length (drop k history) ≤ touches history k
unfolding touches
touches_each history k = each_after (take k history) (ids_of (take k history)) (drop k history)

-- what is among the others isn't outside
none_outside : (others ids : List Id) → ((x : Id) → Among x ids → is_among others x ≡ true) → number_outside others ids ≡ 0
none_outside others [] f = refl
none_outside others (x ∷ ids) f = ap (λ b. length (cond (not b) (x ∷ filter (λ x. not (is_among others x)) ids) (filter (λ x. not (is_among others x)) ids))) (f x (inl refl)) ∙ none_outside others ids (λ y m. f y (inr m))

-- lists of the same ids don't differ
pub no_difference : (xs ys : List Id) → ((x : Id) → is_among xs x ≡ true → is_among ys x ≡ true) → ((x : Id) → is_among ys x ≡ true → is_among xs x ≡ true) → difference xs ys ≡ 0
no_difference xs ys f g = λ i. none_outside ys xs (λ x m. f x (among_here xs x m)) i + none_outside xs ys (λ x m. g x (among_here ys x m)) i

among_all : (others ids : List Id) → are_among others ids ≡ true → (x : Id) → is_among ids x ≡ true → is_among others x ≡ true
among_all others ids h x m = let y = found_by (id_eq x) ids m in list_any_congr ids_alike x y.0 others y.2 ∙ passes (is_among others) ids y.0 h y.1

-- the version of an event that knows all before it has all up to it
own_version : (history : List Event) (e : Event) → LaidOut [] (history ++ e ∷ []) → ((x : Id) → is_held history x ≡ true → is_among (ancestors history e.parents) x ≡ true) → (x : Id) → is_among (ancestors (history ++ e ∷ []) (e.id ∷ [])) x ≡ is_held (history ++ e ∷ []) x
own_version history e laid knows x =
    let whole = history ++ e ∷ [] in
    let back = points_back [] whole laid in
    let last : LaidOut history (e ∷ []) = laid_rest [] history (e ∷ []) laid in
    let here : Among e (version_events whole (e.id ∷ [])) = version_named whole (e.id ∷ []) e (joined_right history (e ∷ []) e (inl refl)) (or_left (id_eq e.id e.id) false (ids_alike.refl e.id)) in
    let older : version_events whole e.parents ≡ version_events history e.parents = version_events_before history (e ∷ []) e.parents (last.1.0, tt) in
    same_truth (is_among (ancestors whole (e.id ∷ [])) x) (is_held whole x)
    (ancestors_held whole (e.id ∷ []) x)
    (λ m. ⊎_elim
    (λ h. ids_within (version_events whole e.parents) (version_events whole (e.id ∷ [])) (taken_below whole (e.id ∷ []) e back here) x (ap (λ (vs : List Event). is_among (ids_of vs) x) older ∙ knows x h))
    (λ h. held_by (version_events whole (e.id ∷ [])) x e here (alone (id_eq x e.id) h))
    (or_cases (is_held history x) (is_held (e ∷ []) x) (sym (held_joined history (e ∷ []) x) ∙ m)))
  where
    alone : (b : Bool) → (b || false) ≡ true → b ≡ true
    alone true e = refl
    alone false e = e

once_after : (history : List Event) (prepared : List Id) (events : List Event) → LaidOut [] (history ++ events) → ((x : Id) → is_among prepared x ≡ is_held history x) → EachKnowsAll history events → touches_after history prepared events ≡ length events
once_after history prepared [] laid p h = refl
once_after history prepared (e ∷ events) laid p h =
    let next = history ++ e ∷ [] in
    let knows : (x : Id) → is_held history x ≡ true → is_among (ancestors history e.parents) x ≡ true = among_all (ancestors history e.parents) (ids_of history) h.0 in
    let same : difference prepared (ancestors history e.parents) ≡ 0 =
    no_difference prepared (ancestors history e.parents) (λ x m. knows x (sym (p x) ∙ m)) (λ x m. p x ∙ ancestors_held history e.parents x m) in
    let joined : LaidOut [] (next ++ events) = subst (LaidOut []) (sym (append_assoc history (e ∷ []) events)) laid in
    let more : touches_after next (ancestors next (e.id ∷ [])) events ≡ length events = once_after next (ancestors next (e.id ∷ [])) events joined (own_version history e (laid_part [] next events joined) knows) h.1 in
    (λ i. 1 + same i + more i) ∙ omega arith

touches_once : (history : List Event) (k : ℕ) → IsGood history → EachKnowsAll (take k history) (drop k history) → touches history k ≡ length (drop k history)
unfolding touches
touches_once history k good h =
    let laid : LaidOut [] (take k history ++ drop k history) = subst (LaidOut []) (sym (take-append-drop k history)) (good_laid_out history good) in
    once_after (take k history) (ids_of (take k history)) (drop k history) laid (λ x. refl) h

-- The law of touches.
pub touches_add : TouchesAdd
touches_add = record { append = touches_append; grow = touches_grow; each = touches_each; once = touches_once }
