-- The events at some positions of a graph, one at a place.
use Rattle.std.proofs.Common.{◌≡◌, ◌∙◌, ℕ, zero, suc, ◌+◌, ◌<◌, ◌≤◌, ◌++◌, true, false, nat_lt, get_or, List, [], ◌∷◌, drop, length, slice_get, Option, Some, None, refl, sym, ap, arith, All}
use Rattle.std.specs.List.{AllByRecursion, ItemBy}
use Rattle.std.specs.Option.{option_to_list}
use Rattle.std.proofs.lemmas.Bool.{lt-ltb, ltb-false}
use Rattle.std.proofs.lemmas.List.{get_or_past, get_or_read}
use Rattle.std.proofs.lemmas.List.Elements.{recursion_from_All}
use Rattle.std.proofs.lemmas.Option.{get_or_from_slice_get, slice_get_read, slice_get_within}
use Rattle.ew_model.specs.declared.event.Event.{Event}
use Rattle.event_graph.specs.Subgraphs.{events_at}
use Rattle.replica.specs.Offering.{StandAt}

-- an event stands at each position within
stands : (history : List Event) (p : ℕ) → p < length history → (e : Event) × (slice_get history p ≡ Some e)
stands [] p within = absurd (omega (arith, within))
stands (e ∷ history) zero within = (e, refl)
stands (e ∷ history) (suc p) within = stands history p (omega (arith, within))

one_more : (history : List Event) (p : ℕ) (positions : List ℕ) (e : Event) → slice_get history p ≡ Some e → events_at history (p ∷ positions) ≡ e ∷ events_at history positions
one_more history p positions e here = ap (λ (o : Option Event). option_to_list o ++ events_at history positions) here

as_many : (history : List Event) (positions : List ℕ) → AllByRecursion (λ p. p < length history) positions → length (events_at history positions) ≡ length positions
as_many history [] within = refl
as_many history (p ∷ positions) within =
    let e = stands history p within.0 in
    ap (length {A = Event}) (one_more history p positions e.0 e.1) ∙ ap suc (as_many history positions within.1)

same_place : (history : List Event) (positions : List ℕ) (place p : ℕ) (e : Event) → AllByRecursion (λ q. q < length history) positions → slice_get positions place ≡ Some p → slice_get history p ≡ Some e
    → slice_get (events_at history positions) place ≡ Some e
same_place history [] place p e within there here = absurd (none_is_some there)
  where
    none_is_some : {A : Type 0} {x : A} → None ≡ Some x → ⊥
    none_is_some h = cc
same_place history (q ∷ positions) zero p e within there here = ap (λ (es : List Event). slice_get es 0) (one_more history q positions e (ap (slice_get history) (some_same there) ∙ here))
  where
    some_same : {A : Type 0} {x y : A} → Some x ≡ Some y → x ≡ y
    some_same h = cc
same_place history (q ∷ positions) (suc place) p e within there here =
    let f = stands history q within.0 in
    ap (λ (es : List Event). slice_get es (suc place)) (one_more history q positions f.0 f.1) ∙ same_place history positions place p e within.1 there here

-- there are as many as positions
pub as_many_events : (history : List Event) (positions : List ℕ) → All (λ p. p < length history) positions → length (events_at history positions) ≡ length positions
as_many_events history positions within = as_many history positions (recursion_from_All (λ p. p < length history) positions within)

-- nothing stands behind a list
nothing_behind : {R : Type 0} (now : R → Event) (events : List Event) (place : ℕ) → false ≡ nat_lt place (length events) → ItemBy now events place place None
nothing_behind now events place past =
    let beyond = ltb-false place (length events) (sym past) in (past, tt, λ h. past ∙ lt-ltb place (length events) h, beyond, λ le d. sym (get_or_past events place d beyond))

-- an event of a list
one_inside : {R : Type 0} (now : R → Event) (events : List Event) (place : ℕ) (r : R) → true ≡ nat_lt place (length events) → place < length events → now r ≡ get_or events place (now r) → ItemBy now events place place (Some r)
one_inside now events place r inside less read = (inside, read, λ h. refl, (less, λ d. get_or_read events place (now r) less read d), λ le d. get_or_read events place (now r) less read d)

-- nothing stands behind them
pub none_there : {R : Type 0} (now : R → Event) (history : List Event) (positions : List ℕ) (place : ℕ) → All (λ p. p < length history) positions → false ≡ nat_lt place (length positions) → ItemBy now (events_at history positions) place place None
none_there now history positions place within past =
    nothing_behind now (events_at history positions) place (past ∙ ap (nat_lt place) (sym (as_many_events history positions within)))

-- the event at a place is that at the position there
pub placed_there : (history : List Event) (positions : List ℕ) (place p : ℕ) (e : Event) → All (λ q. q < length history) positions → place < length positions → p ≡ get_or positions place p → slice_get history p ≡ Some e
    → slice_get (events_at history positions) place ≡ Some e
placed_there history positions place p e within less read here = same_place history positions place p e (recursion_from_All (λ q. q < length history) positions within) (slice_get_read positions (length positions) place p refl less read) here

-- and so it is told
pub event_there : {R : Type 0} (now : R → Event) (history : List Event) (positions : List ℕ) (place p : ℕ) (r : R) → All (λ q. q < length history) positions → true ≡ nat_lt place (length positions) → place < length positions → p ≡ get_or positions place p
    → slice_get history p ≡ Some (now r) → ItemBy now (events_at history positions) place place (Some r)
event_there now history positions place p r within inside less read here =
    let many = as_many_events history positions within in
    one_inside now (events_at history positions) place r (inside ∙ ap (nat_lt place) (sym many)) (omega (arith, less, many))
    (sym (get_or_from_slice_get (events_at history positions) place (now r) (now r) (placed_there history positions place p (now r) within less read here)))

-- what stands behind a place
behind_place : (place k : ℕ) (xs : List ℕ) → slice_get (drop place xs) k ≡ slice_get xs (place + k)
behind_place zero k xs = let on : k ≡ zero + k = omega arith in ap (slice_get xs) on
behind_place (suc place) k [] = refl
behind_place (suc place) k (x ∷ xs) = let on : suc (place + k) ≡ suc place + k = omega arith in behind_place place k xs ∙ ap (slice_get (x ∷ xs)) on

-- the events at neighbouring positions stand as in the history
pub run_there : (history : List Event) (positions : List ℕ) (place first count : ℕ) (events : List Event) → All (λ q. q < length history) positions
    → ((k : ℕ) → k < count → slice_get (drop place positions) k ≡ Some (first + k)) → length events ≤ count → StandAt history first events → StandAt (events_at history positions) place events
run_there history positions place first count events within neighbours few stand k e is =
    let low = slice_get_within events k e is in
    same_place history positions (place + k) (first + k) e (recursion_from_All (λ q. q < length history) positions within)
    (sym (behind_place place k positions) ∙ neighbours k (omega (arith, low, few)))
    (stand k e is)
