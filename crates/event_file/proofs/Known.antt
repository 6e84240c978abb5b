-- The events before a record, of which only the ids are known.
use Rattle.std.proofs.Common.{◌≡◌, ℕ, zero, suc, ◌+◌, ◌-◌, ◌^◌, ◌<◌, List, [], ◌∷◌, ◌++◌, map, take, Option, Some, None, refl, sym, ap, ◌∙◌, ◌⊎◌, inl, inr, true, false, subst, arith, cond, ltb-true, ltb-false, length}
use Rattle.std.proofs.lemmas.Bool.{cases_Bool, cond-true, cond-false}
use Rattle.std.specs.Prelude.{slice_get, nat_lt, get_or}
use Rattle.std.specs.Option.{option_map}
use Rattle.std.proofs.lemmas.List.{map-append, length-append, length-map}
use Rattle.std.proofs.lemmas.Option.{get_or_from_slice_get, slice_get-get_or, slice_get_past}
use Rattle.ew_model.specs.declared.id.Id.{Id}
use Rattle.ew_model.specs.declared.event.Event.{Event}
use Rattle.ew_model.specs.Ids.{name_eq}
use Rattle.ew_model.specs.Ancestors.{ids_of}
use Rattle.ew_model.specs.Distinct.{AreDistinct}
use Rattle.ew_model.proofs.ListPlaces.{some_is, none_is_some, none_in_front, get-take_within, there_among}
use Rattle.ew_model.proofs.IdLaws.{names_equal, name_exact}
use Rattle.event_file.specs.declared.short_id.ShortId.{ShortId}
use Rattle.file_words.specs.FileRuns.{ids_from}
use Rattle.event_file.specs.IdRuns.{short_run, last_short}
use Rattle.event_file.proofs.IdRuns.{length_run}
use Rattle.event_file.specs.Known.{known_by, id_by, known_run, known, AreWithin}

-- the id at a place
pub known_at : (agents : List (List ℕ)) (ids : List ShortId) (i : ℕ) (x : ShortId) → slice_get ids i ≡ Some x → slice_get (ids_of (known agents ids)) i ≡ Some (id_by agents x)
known_at agents [] i x at = none_is_some x at
known_at agents (y ∷ ids) zero x at = ap (λ z. Some (id_by agents z)) (some_is y x at)
known_at agents (y ∷ ids) (suc i) x at = known_at agents ids i x at

-- no id stands behind the last
pub none_known : (agents : List (List ℕ)) (ids : List ShortId) (i : ℕ) → slice_get ids i ≡ None → slice_get (ids_of (known agents ids)) i ≡ None
none_known agents [] i none = refl
none_known agents (y ∷ ids) zero none = absurd cc
none_known agents (y ∷ ids) (suc i) none = none_known agents ids i none

-- an id of the agent at this place, told by it
short_is : (agents : List (List ℕ)) (place : ℕ) (x : Id) → slice_get agents place ≡ Some x.agent → id_by agents (record { agent = place; seq = x.seq }) ≡ x
short_is agents place x at = λ i. record { agent = get_or_from_slice_get agents place x.agent [] at i; seq = x.seq }

-- events with the ids of a run
run_known : (agents : List (List ℕ)) (place : ℕ) (name : List ℕ) (seq n : ℕ) → slice_get agents place ≡ Some name → known agents (short_run place seq n) ≡ map known_by (ids_from name seq n)
run_known agents place name seq zero at = refl
run_known agents place name seq (suc n) at = λ i. known_by (record { agent = get_or_from_slice_get agents place name [] at i; seq = seq }) ∷ run_known agents place name (seq + 1) n at i

pub known_run_more : (agents : List (List ℕ)) (ids : List ShortId) (place : ℕ) (x : Id) (n : ℕ) → slice_get agents place ≡ Some x.agent → known agents (ids ++ short_run place x.seq n) ≡ known agents ids ++ known_run x n
known_run_more agents ids place x n at =
    map-append (λ y. known_by (id_by agents y)) ids (short_run place x.seq n) ∙ ap (λ es. known agents ids ++ es) (run_known agents place x.agent x.seq n at)

pub within_run : (n : ℕ) (ids : List ShortId) (place seq k : ℕ) → AreWithin n ids → place < n → AreWithin n (ids ++ short_run place seq k)
within_run n [] place seq zero each lt i y at = none_is_some y at
within_run n [] place seq (suc k) each lt zero y at = subst (λ (z : ShortId). z.agent < n) (some_is _ y at) lt
within_run n [] place seq (suc k) each lt (suc i) y at = within_run n [] place (seq + 1) k each lt i y at
within_run n (z ∷ ids) place seq k each lt zero y at = each zero y at
within_run n (z ∷ ids) place seq k each lt (suc i) y at = within_run n ids place seq k (λ j. each (suc j)) lt i y at

-- how many there are then
pub few_more : (agents : List (List ℕ)) (ids new : List ShortId) (place seq n : ℕ) (events : List Event) → known agents ids ≡ events → length events + n < 2 ^ 32 → new ≡ ids ++ short_run place seq n → length new < 2 ^ 32
few_more agents ids new place seq n events same few is =
    let count = ap (length {A = Event}) same in
    let long = length-map ids (λ y. known_by (id_by agents y)) in
    let size = ap (length {A = ShortId}) is ∙ length-append ids (short_run place seq n) in
    let run = length_run place seq n in
    omega (arith, count, long, size, run, few)

pub few_ids : (agents : List (List ℕ)) (ids : List ShortId) (n : ℕ) (events : List Event) → known agents ids ≡ events → length events + n < 2 ^ 32 → length ids + n < 2 ^ 32
few_ids agents ids n events same few =
    let count = ap (length {A = Event}) same in
    let long = length-map ids (λ y. known_by (id_by agents y)) in
    omega (arith, count, long, few)

-- the last of the ids is at the last place
pub last_parts : (ids : List ShortId) (p : ℕ) (x : ShortId) → Some (p, x) ≡ last_short ids → (p ≡ length ids - 1) × (slice_get ids p ≡ Some x)
last_parts ids p x e = at (slice_get ids (length ids - 1)) refl (sym e)
  where
    at : (o : Option ShortId) → slice_get ids (length ids - 1) ≡ o → option_map {U = ℕ × ShortId} (λ y. (length ids - 1, y)) o ≡ Some (p, x) → (p ≡ length ids - 1) × (slice_get ids p ≡ Some x)
    at None is f = absurd cc
    at (Some y) is f =
        let same : (length ids - 1, y) ≡ (p, x) = cc in
        let place : length ids - 1 ≡ p = ap (λ (q : ℕ × ShortId). q.0) same in
        (sym place, ap (slice_get ids) (sym place) ∙ is ∙ ap (λ (q : ℕ × ShortId). Some q.1) same)

-- one id more
pub known_more : (agents : List (List ℕ)) (ids : List ShortId) (place : ℕ) (x : Id) → slice_get agents place ≡ Some x.agent → known agents (ids ++ record { agent = place; seq = x.seq } ∷ []) ≡ known agents ids ++ known_by x ∷ []
known_more agents ids place x at =
    map-append (λ y. known_by (id_by agents y)) ids (record { agent = place; seq = x.seq } ∷ []) ∙ ap (λ y. known agents ids ++ known_by y ∷ []) (short_is agents place x at)

pub within_more : (n : ℕ) (ids : List ShortId) (x : ShortId) → AreWithin n ids → x.agent < n → AreWithin n (ids ++ x ∷ [])
within_more n [] x each lt zero y at = subst (λ (z : ShortId). z.agent < n) (some_is x y at) lt
within_more n [] x each lt (suc i) y at = none_is_some y at
within_more n (z ∷ ids) x each lt zero y at = each zero y at
within_more n (z ∷ ids) x each lt (suc i) y at = within_more n ids x (λ k. each (suc k)) lt i y at

pub none_within : (n : ℕ) → AreWithin n []
none_within n i x at = none_is_some x at

-- a name stands once among different ones
pub place_once : (agents : List (List ℕ)) (i j : ℕ) (name : List ℕ) → AreDistinct name_eq agents → slice_get agents i ≡ Some name → slice_get agents j ≡ Some name → i < j → true ≡ false
place_once agents i j name distinct here there lt =
    sym (there_among name_eq names_equal name_exact (take j agents) i name (get-take_within j agents i lt ∙ here)) ∙ none_in_front name_eq names_equal name_exact [] agents j name distinct there

-- a name at another place isn't here
pub other_place : (agents : List (List ℕ)) (i j : ℕ) (name : List ℕ) → AreDistinct name_eq agents → slice_get agents i ≡ Some name → (i ≡ j → false ≡ true) → slice_get agents j ≡ Some name → false ≡ true
other_place agents i j name distinct here other there =
    elim (sides i j) [
      | inl e ↦ other e
      | inr s ↦ elim s [
        | inl lt ↦ sym (place_once agents i j name distinct here there lt)
        | inr gt ↦ sym (place_once agents j i name distinct there here gt)
      ]
    ]
  where
    sides : (m n : ℕ) → (m ≡ n) ⊎ ((m < n) ⊎ (n < m))
    sides zero zero = inl refl
    sides zero (suc n) = inr (inl (omega arith))
    sides (suc m) zero = inr (inr (omega arith))
    sides (suc m) (suc n) =
        elim (sides m n) [
          | inl e ↦ inl (ap suc e)
          | inr s ↦ elim s [
            | inl lt ↦ inr (inl (omega (arith, lt)))
            | inr gt ↦ inr (inr (omega (arith, gt)))
          ]
        ]

-- what stands at a place, by whether the list is long enough
pub get_by_length : {X : Type 0} (xs : List X) (n : ℕ) (d : X) → slice_get xs n ≡ cond (nat_lt n (length xs)) (Some (get_or xs n d)) None
get_by_length xs n d =
    elim (cases_Bool (nat_lt n (length xs))) [
      | inl t ↦ slice_get-get_or xs n d (ltb-true n (length xs) t) ∙ sym (cond-true (nat_lt n (length xs)) (Some (get_or xs n d)) None t)
      | inr f ↦ slice_get_past xs n (ltb-false n (length xs) f) ∙ sym (cond-false (nat_lt n (length xs)) (Some (get_or xs n d)) None f)
    ]
