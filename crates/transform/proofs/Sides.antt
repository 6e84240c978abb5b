-- What is known at a place of an admitted history.
use Rattle.std.proofs.Common.{◌≡◌, ℕ, zero, suc, ◌+◌, ◌<◌, List, [], ◌∷◌, ◌++◌, map, length, take, drop, Some, refl, sym, ap, ◌∙◌, subst, arith, append_assoc}
use Rattle.std.specs.Prelude.{slice_get}
use Rattle.ew_model.specs.declared.event.Event.{Event}
use Rattle.ew_model.specs.Positions.{known_positions, known_alone, parents_at, positions_in, parent_positions}
use Rattle.ew_model.specs.PositionLaws.{AgreesByPositions}
use Rattle.ew_model.proofs.EntryLaws.{LaidOut}
use Rattle.event_graph.specs.Keeping.{IsAdmitted}
use Rattle.event_graph.proofs.Admitted.{agrees, laid}
use Rattle.transform.specs.Moving.{alone}
use Rattle.transform.specs.Reaching.{prepared_since, over_since}
use Rattle.transform.proofs.Fronts.{last_known, over_known}
use Rattle.ew_model.proofs.ListParts.{element_there}

pub split_at : (history : List Event) (n : ℕ) (e : Event) → slice_get history n ≡ Some e → history ≡ take n history ++ e ∷ drop (suc n) history
split_at [] n e h = let no : ⊥ = cc in absurd no
split_at (f ∷ history) zero e h = let here : f ≡ e = cc in ap (λ (g : Event). g ∷ history) here
split_at (f ∷ history) (suc n) e h = ap (λ (es : List Event). f ∷ es) (split_at history n e h)

pub take_next : (history : List Event) (n : ℕ) (e : Event) → slice_get history n ≡ Some e → take (n + 1) history ≡ take n history ++ e ∷ []
take_next history n e h = let same : n + 1 ≡ suc n = omega arith in ap (λ k. take k history) same ∙ at history n h
  where
    at : (history : List Event) (n : ℕ) → slice_get history n ≡ Some e → take (suc n) history ≡ take n history ++ e ∷ []
    at [] n h = let no : ⊥ = cc in absurd no
    at (f ∷ history) zero h = let here : f ≡ e = cc in ap (λ (g : Event). g ∷ []) here
    at (f ∷ history) (suc n) h = ap (λ (es : List Event). f ∷ es) (at history n h)

pub length_front : (history : List Event) (n : ℕ) (e : Event) → slice_get history n ≡ Some e → length (take n history) ≡ n
length_front [] n e h = let no : ⊥ = cc in absurd no
length_front (f ∷ history) zero e h = refl
length_front (f ∷ history) (suc n) e h = ap suc (length_front history n e h)

parents_there : (f : Event → List ℕ) (history : List Event) (n : ℕ) (e : Event) → slice_get history n ≡ Some e → parents_at (map f history) n ≡ f e
parents_there f [] n e h = let no : ⊥ = cc in absurd no
parents_there f (g ∷ history) zero e h = let here : g ≡ e = cc in ap f here
parents_there f (g ∷ history) (suc n) e h = parents_there f history n e h

-- what the parents of the event know
known_over : (history : List Event) (n : ℕ) (e : Event) → IsAdmitted history → slice_get history n ≡ Some e → known_positions (parent_positions history) (parents_at (parent_positions history) n) ≡ over_since (take n history) 0 e
known_over history n e admitted at =
    let front = take n history in
    let later = drop (suc n) history in
    let split : history ≡ front ++ e ∷ later = split_at history n e at in
    ap (known_positions (parent_positions history)) (parents_there (λ f. positions_in history f.parents) history n e at)
    ∙ ap (λ (h : List Event). known_positions (parent_positions h) (positions_in h e.parents)) split
    ∙ over_known front e later (subst (LaidOut []) split (laid history admitted)) (subst AgreesByPositions split (agrees history admitted))

-- what the last event before the place knows
known_last : (history : List Event) (n last : ℕ) → IsAdmitted history → last + 1 ≡ n → n < length history → known_positions (parent_positions history) (last ∷ []) ≡ prepared_since (take n history) 0
known_last history n last admitted next h =
    let found = element_there history last (omega (arith, next, h)) in
    let f = found.0 in
    let front = take last history in
    let later = drop (suc last) history in
    let split : history ≡ (front ++ f ∷ []) ++ later = split_at history last f found.1 ∙ sym (append_assoc front (f ∷ []) later) in
    ap (λ (m : ℕ). known_positions (parent_positions history) (m ∷ [])) (sym (length_front history last f found.1))
    ∙ ap (λ (h : List Event). known_positions (parent_positions h) (length front ∷ [])) split
    ∙ last_known front f later (subst (LaidOut []) split (laid history admitted)) (subst AgreesByPositions split (agrees history admitted))
    ∙ ap (λ (es : List Event). prepared_since es 0) (sym (take_next history last f found.1) ∙ ap (λ k. take k history) next)

-- The two differences.
pub out_is : (history : List Event) (n last : ℕ) (e : Event) → IsAdmitted history → last + 1 ≡ n → n < length history → slice_get history n ≡ Some e
    → known_alone (parent_positions history) (last ∷ []) (parents_at (parent_positions history) n) ≡ alone (prepared_since (take n history) 0) (over_since (take n history) 0 e)
out_is history n last e admitted next within at = λ i. alone (known_last history n last admitted next within i) (known_over history n e admitted at i)

pub into_is : (history : List Event) (n last : ℕ) (e : Event) → IsAdmitted history → last + 1 ≡ n → n < length history → slice_get history n ≡ Some e
    → known_alone (parent_positions history) (parents_at (parent_positions history) n) (last ∷ []) ≡ alone (over_since (take n history) 0 e) (prepared_since (take n history) 0)
into_is history n last e admitted next within at = λ i. alone (known_over history n e admitted at i) (known_last history n last admitted next within i)

-- where the one parent of the event is the last one before it, it was made over what is prepared
pub over_last : (history : List Event) (n last : ℕ) (e : Event) → IsAdmitted history → last + 1 ≡ n → n < length history → slice_get history n ≡ Some e
    → parents_at (parent_positions history) n ≡ last ∷ [] → over_since (take n history) 0 e ≡ prepared_since (take n history) 0
over_last history n last e admitted next within at parents =
    sym (known_over history n e admitted at) ∙ ap (known_positions (parent_positions history)) parents ∙ known_last history n last admitted next within
