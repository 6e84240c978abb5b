-- An id's number tells its place among its agent's positions.
use Rattle.std.proofs.Common.{◌≡◌, ℕ, zero, suc, ◌+◌, Bool, true, false, cond, ◌⊎◌, inl, inr, List, [], ◌∷◌, ◌++◌, length, take, slice_get, position, Option, Some, None, option_map, refl, sym, ap, ◌∙◌, arith, append_assoc}
use Rattle.std.proofs.Math.Seq.{take-append_seam}
use Rattle.std.proofs.lemmas.Bool.{true≢false, false_from_ne_true}
use Rattle.ew_model.specs.declared.id.Id.{Id}
use Rattle.ew_model.specs.Ids.{name_eq, id_eq}
use Rattle.ew_model.proofs.IdLaws.{is_same_id}
use Rattle.ew_model.proofs.TextLaws.{position-cons}
use Rattle.history_definitions.specs.Agents.{count_of, AreNumbered}
use Rattle.agent_ids.specs.Table.{positions_from, positions_of}
use Rattle.agent_ids.proofs.Agents.{names_alike, one_name, count_push}

-- the ids are numbered where these stand before them
abbrev AreNumberedAfter : List Id → List Id → Type 0
AreNumberedAfter before [] = Unit {0}
AreNumberedAfter before (x ∷ ids) = (x.seq ≡ count_of before x.agent) × AreNumberedAfter (before ++ x ∷ []) ids

after-at : (before ids : List Id) → ((place : ℕ) (x : Id) → slice_get ids place ≡ Some x → x.seq ≡ count_of (before ++ take place ids) x.agent) → AreNumberedAfter before ids
after-at before [] h = tt
after-at before (x ∷ ids) h =
    (h 0 x refl ∙ ap (λ xs. count_of xs x.agent) (nothing before), after-at (before ++ x ∷ []) ids (λ place y e. h (suc place) y e ∙ ap (λ xs. count_of xs y.agent) (sym (append_assoc before (x ∷ []) (take place ids)))))
  where
    nothing : (xs : List Id) → xs ++ [] ≡ xs
    nothing [] = refl
    nothing (y ∷ xs) = ap (λ ys. y ∷ ys) (nothing xs)

numbered_after : (ids : List Id) → AreNumbered ids → AreNumberedAfter [] ids
numbered_after ids h = after-at [] ids h

-- the agent's id with the number that it has after k more is found at its place k
other_agent : (x y : Id) → name_eq x.agent y.agent ≡ false → id_eq y x ≡ false
other_agent x y h = false_from_ne_true (id_eq y x) (λ e. let one : y ≡ x = (is_same_id y x).0 e in true≢false (sym (names_alike.refl x.agent) ∙ ap (λ z. name_eq x.agent z.agent) (sym one) ∙ h))

found_from : (n : ℕ) (before ids : List Id) → AreNumberedAfter before ids → (y : Id) (k : ℕ) → y.seq ≡ count_of before y.agent + k
    → slice_get (positions_from n ids y.agent) k ≡ option_map (λ p. n + p) (position (id_eq y) ids)
found_from n before [] h y k e = refl
found_from n before (x ∷ ids) h y k e =
    at (name_eq x.agent y.agent) refl k e (λ j f. found_from (suc n) (before ++ x ∷ []) ids h.1 y j f)
    ∙ ap (option_map (λ p. n + p)) (sym (position-cons (id_eq y) x ids))
  where
    shifted : (o : Option ℕ) → option_map (λ p. suc n + p) o ≡ option_map (λ p. n + p) (option_map (λ i. 1 + i) o)
    shifted None = refl
    shifted (Some p) = let same : suc n + p ≡ n + (1 + p) = omega arith in ap Some same

    rest : (j : ℕ) → slice_get (positions_from (suc n) ids y.agent) j ≡ option_map (λ p. suc n + p) (position (id_eq y) ids) → id_eq y x ≡ false
        → slice_get (positions_from (suc n) ids y.agent) j ≡ option_map (λ p. n + p) (cond (id_eq y x) (Some 0) (option_map (λ i. 1 + i) (position (id_eq y) ids)))
    rest j found c =
        found ∙ shifted (position (id_eq y) ids)
        ∙ ap (λ t. option_map (λ p. n + p) (cond t (Some 0) (option_map (λ i. 1 + i) (position (id_eq y) ids)))) (sym c)

    at : (b : Bool) → name_eq x.agent y.agent ≡ b → (j : ℕ) → y.seq ≡ count_of before y.agent + j
        → ((i : ℕ) → y.seq ≡ count_of (before ++ x ∷ []) y.agent + i → slice_get (positions_from (suc n) ids y.agent) i ≡ option_map (λ p. suc n + p) (position (id_eq y) ids))
        → slice_get (cond b (n ∷ positions_from (suc n) ids y.agent) (positions_from (suc n) ids y.agent)) j ≡ option_map (λ p. n + p) (cond (id_eq y x) (Some 0) (option_map (λ i. 1 + i) (position (id_eq y) ids)))
    at true c zero f found =
        let agent : x.agent ≡ y.agent = one_name x.agent y.agent c in
        let number : x.seq ≡ y.seq = let own : x.seq ≡ count_of before y.agent = h.0 ∙ ap (count_of before) agent in omega (arith, own, f) in
        let one : y ≡ x = (λ i. record { agent = sym agent i; seq = sym number i }) in
        let here : n ≡ n + 0 = omega arith in
        ap Some here ∙ ap (λ t. option_map (λ p. n + p) (cond t (Some 0) (option_map (λ i. 1 + i) (position (id_eq y) ids)))) (sym ((is_same_id y x).1 one))
    at true c (suc j) f found =
        let agent : x.agent ≡ y.agent = one_name x.agent y.agent c in
        let own : x.seq ≡ count_of before y.agent = h.0 ∙ ap (count_of before) agent in
        let more : count_of (before ++ x ∷ []) y.agent ≡ count_of before y.agent + 1 = count_push before x y.agent ∙ ap (λ b. count_of before y.agent + cond b 1 0) c in
        rest j (found j (let g : y.seq ≡ count_of before y.agent + suc j = f in omega (arith, g, more)))
        (false_from_ne_true (id_eq y x) (λ e. let one : y.seq ≡ x.seq = ap (λ z. z.seq) ((is_same_id y x).0 e) in absurd (omega (arith, one, own, f))))
    at false c j f found =
        let same : count_of (before ++ x ∷ []) y.agent ≡ count_of before y.agent = count_push before x y.agent ∙ ap (λ b. count_of before y.agent + cond b 1 0) c ∙ zero_more (count_of before y.agent) in
        rest j (found j (f ∙ ap (λ m. m + j) (sym same))) (other_agent x y c)
      where
        zero_more : (m : ℕ) → m + 0 ≡ m
        zero_more m = omega arith

-- THE PLACE of an id among its agent's positions is its number.
pub position_at : (ids : List Id) (y : Id) → AreNumbered ids → slice_get (positions_of ids y.agent) y.seq ≡ position (id_eq y) ids
position_at ids y h =
    let none : y.seq ≡ count_of [] y.agent + y.seq = omega arith in
    found_from 0 [] ids (numbered_after ids h) y y.seq none ∙ as_it_is (position (id_eq y) ids)
  where
    as_it_is : (o : Option ℕ) → option_map (λ p. 0 + p) o ≡ o
    as_it_is None = refl
    as_it_is (Some p) = let same : 0 + p ≡ p = omega arith in ap Some same

-- One more id with the next number of its agent, and some fewer.
get_front : (ids : List Id) (x y : Id) (place : ℕ) → slice_get (ids ++ x ∷ []) place ≡ Some y → ((slice_get ids place ≡ Some y) × (take place (ids ++ x ∷ []) ≡ take place ids)) ⊎ ((y ≡ x) × (take place (ids ++ x ∷ []) ≡ ids))
get_front [] x y zero e = let one : y ≡ x = cc in inr (one, refl)
get_front [] x y (suc place) e = let no : ⊥ = cc in absurd no
get_front (z ∷ ids) x y zero e = inl (e, refl)
get_front (z ∷ ids) x y (suc place) e =
    elim (get_front ids x y place e) [ inl h ↦ inl (h.0, ap (λ xs. z ∷ xs) h.1) | inr h ↦ inr (h.0, ap (λ xs. z ∷ xs) h.1) ]

pub numbered_push : (ids : List Id) (x : Id) → AreNumbered ids → x.seq ≡ count_of ids x.agent → AreNumbered (ids ++ x ∷ [])
numbered_push ids x h e place y f =
    elim (get_front ids x y place f) [
      | inl g ↦ h place y g.0 ∙ ap (λ xs. count_of xs y.agent) (sym g.1)
      | inr g ↦ ap (λ z. z.seq) g.0 ∙ e ∙ ap (λ z. count_of ids z.agent) (sym g.0) ∙ ap (λ xs. count_of xs y.agent) (sym g.1)
    ]

get_more : (ids more : List Id) (y : Id) (place : ℕ) → slice_get ids place ≡ Some y → (slice_get (ids ++ more) place ≡ Some y) × (take place (ids ++ more) ≡ take place ids)
get_more [] more y place e = let no : ⊥ = cc in absurd no
get_more (z ∷ ids) more y zero e = (e, refl)
get_more (z ∷ ids) more y (suc place) e = let rest = get_more ids more y place e in (rest.0, ap (λ xs. z ∷ xs) rest.1)

pub numbered_front : (ids more : List Id) → AreNumbered (ids ++ more) → AreNumbered ids
numbered_front ids more h place y e = let rest = get_more ids more y place e in h place y rest.0 ∙ ap (λ xs. count_of xs y.agent) rest.1

-- the number of the first id behind others
pub numbered_next : (ids : List Id) (x : Id) (more : List Id) → AreNumbered (ids ++ x ∷ more) → x.seq ≡ count_of ids x.agent
numbered_next ids x more h = h (length ids) x (here ids) ∙ ap (λ xs. count_of xs x.agent) (take-append_seam ids (x ∷ more))
  where
    here : (before : List Id) → slice_get (before ++ x ∷ more) (length before) ≡ Some x
    here [] = refl
    here (y ∷ before) = here before
