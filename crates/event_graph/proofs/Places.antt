-- Where the ids of a history stand.
use Rattle.std.proofs.Common.{◌≡◌, ℕ, zero, suc, ◌+◌, ◌<◌, Bool, true, false, cond, ◌⊎◌, inl, inr, ⊎_elim, List, [], ◌∷◌, filter, length, position, Option, Some, None, option_map, is_some, refl, sym, ap, ◌∙◌, subst, arith, All}
use Rattle.std.specs.Prelude.{slice_get}
use Rattle.std.specs.List.Sorted.{IsStrictlyIncreasing}
use Rattle.std.proofs.lemmas.Bool.{false≢true}
use Rattle.std.proofs.lemmas.Map.Views.{exact_unsigned_eq}
use Rattle.std.proofs.lemmas.List.Elements.{All-from_recursion}
use Rattle.ew_model.specs.declared.id.Id.{Id}
use Rattle.ew_model.specs.declared.event.Event.{Event}
use Rattle.ew_model.specs.Sets.{Among}
use Rattle.ew_model.specs.Ids.{id_eq, is_among}
use Rattle.ew_model.specs.Ancestors.{ids_of}
use Rattle.ew_model.specs.Positions.{positions_in}
use Rattle.ew_model.proofs.IdLaws.{is_same_id}
use Rattle.ew_model.proofs.TextLaws.{position-cons}
use Rattle.ew_model.proofs.SetLaws.{among_map, among_filter}
use Rattle.ew_model.proofs.SortingLaws.{all_from}
use Rattle.ew_model.proofs.EntryLaws.{LaidOut}
use Rattle.ew_model.proofs.CoverLaws.{ids_alike, held_of}
use Rattle.ew_model.proofs.GraphAlike.{laid_distinct}
use Rattle.ew_model.proofs.RisingLists.{increasing_of}
use Rattle.ew_model.proofs.PositionNumbers.{numbered, numbered_get, positions_filtered, positions_rising, positions_alike}
use Rattle.ew_model.proofs.ListParts.{is_some-position}

-- what is found at a place has the id
found_at : (b : Bool) (x y : Id) (o : Option ℕ) (q : ℕ) → id_eq x y ≡ b → cond b (Some 0) (option_map (λ i. 1 + i) o) ≡ Some q
    → ((q ≡ 0) × (x ≡ y)) ⊎ ((p : ℕ) × (q ≡ suc p) × (o ≡ Some p))
found_at true x y o q e h = let none : q ≡ 0 = cc in inl (none, (is_same_id x y).0 e)
found_at false x y None q e h = let no : ⊥ = cc in absurd no
found_at false x y (Some p) q e h = let there : 1 + p ≡ q = cc in inr (p, omega (arith, there), refl)

pub found_event : (history : List Event) (x : Id) (q : ℕ) → position (id_eq x) (ids_of history) ≡ Some q → (f : Event) × (slice_get history q ≡ Some f) × (x ≡ f.id)
found_event [] x q h = let no : ⊥ = cc in absurd no
found_event (e ∷ history) x q h =
    ⊎_elim
    (λ here. (e, ap (slice_get (e ∷ history)) here.0, here.1))
    (λ later. let more = found_event history x later.0 later.2 in (more.0, ap (slice_get (e ∷ history)) later.1 ∙ more.1, more.2))
    (found_at (id_eq x e.id) x e.id (position (id_eq x) (ids_of history)) q refl (sym (position-cons (id_eq x) e.id (ids_of history)) ∙ h))

-- an event at a place is one of them
pub event_among : (history : List Event) (q : ℕ) (f : Event) → slice_get history q ≡ Some f → Among f history
event_among [] q f h = let no : ⊥ = cc in absurd no
event_among (e ∷ history) zero f h = let one : f ≡ e = cc in inl one
event_among (e ∷ history) (suc q) f h = inr (event_among history q f h)

some_of : (o : Option ℕ) → is_some o ≡ true → (q : ℕ) × (o ≡ Some q)
some_of None h = absurd (false≢true h)
some_of (Some q) h = (q, refl)

module _ (history : List Event) (there : LaidOut [] history) where
  -- two places of one id are one
  pub one_place : (p q : ℕ) (f g : Event) → slice_get history p ≡ Some f → slice_get history q ≡ Some g → f.id ≡ g.id → p ≡ q
  one_place p q f g hf hg same =
      let distinct = laid_distinct (λ (e : Event). e.id) (λ (e : Event). e.parents) id_eq [] history there in
      let alike = positions_alike 0 history distinct (0 + p, f) (0 + q, g) (numbered_get 0 history p f hf) (numbered_get 0 history q g hg) in
      let equal : 0 + p ≡ 0 + q = exact_unsigned_eq (0 + p) (0 + q) (sym alike ∙ (ap (id_eq f.id) (sym same) ∙ ids_alike.refl f.id)) in
      omega (arith, equal)

  -- an event's id is found where the event stands
  pub place_of : (q : ℕ) (f : Event) → slice_get history q ≡ Some f → position (id_eq f.id) (ids_of history) ≡ Some q
  place_of q f h =
      let some = some_of (position (id_eq f.id) (ids_of history)) (is_some-position (id_eq f.id) (ids_of history) ∙ held_of history f (event_among history q f h)) in
      let found = found_event history f.id some.0 some.1 in
      some.1 ∙ ap Some (one_place some.0 q found.0 f found.1 h (sym found.2))

-- a place in a numbered list
numbered_place : (n : ℕ) (events : List Event) (z : ℕ × Event) → Among z (numbered n events) → (i : ℕ) × (z.0 ≡ n + i) × (slice_get events i ≡ Some z.1)
numbered_place n [] z m = absurd m
numbered_place n (e ∷ events) z m =
    ⊎_elim
    (λ k. (0, (let first : z.0 ≡ n = ap (λ (w : ℕ × Event). w.0) k in omega (arith, first)), ap (λ (w : ℕ × Event). Some w.1) (sym k)))
    (λ k. let later = numbered_place (suc n) events z k in (suc later.0, (let far = later.1 in omega (arith, far)), later.2))
    m

pub numbered_event : (events : List Event) (z : ℕ × Event) → Among z (numbered 0 events) → slice_get events z.0 ≡ Some z.1
numbered_event events z m =
    let at = numbered_place 0 events z m in let same : z.0 ≡ at.0 = (let far = at.1 in omega (arith, far)) in ap (slice_get events) same ∙ at.2

-- an event at a place is there
pub slice_within : (xs : List Event) (k : ℕ) (x : Event) → slice_get xs k ≡ Some x → k < length xs
slice_within [] k x h = let no : ⊥ = cc in absurd no
slice_within (y ∷ xs) zero x h = omega arith
slice_within (y ∷ xs) (suc k) x h = let less = slice_within xs k x h in omega (arith, less)

-- positions of ids are those of events
pub positions_within : (history : List Event) (ids : List Id) → All (λ p. p < length history) (positions_in history ids)
positions_within history ids =
    All-from_recursion (λ p. p < length history) (positions_in history ids)
    (all_from (λ p. p < length history) (positions_in history ids) (λ p m.
    let z = among_map (λ (z : ℕ × Event). z.0) (filter (λ (z : ℕ × Event). is_among ids z.1.id) (numbered 0 history)) p (subst (Among p) (positions_filtered ids 0 history) m) in
    let at = numbered_event history z.0 (among_filter (λ (z : ℕ × Event). is_among ids z.1.id) (numbered 0 history) z.0 z.1).0 in
    let within = slice_within history z.0.0 z.0.1 at in let same = z.2 in omega (arith, within, same)))

pub positions_increase : (history : List Event) (ids : List Id) → IsStrictlyIncreasing (positions_in history ids)
positions_increase history ids = increasing_of (positions_in history ids) (positions_rising ids 0 history)
