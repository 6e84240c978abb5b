-- Which events a version has depends on the events of the history, and not on their order.
use Rattle.std.proofs.Common.{◌≡◌, Bool, true, false, cond, ◌||◌, inl, inr, ⊎_elim, List, [], ◌∷◌, refl, sym, subst, Option, Some, None, find}
use Rattle.std.specs.List.{AllByRecursion}
use Rattle.std.proofs.lemmas.Bool.{or_cases}
use Rattle.ew_model.specs.Sets.{Among}
use Rattle.ew_model.specs.declared.id.Id.{Id}
use Rattle.ew_model.specs.declared.event.Event.{Event}
use Rattle.ew_model.specs.Ids.{id_eq, is_among}
use Rattle.ew_model.specs.Ancestors.{is_parent, version_events}
pub use Rattle.ew_model.proofs.ListTests.{any_from, found_by, kept_cases}
use Rattle.ew_model.proofs.GraphVersions.{PointBack, taken_held, taken_named, taken_parent}

find_none_at : {X : Type 0} (p : X → Bool) (x : X) (b : Bool) (o : Option X) → cond b (Some x) o ≡ None → (b ≡ false) × (o ≡ None)
find_none_at p x true o e = let no : ⊥ = cc in absurd no
find_none_at p x false o e = (refl, e)

pub find_none : {X : Type 0} (p : X → Bool) (xs : List X) → find p xs ≡ None → AllByRecursion (λ x. p x ≡ false) xs
find_none p [] e = tt
find_none p (x ∷ xs) e = let parts = find_none_at p x (p x) (find p xs) e in (parts.0, find_none p xs parts.1)

-- no event is a parent of itself or of an earlier one
abbrev pub PointsBack : List Event → Type 0
PointsBack history = PointBack (λ (e : Event). e.id) (λ (e : Event). e.parents) id_eq history

-- the events of a version are events of the history
pub version_held : (history : List Event) (named : List Id) (x : Event) → Among x (version_events history named) → Among x history
version_held history named x m = taken_held (λ (e : Event). e.id) (λ (e : Event). e.parents) id_eq history named x m

-- a named event is in the version
pub version_named : (history : List Event) (named : List Id) (x : Event) → Among x history → is_among named x.id ≡ true → Among x (version_events history named)
version_named history named x m e = taken_named (λ (e : Event). e.id) (λ (e : Event). e.parents) id_eq history named x m e

-- the parents of an event of the version are in the version
pub version_parent : (history : List Event) (named : List Id) (x f : Event) → PointsBack history → Among f (version_events history named) → Among x history → is_among f.parents x.id ≡ true → Among x (version_events history named)
version_parent history named x f h mf mx e = taken_parent (λ (e : Event). e.id) (λ (e : Event). e.parents) id_eq history named x f h mf mx e

-- a version has no events but these, in any history that has them
pub version_within : (history other : List Event) (named : List Id) → PointsBack other → ((x : Event) → Among x history → Among x other) → (x : Event) → Among x (version_events history named) → Among x (version_events other named)
version_within [] other named h f x m = absurd m
version_within (y ∷ later) other named h f x m =
    let taken = version_events later named in
    let ih : (z : Event) → Among z taken → Among z (version_events other named) = version_within later other named h (λ z k. f z (inr k)) in
    ⊎_elim
    (λ xy. subst (λ z. Among z (version_events other named)) (sym xy.0)
    (⊎_elim
    (λ e. version_named other named y (f y (inl refl)) e)
    (λ e. let child = found_by (λ g. is_among g.parents y.id) taken e in
    version_parent other named y child.0 h (ih child.0 child.1) (f y (inl refl)) child.2)
    (or_cases (is_among named y.id) (is_parent taken y.id) xy.1)))
    (λ k. ih x k)
    (kept_cases (is_among named y.id || is_parent taken y.id) y x taken m)
