-- The earliest event that is ready is taken out by its id.
use Rattle.std.proofs.Common.{◌≡◌, Bool, true, false, cond, List, [], ◌∷◌, find, Option, Some, None, refl, sym, ap, ◌∙◌}
use Rattle.std.proofs.lemmas.Bool.{or_parts}
use Rattle.ew_model.specs.declared.id.Id.{Id}
use Rattle.ew_model.specs.declared.event.Event.{Event}
use Rattle.ew_model.specs.Ids.{id_eq}
use Rattle.ew_model.specs.Ancestors.{is_held}
use Rattle.ew_model.specs.Arrival.{is_ready, without_ready}
use Rattle.ew_model.specs.Kept.{AreApart}
use Rattle.ew_model.proofs.IdLaws.{is_same_id}
use Rattle.waiting_pool.specs.Waiting.{without}
use Rattle.waiting_pool.proofs.Entries.{same_ids}

-- an event that is found is held
held_found_at : (b : Bool) (w e : Event) (found : Option Event) (x : Id) → cond b (Some w) found ≡ Some e → id_eq x w.id ≡ false → (found ≡ Some e → id_eq x e.id ≡ false) → id_eq x e.id ≡ false
held_found_at true w e found x q h more = let same : w ≡ e = cc in ap (λ (z : Event). id_eq x z.id) (sym same) ∙ h
held_found_at false w e found x q h more = more q

pub held_found : (held events : List Event) (e : Event) (x : Id) → find (is_ready held) events ≡ Some e → is_held events x ≡ false → id_eq x e.id ≡ false
held_found held [] e x f h = let no : ⊥ = cc in absurd no
held_found held (w ∷ events) e x f h =
    let parts = or_parts (id_eq x w.id) (is_held events x) h in
    held_found_at (is_ready held w) w e (find (is_ready held) events) x f parts.0 (λ q. held_found held events e x q parts.1)

taken_at : (b : Bool) (held : List Event) (w e : Event) (events : List Event) → cond b (Some w) (find (is_ready held) events) ≡ Some e → (find (is_ready held) events ≡ Some e → id_eq w.id e.id ≡ false)
    → (find (is_ready held) events ≡ Some e → without events e.id ≡ without_ready held events) → cond (id_eq e.id w.id) events (w ∷ without events e.id) ≡ cond b events (w ∷ without_ready held events)
taken_at true held w e events q other more =
    let same : e ≡ w = cc in
    ap (λ b. cond b events (w ∷ without events e.id)) ((is_same_id e.id w.id).1 (ap (λ (z : Event). z.id) same))
taken_at false held w e events q other more =
    ap (λ b. cond b events (w ∷ without events e.id)) (same_ids.symm e.id w.id ∙ other q) ∙ ap (λ es. w ∷ es) (more q)

-- Where no two have one id, the earliest event that is ready is taken out by its id.
pub ready_taken : (held events : List Event) (e : Event) → AreApart events → find (is_ready held) events ≡ Some e → without events e.id ≡ without_ready held events
ready_taken held [] e a f = refl
ready_taken held (w ∷ events) e a f =
    taken_at (is_ready held w) held w e events f (λ q. held_found held events e w.id q a.0) (λ q. ready_taken held events e a.1 q)

-- where none is ready, all stay
none_at : (b : Bool) (w : Event) (events less : List Event) (found : Option Event) → cond b (Some w) found ≡ None → (found ≡ None → less ≡ events) → cond b events (w ∷ less) ≡ w ∷ events
none_at true w events less found q more = let no : ⊥ = cc in absurd no
none_at false w events less found q more = ap (λ (es : List Event). w ∷ es) (more q)

pub none_ready : (held events : List Event) → find (is_ready held) events ≡ None → without_ready held events ≡ events
none_ready held [] h = refl
none_ready held (w ∷ events) h = none_at (is_ready held w) w events (without_ready held events) (find (is_ready held) events) h (none_ready held events)
