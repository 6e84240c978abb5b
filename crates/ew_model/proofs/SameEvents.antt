-- The test of events is exact.
use Rattle.std.proofs.Common.{◌≡◌, Bool, true, false, ◌&&◌, ◌||◌, ◌==◌, inl, inr, List, [], ◌∷◌, refl, ap}
use Rattle.std.specs.List.{list_any}
use Rattle.std.specs.Cmp.Lexicographic.{pointwise}
use Rattle.std.proofs.lemmas.Bool.{false≢true, eqb-true}
use Rattle.ew_model.specs.declared.id.Id.{Id}
use Rattle.ew_model.specs.declared.event.Op.{Op}
use Rattle.ew_model.specs.declared.event.Op.TheVariants as op
use Rattle.ew_model.specs.declared.event.Event.{Event}
use Rattle.ew_model.specs.Sets.{Among}
use Rattle.ew_model.specs.Ids.{id_eq}
use Rattle.ew_model.specs.Events.{op_eq, event_eq}
use Rattle.ew_model.proofs.IdLaws.{is_same_id, name_exact}

both : (a b : Bool) → (a && b) ≡ true → (a ≡ true) × (b ≡ true)
both true b h = (refl, h)
both false b h = absurd (false≢true h)

pub same_ids : (xs ys : List Id) → pointwise id_eq xs ys ≡ true → xs ≡ ys
same_ids [] [] h = refl
same_ids [] (y ∷ ys) h = absurd (false≢true h)
same_ids (x ∷ xs) [] h = absurd (false≢true h)
same_ids (x ∷ xs) (y ∷ ys) h =
    let parts = both (id_eq x y) (pointwise id_eq xs ys) h in
    λ i. (is_same_id x y).0 parts.0 i ∷ same_ids xs ys parts.1 i

same_ops : (o p : Op) → op_eq o p ≡ true → o ≡ p
same_ops (op.Ins i c) (op.Ins j d) h =
    let parts = both (i == j) (c == d) h in
    λ k. op.Ins (eqb-true i j parts.0 k) (eqb-true c d parts.1 k)
same_ops (op.Ins i c) (op.Del j) h = absurd (false≢true h)
same_ops (op.Ins i c) (op.Mark b) h = absurd (false≢true h)
same_ops (op.Del i) (op.Ins j d) h = absurd (false≢true h)
same_ops (op.Del i) (op.Del j) h = ap op.Del (eqb-true i j h)
same_ops (op.Del i) (op.Mark b) h = absurd (false≢true h)
same_ops (op.Mark a) (op.Ins j d) h = absurd (false≢true h)
same_ops (op.Mark a) (op.Del j) h = absurd (false≢true h)
same_ops (op.Mark a) (op.Mark b) h = ap op.Mark (name_exact a b h)

pub same_events : (e f : Event) → event_eq e f ≡ true → e ≡ f
same_events e f h =
    let first = both (id_eq e.id f.id && pointwise id_eq e.parents f.parents) (op_eq e.op f.op) h in
    let second = both (id_eq e.id f.id) (pointwise id_eq e.parents f.parents) first.0 in
    λ i. record { id = (is_same_id e.id f.id).0 second.0 i; parents = same_ids e.parents f.parents second.1 i; op = same_ops e.op f.op first.1 i }

some_at : (e f : Event) (b : Bool) (events : List Event) → event_eq e f ≡ b → (b || list_any (event_eq e) events) ≡ true → (list_any (event_eq e) events ≡ true → Among e events) → Among e (f ∷ events)
some_at e f true events is h more = inl (same_events e f is)
some_at e f false events is h more = inr (more h)

-- an event that is found among some is one of them
pub event_among : (e : Event) (events : List Event) → list_any (event_eq e) events ≡ true → Among e events
event_among e [] h = absurd (false≢true h)
event_among e (f ∷ events) h = some_at e f (event_eq e f) events refl h (event_among e events)
