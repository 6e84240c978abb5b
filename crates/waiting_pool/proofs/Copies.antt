-- A part of the events of a pool, copied.
use Rattle.std.proofs.Common.{◌≡◌, ℕ, ◌<◌, ◌≤◌, false, ◌||◌, List, [], ◌∷◌, ◌++◌, length, refl, ◌∙◌, arith, length-append}
use Rattle.std.proofs.lemmas.Bool.{or_parts}
use Rattle.ew_model.specs.declared.id.Id.{Id}
use Rattle.ew_model.specs.Ids.{id_eq}
use Rattle.ew_model.specs.Ancestors.{is_held}
use Rattle.ew_model.specs.Kept.{AreApart}
use Rattle.waiting_pool.specs.declared.waiter.Waiter.{Waiter}
use Rattle.waiting_pool.proofs.Entries.{same_ids}
use Rattle.waiting_pool.proofs.Notes.{events_in}

-- an event behind others isn't one that stands before it
not_among : (before after : List Waiter) (w : Waiter) (x : Id) → is_held (events_in (before ++ w ∷ after)) x ≡ false → id_eq x w.event.id ≡ false
not_among [] after w x h = (or_parts (id_eq x w.event.id) (is_held (events_in after) x) h).0
not_among (v ∷ before) after w x h = not_among before after w x (or_parts (id_eq x v.event.id) (is_held (events_in (before ++ w ∷ after)) x) h).1

pub new_behind : (before after : List Waiter) (w : Waiter) → AreApart (events_in (before ++ w ∷ after)) → is_held (events_in before) w.event.id ≡ false
new_behind [] after w a = refl
new_behind (v ∷ before) after w a =
    λ i. (same_ids.symm w.event.id v.event.id ∙ not_among before after w v.event.id a.0) i || new_behind before after w a.1 i

pub room_behind : (before after : List Waiter) (w : Waiter) (limit : ℕ) → length (before ++ w ∷ after) ≤ limit → length before < limit
room_behind before after w limit h = let long = length-append before (w ∷ after) in omega (arith, long, h)
