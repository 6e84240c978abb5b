-- What a pool knows of a history holds of a longer one too, and when events come and go.
use Rattle.std.proofs.Common.{◌≡◌, ℕ, suc, ◌+◌, ◌<◌, Bool, true, false, cond, ◌&&◌, List, [], ◌∷◌, ◌++◌, map, find, length, take, Some, None, slice_get, refl, ap, ◌∙◌, arith, length-append, add-one}
use Rattle.std.specs.List.{list_all}
use Rattle.std.proofs.lemmas.Bool.{and_parts}
use Rattle.std.proofs.lemmas.List.{take-append-le}
use Rattle.std.proofs.lemmas.List.Folds.{list_all-append}
use Rattle.ew_model.specs.declared.id.Id.{Id}
use Rattle.ew_model.specs.declared.event.Event.{Event}
use Rattle.ew_model.specs.Ids.{id_eq}
use Rattle.ew_model.specs.Ancestors.{ids_of}
use Rattle.waiting_pool.specs.declared.waiter.Waiter.{Waiter}
use Rattle.waiting_pool.specs.Knowing.{IsBehind, KeepsEvents, KeepsMissed, is_missed}
use Rattle.waiting_pool.specs.Waiting.{Waiting, events_of, has_id, has_missing, put_behind, taken_out, without, without_first}
use Rattle.waiting_pool.proofs.Listed.{map-without_first}
use Rattle.waiting_pool.proofs.Notes.{looked}

-- a pool of no events
pub behind_none : (held : List Event) (limit : ℕ) → IsBehind held (record { limit = limit; seen = 0; waiters = [] })
behind_none held limit = record { seen = omega arith; missed = refl }

-- More events are held.
pub behind_more : (held more : List Event) (w : Waiting) → IsBehind held w → IsBehind (held ++ more) w
behind_more held more w b = record {
  seen = let long = length-append held more in let few = b.seen in omega (arith, long, few);
  missed = ap (λ (known : List Event). list_all (is_missed known) w.waiters) (take-append-le w.seen held more b.seen) ∙ b.missed;
}

-- One more event waits.
pub behind_put : (held : List Event) (w : Waiting) (e : Event) → IsBehind held w → IsBehind held (put_behind w e)
behind_put held w e b = record {
  seen = b.seen;
  missed = list_all-append (is_missed (take w.seen held)) w.waiters (record { event = e; missing = None } ∷ []) ∙ ap (λ c. c && (true && true)) b.missed;
}

pub events-put_behind : (w : Waiting) (e : Event) → events_of (put_behind w e) ≡ events_of w ++ e ∷ []
events-put_behind w e = at w.waiters
  where
    at : (waiters : List Waiter) → map (λ (v : Waiter). v.event) (waiters ++ record { event = e; missing = None } ∷ []) ≡ map (λ (v : Waiter). v.event) waiters ++ e ∷ []
    at [] = refl
    at (v ∷ waiters) = ap (λ es. v.event ∷ es) (at waiters)

-- One event less waits.
all_without : {X : Type 0} (p q : X → Bool) (xs : List X) → list_all p xs ≡ true → list_all p (without_first q xs) ≡ true
all_without p q [] h = refl
all_without p q (x ∷ xs) h = at (q x) (all_without p q xs (and_parts (p x) (list_all p xs) h).1)
  where
    at : (b : Bool) → list_all p (without_first q xs) ≡ true → list_all p (cond b xs (x ∷ without_first q xs)) ≡ true
    at true k = (and_parts (p x) (list_all p xs) h).1
    at false k = λ i. (and_parts (p x) (list_all p xs) h).0 i && k i

pub behind_taken : (held : List Event) (w : Waiting) (x : Id) → IsBehind held w → IsBehind held (taken_out w x)
behind_taken held w x b = record { seen = b.seen; missed = all_without (is_missed (take w.seen held)) (has_id x) w.waiters b.missed }

pub events-taken_out : (w : Waiting) (x : Id) → events_of (taken_out w x) ≡ without (events_of w) x
events-taken_out w x = map-without_first (λ (v : Waiter). v.event) (λ (e : Event). id_eq x e.id) w.waiters

-- One more of the events held was looked at.
pub behind_next : (held : List Event) (old new : Waiting) (x : Id) → IsBehind held old → old.seen < length held → slice_get (ids_of held) old.seen ≡ Some x → KeepsEvents old new → KeepsMissed old new
    → find (has_missing (Some x)) new.waiters ≡ None → IsBehind held (record { limit = new.limit; seen = new.seen + 1; waiters = new.waiters })
behind_next held old new x b more there kept missed none =
    let same = kept.seen in
    record {
      seen = omega (arith, same, more);
      missed =
          ap (λ (k : ℕ). list_all (is_missed (take k held)) new.waiters) (add-one new.seen ∙ ap suc same)
          ∙ looked held old.seen x new.waiters there none (missed (take old.seen held) b.missed);
    }
