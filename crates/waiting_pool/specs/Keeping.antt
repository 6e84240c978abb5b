-- What a pool keeps of its events.
use Rattle.std.specs.Prelude.{◌≡◌, ℕ, ◌<◌, ◌≤◌, ◌^◌, Bool, false, List, [], ◌∷◌, map, length, Option, Some, None, if◌then◌else◌}
use Rattle.std.specs.BTreeMap.{is_at}
use Rattle.std.specs.List.{AllByRecursion}
use Rattle.std.specs.List.Sorted.{IsStrictlySortedBy}
use Rattle.std.specs.Map.{keys_of, values_of, lookup}
use Rattle.std.specs.Option.{option_map_or}
use Rattle.std.specs.Ordering.{nat_cmp}
use Rattle.ew_model.specs.declared.id.Id.{Id}
use Rattle.ew_model.specs.Kept.{AreApart}
use Rattle.waiting_pool.specs.declared.waiter.Place.{Place}
use Rattle.waiting_pool.specs.declared.waiter.Waiter.{Waiter}
use Rattle.waiting_pool.specs.Waiting.{has_id, has_missing}

-- the number under which the event with the id is kept
abbrev pub number_of : List (ℕ × Waiter) → Id → Option ℕ
number_of [] x = None
number_of (e ∷ entries) x = if has_id x e.1 then Some e.0 else number_of entries x

-- an event is kept under the place's number, with the place's missing parent
abbrev pub is_place : List (ℕ × Waiter) → Place → Bool
is_place entries q = option_map_or (λ (w : Waiter). has_missing q.missing w) (lookup (is_at (nat_cmp q.number)) entries) false

-- the tables tell the number of each id, and the places in the queue
pub record AreIndexed (entries : List (ℕ × Waiter)) (number : Id → Option ℕ) (queued : Place → Bool) : Type 0 where
  pub numbers : (x : Id) → number x ≡ number_of entries x
  pub places : (q : Place) → queued q ≡ is_place entries q

-- the events are kept in order of arrival, no two of one id
pub record AreListed (next : ℕ) (entries : List (ℕ × Waiter)) : Type 0 where
  pub ordered : IsStrictlySortedBy nat_cmp (keys_of entries)
  pub below : AllByRecursion (λ n. n < next) (keys_of entries)
  pub apart : AreApart (map (λ (w : Waiter). w.event) (values_of entries))

-- what a pool keeps: no more events than may wait
pub record IsPool (limit next : ℕ) (entries : List (ℕ × Waiter)) (number : Id → Option ℕ) (queued : Place → Bool) : Type 0 where
  pub fits : limit < 2 ^ 32
  pub few : length entries ≤ limit
  pub listed : AreListed next entries
  pub indexed : AreIndexed entries number queued
