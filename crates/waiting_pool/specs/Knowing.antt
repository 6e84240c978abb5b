-- What is known of the parents of waiting events.
use Rattle.std.specs.Prelude.{◌≡◌, ◌≤◌, Bool, true, not, ◌&&◌, List, take, length, find, None}
use Rattle.std.specs.List.{list_all}
use Rattle.std.specs.Option.{option_map, option_map_or}
use Rattle.ew_model.specs.declared.event.Event.{Event}
use Rattle.ew_model.specs.Ids.{is_among}
use Rattle.ew_model.specs.Ancestors.{is_held}
use Rattle.ew_model.specs.Arrival.{is_ready}
use Rattle.waiting_pool.specs.declared.waiter.Waiter.{Waiter}
use Rattle.waiting_pool.specs.Waiting.{Waiting, events_of, has_missing}

-- the parent that is said to be missing is a parent of the event, and isn't held
abbrev pub is_missed : List Event → Waiter → Bool
is_missed held w = option_map_or (λ p. is_among w.event.parents p && not (is_held held p)) w.missing true

-- What is known of the pool holds of the first of the events held, which are those that were looked at.
pub record IsBehind (held : List Event) (w : Waiting) : Type 0 where
  pub seen : w.seen ≤ length held
  pub missed : list_all (is_missed (take w.seen held)) w.waiters ≡ true

-- The earliest of which no parent is known to be missing is the earliest whose parents are all held.
abbrev pub IsSettled : List Event → Waiting → Type 0
IsSettled held w = find (is_ready held) (events_of w) ≡ option_map (λ (x : Waiter). x.event) (find (has_missing None) w.waiters)

-- a change of what is known of the events alone
pub record KeepsEvents (old new : Waiting) : Type 0 where
  pub limit : new.limit ≡ old.limit
  pub seen : new.seen ≡ old.seen
  pub events : events_of new ≡ events_of old

-- what was rightly said to be missing still is
abbrev pub KeepsMissed : Waiting → Waiting → Type 0
KeepsMissed old new = (held : List Event) → list_all (is_missed held) old.waiters ≡ true → list_all (is_missed held) new.waiters ≡ true
