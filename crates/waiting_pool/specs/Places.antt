-- The order of the queue.
use Rattle.std.specs.Prelude.{◌≡◌, ℕ, ◌≤◌, Bool, true, Option}
use Rattle.std.specs.declared.cmp.Ordering.{Ordering}
use Rattle.std.specs.BTreeMap.Range.{IsLeBy}
use Rattle.std.specs.Option.{option_cmp}
use Rattle.std.specs.Ordering.{nat_cmp, ordering_then, is_eq}
use Rattle.ew_model.specs.declared.id.Id.{Id}
use Rattle.ew_model.specs.Ids.{id_cmp}
use Rattle.waiting_pool.specs.declared.waiter.Place.{Place}

-- by the missing parent, those with none first, and then by the number of arrival
abbrev pub place_cmp : Place → Place → Ordering
place_cmp a b = ordering_then (option_cmp id_cmp a.missing b.missing) (nat_cmp a.number b.number)

-- the two are one missing parent, or no parent
abbrev pub same_missing : Option Id → Option Id → Bool
same_missing a b = is_eq (option_cmp id_cmp a b)

-- no queued place that isn't below the first is below the second, which is one of them
pub record IsLeastFrom (queued : Place → Bool) (from least : Place) : Type 0 where
  pub there : queued least ≡ true
  pub above : IsLeBy place_cmp from least
  pub lowest : (q : Place) → IsLeBy place_cmp from q → queued q ≡ true → IsLeBy place_cmp least q

-- of the numbers queued under this missing parent, this is the lowest
pub record IsFirstNumber (queued : Place → Bool) (missing : Option Id) (number : ℕ) : Type 0 where
  pub there : queued (record { missing = missing; number = number }) ≡ true
  pub lowest : (k : ℕ) → queued (record { missing = missing; number = k }) ≡ true → number ≤ k
