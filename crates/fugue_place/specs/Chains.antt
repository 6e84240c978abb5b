-- Chains of places, in which each is followed by a later one or by none.
use Rattle.std.specs.Prelude.{◌≡◌, ℕ, zero, suc, ◌+◌, ◌^◌, ◌<◌, ◌≤◌, ◌⊎◌, nat_eq, if◌then◌else◌, List, length, get_or, Option, Some, None}
use Rattle.std.specs.Option.{IfSome}
use Rattle.std.specs.Vec.{vec_capacity}
use Rattle.fugue_place.specs.declared.chains.Chains.{Chains}

-- what a table tells of a place: the place itself, where it tells nothing
abbrev pub entry_at : List ℕ → ℕ → ℕ
entry_at table k = get_or table k k

-- the place j, unless it is k
abbrev pub other_than : ℕ → ℕ → Option ℕ
other_than k j = if nat_eq j k then None else Some j

-- what a place is linked to, if not to itself
abbrev pub follower : List ℕ → ℕ → Option ℕ
follower links k = other_than k (entry_at links k)

-- j, which follows k, is later and in the same chain
pub record IsStep (n : ℕ) (before : ℕ → Option ℕ) (group : ℕ → ℕ) (k j : ℕ) : Type 0 where
  pub later : k < j
  pub within : j < n
  pub inner : before j ≡ Some k
  pub number : group j ≡ group k

-- chains of the first n places, with the number of each place's chain and the end of the chain of each number
pub record AreChains (n : ℕ) (outer inner : ℕ → Option ℕ) (number end : ℕ → ℕ) : Type 0 where
  pub step : (k j : ℕ) → k < n → outer k ≡ Some j → IsStep n inner number k j
  pub inward : (j k : ℕ) → j < n → inner j ≡ Some k → k < j
  pub known : (k : ℕ) → k < n → number k < n
  pub ends : (k : ℕ) → k < n → outer k ≡ None → end (number k) ≡ k

-- the tables have as many rows as one another, and no more than there are places
pub record AreAligned (c : Chains) : Type 0 where
  pub within : length c.outer.items ≤ c.count
  pub inner : length c.inner.items ≡ length c.outer.items
  pub numbers : length c.numbers.items ≡ length c.outer.items
  pub ends : length c.ends.items ≡ length c.outer.items

-- what chains keep
pub record IsChains (c : Chains) : Type 0 where
  pub aligned : AreAligned c
  pub chains : AreChains c.count (follower c.outer.items) (follower c.inner.items) (entry_at c.numbers.items) (entry_at c.ends.items)

-- so many steps lead from k to e, which nothing follows
abbrev pub Leads : (ℕ → Option ℕ) → ℕ → ℕ → ℕ → Type 0
Leads outer zero k e = (outer k ≡ None) × (k ≡ e)
Leads outer (suc m) k e = (j : ℕ) × (outer k ≡ Some j) × Leads outer m j e

-- the chain of k ends at e
abbrev pub IsEndOf : (ℕ → Option ℕ) → ℕ → ℕ → Type 0
IsEndOf outer k e = (m : ℕ) × Leads outer m k e

-- what follows each once the place n is added: behind another, or alone
pub record IsLedBy (n : ℕ) (old : ℕ → Option ℕ) (behind : Option ℕ) (new : ℕ → Option ℕ) : Type 0 where
  pub last : new n ≡ None
  pub leads : (k : ℕ) → behind ≡ Some k → new k ≡ Some n
  pub others : (k : ℕ) → k < n → (behind ≡ Some k → ⊥) → new k ≡ old k

-- there are as many, and the tables are the same
pub record IsSame (c d : Chains) : Type 0 where
  pub count : d.count ≡ c.count
  pub outer : d.outer.items ≡ c.outer.items
  pub inner : d.inner.items ≡ c.inner.items
  pub numbers : d.numbers.items ≡ c.numbers.items
  pub ends : d.ends.items ≡ c.ends.items

-- there are as many, and the tables tell the same of each place
pub record TellsSame (c d : Chains) : Type 0 where
  pub count : d.count ≡ c.count
  pub outer : (k : ℕ) → entry_at d.outer.items k ≡ entry_at c.outer.items k
  pub inner : (k : ℕ) → entry_at d.inner.items k ≡ entry_at c.inner.items k
  pub numbers : (k : ℕ) → entry_at d.numbers.items k ≡ entry_at c.numbers.items k
  pub ends : (k : ℕ) → entry_at d.ends.items k ≡ entry_at c.ends.items k

-- a row for each place fits into each table, and each place has a number
pub record HasRows (c : Chains) : Type 0 where
  pub few : c.count < 2 ^ 32
  pub outer : c.count ≤ vec_capacity c.outer
  pub inner : c.count ≤ vec_capacity c.inner
  pub numbers : c.count ≤ vec_capacity c.numbers
  pub ends : c.count ≤ vec_capacity c.ends

-- a row for one more fits into each table, were there one for each place
pub record HasFreeRows (c : Chains) : Type 0 where
  pub outer : c.count < vec_capacity c.outer
  pub inner : c.count < vec_capacity c.inner
  pub numbers : c.count < vec_capacity c.numbers
  pub ends : c.count < vec_capacity c.ends

-- one more fits, and has a number: behind another it takes a row of each table
pub record HasRoom (c : Chains) (behind : Option ℕ) : Type 0 where
  pub few : c.count + 1 < 2 ^ 32
  pub outer : IfSome behind (λ k. c.count < vec_capacity c.outer)
  pub inner : IfSome behind (λ k. c.count < vec_capacity c.inner)
  pub numbers : IfSome behind (λ k. c.count < vec_capacity c.numbers)
  pub ends : IfSome behind (λ k. c.count < vec_capacity c.ends)

-- The place n is added, and alone in the chain of its own number; it was put behind an earlier place.
pub record IsLone (c : Chains) (at n : ℕ) : Type 0 where
  pub early : at < n
  pub count : c.count ≡ n + 1
  pub outer : length c.outer.items ≡ n + 1
  pub inner : length c.inner.items ≡ n + 1
  pub numbers : length c.numbers.items ≡ n + 1
  pub ends : length c.ends.items ≡ n + 1
  pub chains : AreChains n (follower c.outer.items) (follower c.inner.items) (entry_at c.numbers.items) (entry_at c.ends.items)
  pub behind : follower c.inner.items n ≡ Some at
  pub last : follower c.outer.items n ≡ None
  pub number : entry_at c.numbers.items n ≡ n
  pub end : entry_at c.ends.items n ≡ n

-- all but the numbers of chains stays
pub record KeepsLinks (c d : Chains) : Type 0 where
  pub count : d.count ≡ c.count
  pub outer : d.outer.items ≡ c.outer.items
  pub inner : d.inner.items ≡ c.inner.items
  pub numbers : length d.numbers.items ≡ length c.numbers.items
  pub ends : d.ends.items ≡ c.ends.items

-- Those of the first n places that follow one in its chain have the number n now, and the others their old ones.
pub record IsOuterRenumbered (n : ℕ) (outer : ℕ → Option ℕ) (old new : ℕ → ℕ) (at : ℕ) : Type 0 where
  pub steps : (k j : ℕ) → k < n → outer k ≡ Some j → (k ≡ at → ⊥) → new j ≡ new k
  pub each : (k : ℕ) → k < n → (new k ≡ old k) ⊎ ((new k ≡ n) × (old k ≡ old at) × (at < k))
  pub end : (k : ℕ) → k < n → outer k ≡ None → old k ≡ old at → (k ≡ at → ⊥) → new k ≡ n
  pub newest : new n ≡ old n

-- One of the first n places and those that it follows in its chain have the number n now, and the others their old ones.
pub record IsInnerRenumbered (n : ℕ) (outer : ℕ → Option ℕ) (old new : ℕ → ℕ) (at : ℕ) : Type 0 where
  pub steps : (k j : ℕ) → k < n → outer k ≡ Some j → (k ≡ at → ⊥) → new j ≡ new k
  pub each : (k : ℕ) → k < n → (new k ≡ old k) ⊎ ((new k ≡ n) × (outer k ≡ None → k ≡ at))
  pub itself : new at ≡ n
  pub newest : new n ≡ old n
