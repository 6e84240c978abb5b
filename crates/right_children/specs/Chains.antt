-- Right children of the events before them, in chains.
use Rattle.std.specs.Prelude.{◌≡◌, ◌⊎◌, ℕ, suc, ◌+◌, ◌-◌, ◌<◌, ◌≤◌, nat_eq, nat_le, Bool, ◌&&◌, if◌then◌else◌, List, [], ◌∷◌, Option, Some, None, slice_get}
use Rattle.ew_model.specs.declared.node.Node.{Node}
use Rattle.ew_model.specs.declared.node.Node.TheVariants.{Event}
use Rattle.right_children.specs.declared.chains.Chain.{Chain}

-- the position is that of one of the chain's events
abbrev pub holds : Chain → ℕ → Bool
holds c n = nat_le c.first n && nat_le n c.last

-- what the node of one of the chain's events is a right child of
abbrev pub parent_by : Chain → ℕ → Node
parent_by c n = if nat_eq n c.first then c.parent else Event (n - 1)

-- what the node at a position is a right child of, by chains
abbrev pub parent_in : List Chain → ℕ → Option Node
parent_in [] n = None
parent_in (c ∷ chains) n = if holds c n then Some (parent_by c n) else parent_in chains n

-- the chains stand one behind the other, from a position on
abbrev pub AreInOrder : ℕ → List Chain → Type 0
AreInOrder low [] = Unit {0}
AreInOrder low (c ∷ chains) = (low ≤ c.first) × (c.first ≤ c.last) × AreInOrder (suc c.last) chains

-- the chains end before a position
abbrev pub AreBelow : ℕ → List Chain → Type 0
AreBelow n chains = (k : ℕ) (c : Chain) → slice_get chains k ≡ Some c → c.last < n

-- one of the chains has a position
pub record IsHeldBy (chains : List Chain) (n : ℕ) (c : Chain) : Type 0 where
  pub place : ℕ
  pub there : slice_get chains place ≡ Some c
  pub low : c.first ≤ n
  pub high : n ≤ c.last

-- the chain at a place has a position
abbrev pub HasAt : List Chain → ℕ → ℕ → Type 0
HasAt chains n place = (c : Chain) × (slice_get chains place ≡ Some c) × (c.first ≤ n) × (n ≤ c.last)

-- if a chain has a position, it is the one at this place
abbrev pub IsPlaceOf : List Chain → ℕ → ℕ → Type 0
IsPlaceOf chains n place = (k : ℕ) (c : Chain) → slice_get chains k ≡ Some c → c.first ≤ n → n ≤ c.last → k ≡ place

-- a right child of the node, at the position, goes on with the chain
pub record IsNextOf (c : Chain) (n : ℕ) (parent : Node) : Type 0 where
  pub next : n ≡ suc c.last
  pub hangs : parent ≡ Event c.last

-- the nodes at the positions from the first on that are below the second are each a right child of the one before
abbrev pub AreLinked : (ℕ → Option Node) → ℕ → ℕ → Type 0
AreLinked parent_at from to = (n : ℕ) → from ≤ n → n < to → (0 < n) × (parent_at n ≡ Some (Event (n - 1)))

-- the position is none of so many right behind the first one
abbrev pub IsApart : ℕ → ℕ → ℕ → Type 0
IsApart first count n = (k : ℕ) → k < count → n ≡ first + k + 1 → ⊥

-- the nodes of so many positions right behind the first one are each a right child of the one before
abbrev pub HangInLine : (ℕ → Option Node) → ℕ → ℕ → Type 0
HangInLine parent_at first count = (k : ℕ) → k < count → parent_at (first + k + 1) ≡ Some (Event (first + k))

-- of each position it is told what was, or else it is one of those, and it is told that its node hangs so
abbrev pub AreToldOn : (ℕ → Option Node) → (ℕ → Option Node) → ℕ → ℕ → Type 0
AreToldOn old new first count = (n : ℕ) → (new n ≡ old n) ⊎ ((k : ℕ) × (k < count) × (n ≡ first + k + 1) × (new n ≡ Some (Event (first + k))))

-- of the nodes of so many positions right behind the first one it is told that they hang in line, and nothing is told anew of any other
pub record HangOn (old new : ℕ → Option Node) (first count : ℕ) : Type 0 where
  pub each : HangInLine new first count
  pub told : AreToldOn old new first count

-- the chain has the position, and it is what is told of that and of those behind it
pub record Tells (chains : List Chain) (n : ℕ) (c : Chain) : Type 0 where
  pub low : c.first ≤ n
  pub high : n ≤ c.last
  pub own : parent_in chains n ≡ Some (parent_by c n)
  pub behind : AreLinked (parent_in chains) (n + 1) (c.last + 1)
