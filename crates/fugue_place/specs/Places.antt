-- Where children stand in the list of all, by their nodes.
use Rattle.std.specs.Prelude.{◌≡◌, ℕ, ◌+◌, ◌-◌, ◌≤◌, Bool, true, List, length, take, slice_get, Some}
use Rattle.std.specs.BTreeMap.{get}
use Rattle.std.specs.Option.{option_map_or}
use Rattle.std.specs.Ordering.{is_lt}
use Rattle.std.specs.declared.cmp.Ordering.TheVariants.{Less}
use Rattle.ew_model.specs.declared.node.Node.{Node}
use Rattle.fugue_place.specs.declared.child.Attached.{Attached}
use Rattle.fugue_place.specs.declared.places.Places.{Places}
use Rattle.fugue_place.specs.Spots.{node_cmp}

-- the child at the place has the node
abbrev pub HasNodeAt : List Attached → Node → ℕ → Type 0
HasNodeAt children v k = (a : Attached) × (slice_get children k ≡ Some a) × (a.node ≡ v)

-- each node is above the one before it
abbrev pub AreRising : List Attached → Type 0
AreRising children = (k : ℕ) (a b : Attached) → slice_get children k ≡ Some a → slice_get children (k + 1) ≡ Some b → node_cmp a.node b.node ≡ Less

-- the node is above that of the child that was attached last
abbrev pub is_above_newest : List Attached → Node → Bool
is_above_newest children v = option_map_or (λ (a : Attached). is_lt (node_cmp a.node v)) (slice_get children (length children - 1)) true

-- The nodes of so many children rise, and what is kept under the node of each further child is its place.
pub record ArePlaces (children : List Attached) (places : Places) : Type 0 where
  pub within : places.rising ≤ length children
  pub rise : AreRising (take places.rising children)
  pub tells : (k : ℕ) (a : Attached) → slice_get children k ≡ Some a → places.rising ≤ k → get node_cmp places.others a.node ≡ Some k
  pub told : (v : Node) (k : ℕ) → get node_cmp places.others v ≡ Some k → HasNodeAt children v k

-- so many children more stand ahead of the first whose node doesn't rise
abbrev pub with_rising : Places → ℕ → Places
with_rising places n = record { rising = places.rising + n; others = places.others }
