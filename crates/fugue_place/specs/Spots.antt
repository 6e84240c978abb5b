-- The order in which children are found, and what is found there.
use Rattle.std.specs.Prelude.{◌≡◌, ℕ, false, List, take, slice_get, Option, Some, None, IsSome}
use Rattle.std.specs.BTreeMap.Range.{IsLeBy, IsLtBy}
use Rattle.std.specs.declared.cmp.Ordering.{Ordering}
use Rattle.std.specs.declared.cmp.Ordering.TheVariants.{Less, Equal, Greater}
use Rattle.std.specs.Ordering.{nat_cmp, ordering_then, is_lt}
use Rattle.ew_model.specs.declared.id.Id.{Id}
use Rattle.ew_model.specs.declared.node.Node.{Node}
use Rattle.ew_model.specs.declared.node.Node.TheVariants.{Root, Base, Event}
use Rattle.ew_model.specs.Ids.{id_cmp}
use Rattle.fugue_place.specs.declared.child.Side.{Side}
use Rattle.fugue_place.specs.declared.child.Side.TheVariants.{Left, Right}
use Rattle.fugue_place.specs.declared.child.Attached.{Attached}
use Rattle.fugue_place.specs.declared.line.Line.{Line}
use Rattle.fugue_place.specs.declared.spot.Rank.{Rank}
use Rattle.fugue_place.specs.declared.spot.Rank.TheVariants.{First, Of, Last}
use Rattle.fugue_place.specs.declared.spot.Spot.{Spot}
use Rattle.fugue_place.specs.Heirs.{is_heir}

-- the root, base characters by their numbers, events by their positions
abbrev pub node_cmp : Node → Node → Ordering
node_cmp Root Root = Equal
node_cmp Root (Base j) = Less
node_cmp Root (Event j) = Less
node_cmp (Base i) Root = Greater
node_cmp (Base i) (Base j) = nat_cmp i j
node_cmp (Base i) (Event j) = Less
node_cmp (Event i) Root = Greater
node_cmp (Event i) (Base j) = Greater
node_cmp (Event i) (Event j) = nat_cmp i j

abbrev pub side_cmp : Side → Side → Ordering
side_cmp Left Left = Equal
side_cmp Left Right = Less
side_cmp Right Left = Greater
side_cmp Right Right = Equal

-- children by their ids, between both ends
abbrev pub rank_cmp : Rank → Rank → Ordering
rank_cmp First First = Equal
rank_cmp First (Of y) = Less
rank_cmp First Last = Less
rank_cmp (Of x) First = Greater
rank_cmp (Of x) (Of y) = id_cmp x y
rank_cmp (Of x) Last = Less
rank_cmp Last First = Greater
rank_cmp Last (Of y) = Greater
rank_cmp Last Last = Equal

-- by the parent, then by the side, then by the rank
abbrev pub spot_cmp : Spot → Spot → Ordering
spot_cmp a b = ordering_then (node_cmp a.parent b.parent) (ordering_then (side_cmp a.side b.side) (rank_cmp a.rank b.rank))

-- where a child is found
abbrev pub spot_of : Attached → Spot
spot_of a = record { parent = a.parent; side = a.side; rank = Of a.id }

-- the spot ahead of all children in a line
abbrev pub ahead_of : Line → Spot
ahead_of line = record { parent = line.parent; side = line.side; rank = First }

-- the rank behind all ids below the limit
abbrev pub rank_behind : Option Id → Rank
rank_behind None = Last
rank_behind (Some limit) = Of limit

-- the spot behind all children in a line
abbrev pub behind : Line → Spot
behind line = record { parent = line.parent; side = line.side; rank = rank_behind line.below }

-- What is kept under the spot of a child that is no heir is its place in the list, and only places of children are kept.
pub record IsIndex (children : List Attached) (find : Spot → Option ℕ) : Type 0 where
  pub tells : (k : ℕ) (a : Attached) → slice_get children k ≡ Some a → is_heir (take k children) a ≡ false → find (spot_of a) ≡ Some k
  pub told : (spot : Spot) (k : ℕ) → find spot ≡ Some k → (a : Attached) × (slice_get children k ≡ Some a) × (spot_of a ≡ spot)

-- the spot lies from the first up to the second
pub record IsBetween (from to at : Spot) : Type 0 where
  pub above : IsLeBy spot_cmp from at
  pub below : IsLtBy spot_cmp at to

-- k is found at the last spot of those between two, or at the first
pub record IsLastBetween (find : Spot → Option ℕ) (from to : Spot) (k : ℕ) : Type 0 where
  pub spot : Spot
  pub here : find spot ≡ Some k
  pub between : IsBetween from to spot
  pub last : (q : Spot) → IsBetween from to q → IsSome (find q) → is_lt (spot_cmp spot q) ≡ false

pub record IsFirstBetween (find : Spot → Option ℕ) (from to : Spot) (k : ℕ) : Type 0 where
  pub spot : Spot
  pub here : find spot ≡ Some k
  pub between : IsBetween from to spot
  pub first : (q : Spot) → IsBetween from to q → IsSome (find q) → IsLeBy spot_cmp spot q

-- nothing is found between the two
abbrev pub IsNoneBetween : (Spot → Option ℕ) → Spot → Spot → Type 0
IsNoneBetween find from to = (q : Spot) → IsBetween from to q → find q ≡ None
