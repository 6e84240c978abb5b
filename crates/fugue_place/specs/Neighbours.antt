-- Which neighbour a place names, and which children decide it.
use Rattle.std.specs.Prelude.{◌≡◌, ℕ, ◌+◌, ◌<◌, ◌≤◌, nat_lt, Bool, true, false, ◌&&◌, ◌⊎◌, List}
use Rattle.std.specs.List.{list_any}
use Rattle.ew_model.specs.declared.id.Id.{Id}
use Rattle.ew_model.specs.declared.node.Node.{Node}
use Rattle.ew_model.specs.declared.node.Node.TheVariants.{Root, Base, Event}
use Rattle.ew_model.specs.Ids.{id_lt}
use Rattle.ew_model.specs.Sets.{Among}
use Rattle.ew_model.specs.Paths.{Step, step_down}
use Rattle.ew_model.specs.Entries.{Inserted}
use Rattle.ew_model.specs.Siblings.{StandsBehind, StandsAhead}
use Rattle.ew_model.specs.Tree.{base_path}
use Rattle.fugue_place.specs.declared.child.Side.{Side}
use Rattle.fugue_place.specs.declared.child.Side.TheVariants.{Left, Right}
use Rattle.fugue_place.specs.declared.child.Attached.{Attached}
use Rattle.fugue_place.specs.declared.neighbour.Place.{Place}
use Rattle.fugue_place.specs.declared.neighbour.Place.TheVariants.{After, Before}
use Rattle.fugue_place.specs.Attachments.{side_of, node_eq, is_attached, is_there, path_of}
use Rattle.fugue_place.specs.Subtrees.{HasBase}

-- the two are one side
abbrev pub side_eq : Side → Side → Bool
side_eq Left Left = true
side_eq Left Right = false
side_eq Right Left = false
side_eq Right Right = true

-- a child of the node on this side
abbrev pub is_child : Node → Side → Attached → Bool
is_child parent side a = node_eq a.parent parent && side_eq a.side side

-- a child is attached there
abbrev pub has_child : List Attached → Node → Side → Bool
has_child attached parent side = list_any (is_child parent side) attached

-- some attached right child of the node is so
abbrev pub SomeRightChild : (Node → Type 0) → List Attached → Node → Type 0
SomeRightChild P attached v = (a : Attached) × Among a attached × (is_child v Right a ≡ true) × P a.node

-- each attached right child of the node is so
abbrev pub EveryRightChild : (Node → Type 0) → List Attached → Node → Type 0
EveryRightChild P attached v = (a : Attached) → Among a attached → is_child v Right a ≡ true → P a.node

-- a child with a lower id is attached there
abbrev pub has_lower : List Attached → Node → Side → Id → Bool
has_lower attached parent side x = list_any (λ (a : Attached). is_child parent side a && id_lt a.id x) attached

-- The first node is a base character: with a greater number than the second, where that is one too; with any, where it is
-- the root.
abbrev pub is_beyond : Node → Node → Bool
is_beyond Root v = false
is_beyond (Base j) Root = true
is_beyond (Base j) (Base i) = nat_lt i j
is_beyond (Base j) (Event n) = false
is_beyond (Event m) v = false

-- No attached node descends from such a base character: none hangs on one.
abbrev pub has_beyond : List Attached → Node → Bool
has_beyond attached v = list_any (λ (a : Attached). is_beyond a.parent v) attached

-- the path of a base character below this number, or of an attached node
abbrev pub IsNodePath : List Attached → ℕ → List Step → Type 0
IsNodePath attached b p = ((i : ℕ) × (i < b) × (p ≡ base_path i)) ⊎ ((a : Attached) × Among a attached × (p ≡ path_of attached a.node))

-- The nodes are among those of the tree of so many base characters and the attached nodes, and no node hangs on a further
-- base character.
pub record AreNodesOf (attached : List Attached) (b : ℕ) (nodes : List Inserted) : Type 0 where
  pub only : (z : Inserted) → Among z nodes → IsNodePath attached b z.path
  pub enough : HasBase attached b

-- On the right, the base ends at the parent: so many base characters go no further.
abbrev pub BaseEndsAt : Node → Side → ℕ → Type 0
BaseEndsAt v Left b = Unit {0}
BaseEndsAt Root Right b = b ≡ 0
BaseEndsAt (Base i) Right b = b ≤ i + 1
BaseEndsAt (Event n) Right b = Unit {0}

-- among the nodes the path stands at this place
abbrev pub StandsAt : List Attached → List Inserted → List Step → Place → Type 0
StandsAt attached nodes p (After v) = StandsBehind nodes p (path_of attached v)
StandsAt attached nodes p (Before v) = StandsAhead nodes p (path_of attached v)

-- the node that a place is beside
abbrev pub neighbour_of : Place → Node
neighbour_of (After v) = v
neighbour_of (Before v) = v

-- the place is behind its node
abbrev pub is_after : Place → Bool
is_after (After v) = true
is_after (Before v) = false

-- right beside the node on this side
abbrev pub beside : Side → Node → Place
beside Left v = Before v
beside Right v = After v

-- The place of a new child with this id: behind a node where a sibling with a lower id is attached, ahead of one where only
-- higher ones are, beside the parent where none is. That node is the parent, or attached. And in every tree that the children stand for, it is right behind that
-- node, or right ahead of it.
pub record IsPlaceOfNew (attached : List Attached) (parent : Node) (side : Side) (x : Id) (place : Place) : Type 0 where
  pub lower : has_lower attached parent side x ≡ true → is_after place ≡ true
  pub higher : has_lower attached parent side x ≡ false → has_child attached parent side ≡ true → is_after place ≡ false
  pub alone : has_child attached parent side ≡ false → place ≡ beside side parent
  pub there : is_there attached (neighbour_of place) ≡ true
  pub near : (neighbour_of place ≡ parent) ⊎ (is_attached attached (neighbour_of place) ≡ true)
  pub stands : (b : ℕ) (nodes : List Inserted) → AreNodesOf attached b nodes → BaseEndsAt parent side b → StandsAt attached nodes (step_down (path_of attached parent) (side_of side) x) place
