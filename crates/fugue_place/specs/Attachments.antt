-- Children attached one after another, and the paths that they have in the tree.
use Rattle.std.specs.Prelude.{◌≡◌, ◌-◌, nat_eq, Bool, true, false, List, [], ◌∷◌, ◌++◌, length, Option, slice_get, fold, if◌then◌else◌}
use Rattle.std.specs.List.{list_any}
use Rattle.std.specs.Option.{option_map, option_map_or}
use Rattle.ew_model.specs.declared.id.Id.{Id}
use Rattle.ew_model.specs.declared.node.Node.{Node}
use Rattle.ew_model.specs.declared.node.Node.TheVariants.{Root, Base, Event}
use Rattle.ew_model.specs.Ids.{id_eq}
use Rattle.ew_model.specs.Paths.{Step, step_down}
use Rattle.ew_model.specs.Paths as paths
use Rattle.ew_model.specs.Paths.Side.{Left, Right}
use Rattle.ew_model.specs.Tree.{base_path}
use Rattle.fugue_place.specs.declared.child.Side.{Side}
use Rattle.fugue_place.specs.declared.child.Side.TheVariants as s
use Rattle.fugue_place.specs.declared.child.Attached.{Attached}

-- the side, as paths have it
abbrev pub side_of : Side → paths.Side
side_of s.Left = Left
side_of s.Right = Right

-- the two are one node
abbrev pub node_eq : Node → Node → Bool
node_eq Root Root = true
node_eq Root (Base j) = false
node_eq Root (Event j) = false
node_eq (Base i) Root = false
node_eq (Base i) (Base j) = nat_eq i j
node_eq (Base i) (Event j) = false
node_eq (Event i) Root = false
node_eq (Event i) (Base j) = false
node_eq (Event i) (Event j) = nat_eq i j

-- the node is an event's
abbrev pub is_event : Node → Bool
is_event Root = false
is_event (Base i) = false
is_event (Event i) = true

-- the node is attached
abbrev pub is_attached : List Attached → Node → Bool
is_attached attached v = list_any (λ (a : Attached). node_eq a.node v) attached

-- the node of the child that was attached last
abbrev pub newest_node : List Attached → Option Node
newest_node attached = option_map (λ (a : Attached). a.node) (slice_get attached (length attached - 1))

-- the node is that of the child that was attached last
abbrev pub is_newest : List Attached → Node → Bool
is_newest attached v = option_map_or (λ (a : Attached). node_eq a.node v) (slice_get attached (length attached - 1)) false

-- it is the root, a base character or attached
abbrev pub is_there : List Attached → Node → Bool
is_there attached Root = true
is_there attached (Base i) = true
is_there attached (Event i) = is_attached attached (Event i)

-- a node is attached under the id
abbrev pub has_id : List Attached → Id → Bool
has_id attached x = list_any (λ (a : Attached). id_eq a.id x) attached

-- The path of a node without any that is attached: the root's, or that of a base character.
abbrev pub own_path : Node → List Step
own_path Root = []
own_path (Base i) = base_path i
own_path (Event i) = []

-- the paths, with that of one more child
abbrev pub with_child : (Node → List Step) → Attached → Node → List Step
with_child path a v = if node_eq a.node v then step_down (path a.parent) (side_of a.side) a.id else path v

-- the path of each node: a child's is that of its parent and one step more
unfoldable pub path_of : List Attached → Node → List Step
path_of attached = fold with_child own_path attached

-- The child may be attached behind these: it is an event's node, new, as its id is, and its parent is there. An id has an
-- agent.
pub record MayAttach (attached : List Attached) (a : Attached) : Type 0 where
  pub event : is_event a.node ≡ true
  pub new : is_attached attached a.node ≡ false
  pub parent : is_there attached a.parent ≡ true
  pub unused : has_id attached a.id ≡ false
  pub agent : a.id.agent ≡ [] → ⊥

-- the later ones may be attached, one after another
abbrev pub AreAttached : List Attached → List Attached → Type 0
AreAttached before [] = Unit {0}
AreAttached before (a ∷ later) = MayAttach before a × AreAttached (before ++ a ∷ []) later
