-- The whole tree of some base characters and the attached nodes, and where its subtrees end.
use Rattle.std.specs.Prelude.{◌≡◌, ℕ, ◌<◌, List, ◌++◌, map, slice_get}
use Rattle.std.specs.Option.{option_map_or}
use Rattle.ew_model.specs.declared.node.Node.{Node}
use Rattle.ew_model.specs.declared.node.Node.TheVariants.{Root, Base}
use Rattle.ew_model.specs.Sets.{Among}
use Rattle.ew_model.specs.Paths.{Side, Step}
use Rattle.ew_model.specs.Paths.Side.{Left, Right}
use Rattle.ew_model.specs.Entries.{Inserted, insertions}
use Rattle.ew_model.specs.Siblings.{IsLastBelow, IsFirstBelow}
use Rattle.ew_model.specs.Tree.{based}
use Rattle.fugue_place.specs.declared.child.Attached.{Attached}
use Rattle.fugue_place.specs.Attachments.{path_of}

-- the node of the child at a place, the root where there is none
abbrev pub node_at : List Attached → ℕ → Node
node_at attached k = option_map_or (λ (a : Attached). a.node) (slice_get attached k) Root

-- no node hangs on a further base character
abbrev pub HasBase : List Attached → ℕ → Type 0
HasBase attached b = (a : Attached) (i : ℕ) → Among a attached → a.parent ≡ Base i → i < b

-- an attached node, at its path
abbrev pub node_in : List Attached → Attached → Inserted
node_in attached a = record { id = a.id; path = path_of attached a.node; ch = 0 }

-- the nodes of b base characters and the attached ones
unfoldable pub tree_nodes : ℕ → List Attached → List Inserted
tree_nodes b attached = insertions (based b) ++ map (node_in attached) attached

-- one of the nodes has the second path, and is the last of those at the first path and below, or the first of them
abbrev pub IsEnd : Side → List Inserted → List Step → Inserted → Type 0
IsEnd Left nodes p y = IsFirstBelow nodes p y
IsEnd Right nodes p y = IsLastBelow nodes p y

abbrev pub EndsBelow : Side → List Inserted → List Step → List Step → Type 0
EndsBelow side nodes p q = (y : Inserted) × (y.path ≡ q) × IsEnd side nodes p y

-- What ends the subtree of the child at the second place ends that of the child at the first.
abbrev pub Reaches : Side → List Attached → ℕ → ℕ → Type 0
Reaches side attached from at =
    (b : ℕ) → HasBase attached b → (y : Inserted) → IsEnd side (tree_nodes b attached) (path_of attached (node_at attached at)) y
    → IsEnd side (tree_nodes b attached) (path_of attached (node_at attached from)) y
