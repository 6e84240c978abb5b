-- Paths down the tree of characters, and the order of its in-order walk: left children, the node, right children, and
-- children on one side by their ids (the tree of plain Fugue: The Art of the Fugue, 2023; the order of children on one
-- side is this project's own).
use Rattle.std.specs.Prelude.{Bool, false, ◌&&◌, List, [], ◌∷◌, ◌++◌}
use Rattle.std.specs.Ordering.{ordering_then, is_eq, is_lt}
use Rattle.std.specs.declared.cmp.Ordering.{Ordering}
use Rattle.std.specs.declared.cmp.Ordering.TheVariants.{Less, Equal, Greater}
use Rattle.ew_model.specs.declared.id.Id.{Id}
use Rattle.ew_model.specs.Ids.{id_cmp}

-- a child stands on the left or on the right of its parent
pub data Side : Type 0 where
  Left : Side
  Right : Side

-- one step down the tree: the side, and the id of the child reached
pub record Step : Type 0 where
  pub side : Side
  pub child : Id

-- left stands before right
abbrev pub side_cmp : Side → Side → Ordering
side_cmp Left Left = Equal
side_cmp Left Right = Less
side_cmp Right Left = Greater
side_cmp Right Right = Equal

-- two steps from one node: left before right, and on one side the lower id first
abbrev pub step_cmp : Step → Step → Ordering
step_cmp s t = ordering_then (side_cmp s.side t.side) (id_cmp s.child t.child)

-- where a node stands against what lies in a step below it
abbrev pub node_cmp : Side → Ordering
node_cmp Left = Greater
node_cmp Right = Less

-- where what lies in a step below a node stands against it
abbrev pub below_cmp : Side → Ordering
below_cmp Left = Less
below_cmp Right = Greater

-- the order of the walk: the first step at which two paths from the root differ decides
abbrev pub path_cmp : List Step → List Step → Ordering
path_cmp [] [] = Equal
path_cmp [] (t ∷ q) = node_cmp t.side
path_cmp (s ∷ p) [] = below_cmp s.side
path_cmp (s ∷ p) (t ∷ q) = ordering_then (step_cmp s t) (path_cmp p q)

-- the first path stands before the second
abbrev pub path_lt : List Step → List Step → Bool
path_lt p q = is_lt (path_cmp p q)

-- the second path is one step to the right of the first
abbrev pub is_right_child : List Step → List Step → Bool
is_right_child [] [] = false
is_right_child [] (t ∷ []) = is_eq (side_cmp t.side Right)
is_right_child [] (t ∷ u ∷ q) = false
is_right_child (s ∷ p) [] = false
is_right_child (s ∷ p) (t ∷ q) = is_eq (step_cmp s t) && is_right_child p q

-- the path of a child
abbrev pub step_down : List Step → Side → Id → List Step
step_down p side x = p ++ record { side = side; child = x } ∷ []
