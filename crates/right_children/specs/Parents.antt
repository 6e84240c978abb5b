-- The parents of right children, by position.
use Rattle.std.specs.Prelude.{ℕ, Option, unwrap_or}
use Rattle.std.specs.BTreeMap.{get}
use Rattle.std.specs.Ordering.{nat_cmp}
use Rattle.ew_model.specs.declared.node.Node.{Node}
use Rattle.right_children.specs.declared.parents.Parents.{Parents}
use Rattle.right_children.specs.Chains.{parent_in}

-- what the node at a position is a right child of: as it is noted of some positions, else by the chains
abbrev pub parent_at : Parents → ℕ → Option Node
parent_at p n = unwrap_or (get nat_cmp p.others n) (parent_in p.chains n)
