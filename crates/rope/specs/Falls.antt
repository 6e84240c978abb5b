-- Each branch of a node is one level lower than the node. (What a model cites has to stand here.)
use Rattle.std.specs.Prelude.{ℕ, ◌+◌, ◌≤◌, max, List, [], ◌∷◌}
use Rattle.std.proofs.Common.{arith}
use denote.Param.Weighed.{most}
use Rattle.rope.specs.declared.branch.Node.{Node}
use Rattle.rope.specs.declared.branch.Node.TheVariants.{Leaf, Inner}
use Rattle.rope.specs.declared.branch.Branch.TheDeep.{deep-Node}
use Rattle.rope.specs.Nodes.{Seen}
use Rattle.rope.specs.Shape.{AllBelow, IsBranch}

pub most-AllBelow : (d : ℕ) (ks : List Seen) → AllBelow d ks → most (λ k. k.depth + 1) ks ≤ d
most-AllBelow d [] h = omega arith
most-AllBelow d (k ∷ ks) h = omega (arith, most-AllBelow d ks h.2)

pub depth_falls : (d count leaves wide bytes : ℕ) (node : Node) → IsBranch d count leaves wide bytes node → max (deep-Node node) 0 ≤ d
depth_falls d count leaves wide bytes (Leaf cs) h = omega arith
depth_falls d count leaves wide bytes (Inner kids) h = omega (arith, most-AllBelow d kids.items h.shape.0)
