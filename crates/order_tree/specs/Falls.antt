-- Each branch of a node is one level lower than the node. (What a model cites has to stand here.)
use Rattle.std.specs.Prelude.{ℕ, ◌+◌, ◌≤◌, max, List, [], ◌∷◌}
use Rattle.std.proofs.Common.{arith}
use Rattle.ew_model.specs.declared.run.Run.{Ghosts}
use denote.Param.Weighed.{most}
use Rattle.order_tree.specs.declared.summary.Summary.{Summary}
use Rattle.order_tree.specs.declared.branch.Node.{Node}
use Rattle.order_tree.specs.declared.branch.Node.TheVariants.{Leaf, Inner}
use Rattle.order_tree.specs.declared.branch.Branch.TheDeep.{deep-Node}
use Rattle.order_tree.specs.Pairs.{Tree}
use Rattle.order_tree.specs.Shape.{AllBelow, IsBranch}

module _ {R : Type 0} where
  pub most-AllBelow : (d : ℕ) (ks : List (Tree R)) → AllBelow d ks → most (λ k. k.depth + 1) ks ≤ d
  most-AllBelow d [] h = omega arith
  most-AllBelow d (k ∷ ks) h = omega (arith, most-AllBelow d ks h.2)

  pub depth_falls : (G : Ghosts R) (d : ℕ) (summary : Summary) (node : Node R) → IsBranch G d summary node → max (deep-Node R G node) 0 ≤ d
  depth_falls G d summary (Leaf ps) h = omega arith
  depth_falls G d summary (Inner kids) h = omega (arith, most-AllBelow d kids.items h.shape.0)
