-- What a branch of the tree is seen as, and what holds of it. (No public contract cites this.)
use Rattle.std.specs.Prelude.{◌≡◌, ℕ, ◌+◌, ◌≤◌, List, [], ◌∷◌, length, vec_capacity}
use Rattle.ew_model.specs.declared.run.Run.{Ghosts}
use Rattle.order_tree.specs.declared.summary.Summary.{Summary}
use Rattle.order_tree.specs.declared.branch.Node.{Node}
use Rattle.order_tree.specs.declared.branch.Node.TheVariants.{Leaf, Inner}
use Rattle.order_tree.specs.Pairs.{Tree, IsDepthOf}
use Rattle.order_tree.specs.Parts.{all_pairs, summary_of}

module _ {R : Type 0} where
  -- the pairs of a node, in order
  abbrev pub pairs_in : Node R → List (ℕ × R)
  pairs_in (Leaf ps) = ps.items
  pairs_in (Inner kids) = all_pairs (λ k. k.pairs) kids.items

  -- each branch is one level below d, and has as many runs as its depth allows
  abbrev pub AllBelow : ℕ → List (Tree R) → Type 0
  AllBelow d [] = Unit {0}
  AllBelow d (k ∷ ks) = (k.depth + 1 ≡ d) × IsDepthOf k.depth (length k.pairs) × AllBelow d ks

  -- a leaf has one to sixteen runs, another node two to sixteen branches that are equally deep; there is room for sixteen
  abbrev pub IsNode : ℕ → Node R → Type 0
  IsNode d (Leaf ps) = (d ≡ 1) × (1 ≤ length ps.items) × (length ps.items ≤ 16) × (16 ≤ vec_capacity ps)
  IsNode d (Inner kids) = AllBelow d kids.items × (2 ≤ length kids.items) × (length kids.items ≤ 16) × (16 ≤ vec_capacity kids)

  -- all leaves are equally deep, and what is kept of the pairs is right
  pub record IsBranch (G : Ghosts R) (d : ℕ) (summary : Summary) (node : Node R) : Type 0 where
    pub shape : IsNode d node
    pub kept : summary ≡ summary_of G (pairs_in node)
