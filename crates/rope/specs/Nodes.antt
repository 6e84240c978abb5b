-- What is seen of the nodes of a tree.
use Rattle.std.specs.Prelude.{ℕ, List, sum_by}
use Rattle.std.specs.List.{flat_map}

-- of a node: the characters below it, the number of levels down to the leaves, the number of leaves, and that of its own parts, which
-- are a leaf's characters or another node's branches
pub record Seen : Type 0 where
  pub chars : List ℕ
  pub depth : ℕ
  pub leaves : ℕ
  pub parts : ℕ

-- the characters of branches, in order
abbrev pub all_chars : List Seen → List ℕ
all_chars ks = flat_map (λ k. k.chars) ks

-- the leaves of branches, counted
abbrev pub all_leaves : List Seen → ℕ
all_leaves ks = sum_by (λ k. k.leaves) ks
