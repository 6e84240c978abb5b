-- What holds of the nodes of a tree. (No public contract cites this.)
use Rattle.std.specs.Prelude.{◌≡◌, ℕ, ◌+◌, ◌*◌, ◌^◌, ◌≤◌, ◌==◌, if◌then◌else◌, List, [], ◌∷◌, length, vec_capacity}
use Rattle.rope.specs.declared.branch.Node.{Node}
use Rattle.rope.specs.declared.branch.Node.TheVariants.{Leaf, Inner}
use Rattle.rope.specs.Counts.{wide_chars, utf8_bytes}
use Rattle.rope.specs.Nodes.{Seen, all_chars, all_leaves}

-- the parts that a node of this depth has at least: one character of a leaf, or two branches
abbrev pub least : ℕ → ℕ
least d = if d == 1 then 1 else 2

-- no node has too few parts: there are leaves enough for the depth, and each has one to sixty-four characters
pub record IsSound (t : Seen) : Type 0 where
  pub deep : 1 ≤ t.depth
  pub parts : least t.depth ≤ t.parts
  pub enough : 2 ^ t.depth ≤ 2 * t.leaves
  pub some : t.leaves ≤ length t.chars
  pub few : length t.chars ≤ 64 * t.leaves

-- each branch is one level below d, and sound
abbrev pub AllBelow : ℕ → List Seen → Type 0
AllBelow d [] = Unit {0}
AllBelow d (k ∷ ks) = (k.depth + 1 ≡ d) × IsSound k × AllBelow d ks

-- the characters of a node, in order
abbrev pub chars_in : Node → List ℕ
chars_in (Leaf cs) = cs
chars_in (Inner kids) = all_chars kids.items

-- the number of its parts
abbrev pub parts_in : Node → ℕ
parts_in (Leaf cs) = length cs
parts_in (Inner kids) = length kids.items

-- a leaf has up to sixty-four characters, another node one to sixteen branches that are equally deep, and room for sixteen
abbrev pub IsNode : ℕ → ℕ → Node → Type 0
IsNode d leaves (Leaf cs) = (d ≡ 1) × (leaves ≡ 1) × (length cs ≤ 64)
IsNode d leaves (Inner kids) = AllBelow d kids.items × (leaves ≡ all_leaves kids.items) × (1 ≤ length kids.items) × (length kids.items ≤ 16) × (16 ≤ vec_capacity kids)

-- all leaves are equally deep, and the counts are right
pub record IsBranch (d count leaves wide bytes : ℕ) (node : Node) : Type 0 where
  pub shape : IsNode d leaves node
  pub counted : count ≡ length (chars_in node)
  pub doubled : wide ≡ wide_chars (chars_in node)
  pub spelled : bytes ≡ utf8_bytes (chars_in node)
