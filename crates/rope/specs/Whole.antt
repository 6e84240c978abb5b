-- What a whole tree is seen as.
use Rattle.std.specs.Prelude.{ℕ, Option, Some, None, List, []}
use Rattle.rope.specs.Nodes.{Seen}
use Rattle.rope.specs.Shape.{IsSound}

-- a text: its characters, in order, the number of the leaves that they stand in, and that of the levels of nodes, leaves included; without
-- characters there is no node
pub record Tree : Type 0 where
  pub chars : List ℕ
  pub leaves : ℕ
  pub depth : ℕ

-- the characters below a root, none without one
abbrev pub chars_of_root : Option Seen → List ℕ
chars_of_root None = []
chars_of_root (Some b) = b.chars

-- the number of the leaves
abbrev pub leaves_of : Option Seen → ℕ
leaves_of None = 0
leaves_of (Some b) = b.leaves

-- the number of the levels
abbrev pub depth_of : Option Seen → ℕ
depth_of None = 0
depth_of (Some b) = b.depth

-- a root is sound
abbrev pub IsRoot : Option Seen → Type 0
IsRoot None = Unit {0}
IsRoot (Some b) = IsSound b

-- there is a root, and it is sound
abbrev pub IsRooted : Option Seen → Type 0
IsRooted None = ⊥
IsRooted (Some b) = IsSound b
