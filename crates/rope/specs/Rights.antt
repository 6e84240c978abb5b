-- The second half of a branch that may have been cut in two. (No public contract cites this.)
use Rattle.std.specs.Prelude.{◌≡◌, ℕ, ◌+◌, ◌≤◌, ◌<◌, Option, Some, None, List, [], ◌++◌, insert}
use Rattle.std.specs.declared.vec.Vec.{Vec}
use Rattle.std.specs.declared.alloc.Global.{Global}
use Rattle.rope.specs.Blocks.{IsRoomy}
use Rattle.rope.specs.Nodes.{Seen}
use Rattle.rope.specs.Shape.{IsSound}
use Rattle.rope.specs.Typed.{with_more}

-- its characters, none where there is none
abbrev pub chars_of_right : Option Seen → List ℕ
chars_of_right None = []
chars_of_right (Some b) = b.chars

-- it is so deep, and sound
abbrev pub IsLike : ℕ → Option Seen → Type 0
IsLike d None = Unit {0}
IsLike d (Some b) = (b.depth ≡ d) × IsSound b

-- it finds a place among so many branches, or there is a spare block
abbrev pub HasSpare : Option Seen → ℕ → ℕ → Type 0
HasSpare None many spares = Unit {0}
HasSpare (Some b) many spares = 16 ≤ many → 0 < spares

-- blocks are left for so many full nodes above, where there is a second half
abbrev pub IsLeft : ℕ → Option Seen → ℕ → Type 0
IsLeft above None spares = Unit {0}
IsLeft above (Some b) spares = above ≤ spares

-- the branches with it at a place
abbrev pub with_right : List Seen → ℕ → Option Seen → List Seen
with_right ks at None = ks
with_right ks at (Some b) = insert ks at b

-- more characters were put into a branch at an index, which may have been cut in two
pub record IsGrown (old new : Seen) (right : Option Seen) (at : ℕ) (more : List ℕ) : Type 0 where
  pub chars : new.chars ++ chars_of_right right ≡ with_more old.chars at more
  pub depth : new.depth ≡ old.depth
  pub sound : IsSound new
  pub like : IsLike old.depth right

-- the last branch of a node that has no other, with an empty block; none of a leaf without characters
abbrev pub IsLastOf : Seen → Option (Seen × Vec Seen Global) → Type 0
IsLastOf t None = t.chars ≡ []
IsLastOf t (Some last) = (t.chars ≡ last.0.chars) × (last.0.depth + 1 ≡ t.depth) × IsSound last.0 × IsRoomy last.1
