-- Leaves and blocks of nodes that aren't made yet. (No public contract cites this.)
use Rattle.std.specs.Prelude.{◌≡◌, ℕ, ◌≤◌, ◌<◌, Option, Some, None, List, [], length, vec_capacity}
use Rattle.std.specs.declared.vec.Vec.{Vec}
use Rattle.std.specs.declared.alloc.Global.{Global}

-- how many leaves are held, and how many blocks
pub record Held : Type 0 where
  pub leaves : ℕ
  pub nodes : ℕ

-- a leaf has no characters
abbrev pub IsBlank : List ℕ → Type 0
IsBlank cs = cs ≡ []

-- a block is empty and has room for sixteen branches
abbrev pub IsRoomy : {X : Type 0} → Vec X Global → Type 0
IsRoomy b = (b.items ≡ []) × (16 ≤ vec_capacity b)

-- one more branch finds a place: there is room, or all sixteen places are taken and there is a block
abbrev pub HasPlace : {X : Type 0} → List X → Option (Vec X Global) → Type 0
HasPlace kids None = length kids < 16
HasPlace kids (Some b) = (length kids ≡ 16) × IsRoomy b

-- what a block holds, if there is one
abbrev pub items_of : {X : Type 0} → Option (Vec X Global) → List X
items_of None = []
items_of (Some b) = b.items
