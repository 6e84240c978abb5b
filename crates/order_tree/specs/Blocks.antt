-- Blocks of nodes that aren't made yet. (No public contract cites this.)
use Rattle.std.specs.Prelude.{◌≡◌, ℕ, ◌≤◌, ◌<◌, Option, Some, None, List, [], length, vec_capacity, All}
use Rattle.std.specs.declared.vec.Vec.{Vec}
use Rattle.std.specs.declared.alloc.Global.{Global}

-- a block is empty and has room for sixteen parts
abbrev pub IsRoomy : {X : Type 0} → Vec X Global → Type 0
IsRoomy b = (b.items ≡ []) × (16 ≤ vec_capacity b)

-- each is
abbrev pub AllRoomy : {X : Type 0} → List (Vec X Global) → Type 0
AllRoomy bs = All IsRoomy bs

-- one more part finds a place: there is room among the parts, or all sixteen places are taken and there is a block
abbrev pub HasPlace : {X : Type 0} → List X → Option (Vec X Global) → Type 0
HasPlace parts None = length parts < 16
HasPlace parts (Some b) = (length parts ≡ 16) × IsRoomy b

-- what a block holds, if there is one
abbrev pub items_of : {X : Type 0} → Option (Vec X Global) → List X
items_of None = []
items_of (Some b) = b.items

-- there is room for one more part of a node that has so many, or there are blocks for it and for the full nodes above
abbrev pub IsSupplied : {X : Type 0} → ℕ → ℕ → Option (Vec X Global) → ℕ → Type 0
IsSupplied many above None spares = (many < 16) × (spares ≡ 0)
IsSupplied many above (Some block) spares = (many ≡ 16) × IsRoomy block × (spares ≡ above)

-- a node has some and few parts, or stands in two halves, and blocks are left for the full nodes above
abbrev pub IsHalved : {X : Type 0} → ℕ → List X → Option (Vec X Global) → ℕ → Type 0
IsHalved above left None spares = (1 ≤ length left) × (length left ≤ 16) × (spares ≡ 0)
IsHalved above left (Some right) spares = (2 ≤ length left) × (length left ≤ 16) × (2 ≤ length right.items) × (length right.items ≤ 16) × (16 ≤ vec_capacity right) × (spares ≡ above)
