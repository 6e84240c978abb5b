-- The second half of a branch that may have been cut in two. (No public contract cites this.)
use Rattle.std.specs.Prelude.{◌≡◌, ℕ, ◌+◌, ◌<◌, ◌≤◌, Option, Some, None, List, [], ◌++◌, length, insert, vec_capacity, nat_lt, if◌then◌else◌}
use Rattle.std.specs.declared.vec.Vec.{Vec}
use Rattle.std.specs.declared.alloc.Global.{Global}
use Rattle.ew_model.specs.declared.run.Run.{Ghosts}
use Rattle.order_tree.specs.declared.summary.Sums.{Sums}
use Rattle.order_tree.specs.declared.edit.Edit.{Edit}
use Rattle.order_tree.specs.Pairs.{Tree, IsDepthOf}
use Rattle.order_tree.specs.Edits.{IsEdited}

-- a block has so many parts or more, up to sixteen, and room for sixteen
abbrev pub HasParts : {X : Type 0} → ℕ → Vec X Global → Type 0
HasParts n b = (n ≤ length b.items) × (length b.items ≤ 16) × (16 ≤ vec_capacity b)

module _ {R : Type 0} where
  -- its pairs, none where there is none
  abbrev pub pairs_of_right : Option (Tree R) → List (ℕ × R)
  pairs_of_right None = []
  pairs_of_right (Some b) = b.pairs

  -- it is so deep, and has as many runs as that depth allows
  abbrev pub IsLike : ℕ → Option (Tree R) → Type 0
  IsLike d None = Unit {0}
  IsLike d (Some b) = (b.depth ≡ d) × IsDepthOf b.depth (length b.pairs)

  -- it finds a place among so many branches, or there is a spare block
  abbrev pub HasSpare : Option (Tree R) → ℕ → ℕ → Type 0
  HasSpare None many spares = Unit {0}
  HasSpare (Some b) many spares = 16 ≤ many → 0 < spares

  -- so many spare blocks are left: those for the full nodes above, where there is a second half
  abbrev pub IsLeft : ℕ → Option (Tree R) → ℕ → Type 0
  IsLeft above None spares = spares ≡ 0
  IsLeft above (Some b) spares = spares ≡ above

  -- the branches with it at a place
  abbrev pub with_right : List (Tree R) → ℕ → Option (Tree R) → List (Tree R)
  with_right ks at None = ks
  with_right ks at (Some b) = insert ks at b

  -- an edit made this branch of that, with a second half where it was cut in two, and left so many spare blocks
  pub record IsBranchEdit (G : Ghosts R) (edit : Edit R) (bound label above : ℕ) (old new : Tree R) (right : Option (Tree R)) (own : ℕ) (lost gained : Sums) (spares : ℕ) : Type 0 where
    pub edited : IsEdited G edit bound label old.pairs (new.pairs ++ pairs_of_right right) own lost gained
    pub depth : new.depth ≡ old.depth
    pub enough : IsDepthOf new.depth (length new.pairs)
    pub like : IsLike old.depth right
    pub left : IsLeft above right spares

-- how many full nodes stand right above the branches of a node that has so many
abbrev pub above_kids : ℕ → ℕ → ℕ
above_kids many above = if nat_lt many 16 then 0 else above + 1

-- the leaf of these pairs
abbrev pub leaf_of : {R : Type 0} → List (ℕ × R) → Tree R
leaf_of ps = record { pairs = ps; depth = 1 }
