-- What a tree is seen as, and what holds of it.
use Rattle.std.specs.Prelude.{◌≡◌, ℕ, ◌*◌, ◌^◌, ◌<◌, ◌≤◌, Option, Some, None, [], length, All}
use Rattle.ew_model.specs.declared.run.Run.{Ghosts}
use Rattle.order_tree.specs.declared.summary.Sums.{Sums}
use Rattle.order_tree.specs.declared.edit.Edit.{Edit}
use Rattle.order_tree.specs.Pairs.{Tree, IsRising, SumsFit}
use Rattle.order_tree.specs.Edits.{IsEdited}

module _ {R : Type 0} where
  -- the tree of a root; without one there are no runs and no nodes
  abbrev pub tree_of : Option (Tree R) → Tree R
  tree_of None = record { pairs = []; depth = 0 }
  tree_of (Some b) = b

  -- the runs are counted, their labels rise and their sums fit, and the tree is no deeper than they make it
  pub record IsWhole (G : Ghosts R) (runs : ℕ) (t : Tree R) : Type 0 where
    pub counted : runs ≡ length t.pairs
    pub rising : IsRising t.pairs
    pub below : All (λ p. p.0 < 2 ^ 64) t.pairs
    pub fit : SumsFit G t.pairs
    pub bound : 0 < length t.pairs → 2 ^ t.depth ≤ 2 * length t.pairs
    pub flat : t.pairs ≡ [] → t.depth ≡ 0

  -- an edit made this tree of that
  pub record IsTreeEdit (G : Ghosts R) (edit : Edit R) (label : ℕ) (old new : Tree R) (own : ℕ) : Type 0 where
    pub lost : Sums
    pub gained : Sums
    pub edited : IsEdited G edit (2 ^ 64) label old.pairs new.pairs own lost gained
    pub enough : 2 ^ new.depth ≤ 2 * length new.pairs
