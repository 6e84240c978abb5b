-- The way down from a child to the outermost node of its subtree, by places in the list.
use Rattle.std.proofs.Common.{◌≡◌, ℕ, zero, suc, false, List, [], take, length, slice_get, Option, Some, sym, ap, subst}
use Rattle.std.specs.List.{list_any}
use Rattle.ew_model.specs.declared.node.Node.{Node}
use Rattle.fugue_place.specs.declared.child.Side.{Side}
use Rattle.fugue_place.specs.declared.child.Attached.{Attached}
use Rattle.fugue_place.specs.Attachments.{side_of, path_of, AreAttached}
use Rattle.fugue_place.specs.Chains.{Leads, IsEndOf}
use Rattle.fugue_place.specs.Lines.{is_in_line, line_of, IsOutermost, IsBest, AreOutermost}
use Rattle.fugue_place.specs.Subtrees.{node_at, HasBase, node_in, tree_nodes, IsEnd, EndsBelow, Reaches}
use Rattle.fugue_place.proofs.PlaceLaws.{node_at_is}
use Rattle.fugue_place.proofs.EndLaws.{end_through, end_here}
use Rattle.ew_model.proofs.OperationLaws.{got}

module _ (attached : List Attached) (all : AreAttached [] attached) (end : Side) where
  module _ (at : ℕ) (child : Attached) (here : slice_get attached at ≡ Some child) (from : ℕ) (reached : Reaches (side_of end) attached from at) where
    -- one step down
    reaches_on : (k : ℕ) → IsOutermost (line_of child.node end) end attached (length attached) k → Reaches (side_of end) attached from k
    reaches_on k best b base y h =
        reached b base y
        (subst (λ (v : Node). IsEnd (side_of end) (tree_nodes b attached) (path_of attached v) y) (sym (node_at_is attached at child here))
        (end_through attached all b base child (got attached at child here) end k best y
        (subst (λ (v : Node). IsEnd (side_of end) (tree_nodes b attached) (path_of attached v) y) (node_at_is attached k best.child best.here) h)))

    -- where no child is left, the node itself is the end
    ends_at : list_any (is_in_line (line_of child.node end)) (take (length attached) attached) ≡ false
        → (b : ℕ) → HasBase attached b → EndsBelow (side_of end) (tree_nodes b attached) (path_of attached (node_at attached from)) (path_of attached (node_at attached at))
    ends_at none b base = (
      node_in attached child,
      ap (path_of attached) (sym (node_at_is attached at child here)),
      reached b base (node_in attached child)
          (subst (λ (v : Node). IsEnd (side_of end) (tree_nodes b attached) (path_of attached v) (node_in attached child)) (sym (node_at_is attached at child here))
          (end_here attached all b base child (got attached at child here) end none)),
    )

  module _ (outer : ℕ → Option ℕ) (outermost : AreOutermost end attached outer) (from : ℕ) where
    leads_down : (m at e : ℕ) (child : Attached) → slice_get attached at ≡ Some child → Reaches (side_of end) attached from at → Leads outer m at e
        → (b : ℕ) → HasBase attached b → EndsBelow (side_of end) (tree_nodes b attached) (path_of attached (node_at attached from)) (path_of attached (node_at attached e))
    leads_down zero at e child here reached way b base =
        subst (λ (k : ℕ). EndsBelow (side_of end) (tree_nodes b attached) (path_of attached (node_at attached from)) (path_of attached (node_at attached k))) way.1
        (ends_at at child here from reached (subst (IsBest (line_of child.node end) end attached (length attached)) way.0 (outermost at child here)) b base)
    leads_down (suc m) at e child here reached way b base =
        let best : IsOutermost (line_of child.node end) end attached (length attached) way.0 =
        subst (IsBest (line_of child.node end) end attached (length attached)) way.1 (outermost at child here) in
        leads_down m way.0 e best.child best.here (reaches_on at child here from reached way.0 best) way.2 b base

    -- the end of its chain ends the subtree of a child
    pub chain_ends : (e : ℕ) (child : Attached) → slice_get attached from ≡ Some child → IsEndOf outer from e
        → (b : ℕ) → HasBase attached b → EndsBelow (side_of end) (tree_nodes b attached) (path_of attached (node_at attached from)) (path_of attached (node_at attached e))
    chain_ends e child here way = leads_down way.0 from e child here (λ b base y h. h) way.1
