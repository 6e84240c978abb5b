-- Where the subtree of an attached child ends, read off the children.
use Rattle.std.proofs.Common.{◌≡◌, ℕ, true, false, List, [], length, take, refl, sym, ap, ◌∙◌, subst}
use Rattle.std.specs.List.{list_any}
use Rattle.std.specs.Ordering.{is_lt}
use Rattle.std.proofs.lemmas.Bool.{false≢true, and_parts, and_from}
use Rattle.ew_model.specs.declared.id.Id.{Id}
use Rattle.ew_model.specs.declared.node.Node.{Node}
use Rattle.ew_model.specs.declared.node.Node.TheVariants.{Root, Base, Event}
use Rattle.ew_model.specs.Sets.{Among}
use Rattle.ew_model.specs.Paths.{Step, step_down}
use Rattle.ew_model.specs.Entries.{Inserted}
use Rattle.ew_model.specs.Siblings.{HasChild}
use Rattle.ew_model.proofs.SiblingLaws.{subtrees_end}
use Rattle.fugue_place.specs.declared.child.Side.{Side}
use Rattle.fugue_place.specs.declared.child.Side.TheVariants.{Left, Right}
use Rattle.fugue_place.specs.declared.child.Attached.{Attached}
use Rattle.fugue_place.specs.declared.line.Line.{Line}
use Rattle.fugue_place.specs.Attachments.{side_of, node_eq, is_event, is_there, path_of, AreAttached}
use Rattle.fugue_place.specs.Lines.{is_below, is_in_line, line_of, is_further, IsOutermost}
use Rattle.fugue_place.specs.Neighbours.{side_eq, is_child, BaseEndsAt}
use Rattle.fugue_place.specs.Subtrees.{HasBase, node_in, tree_nodes, IsEnd}
use Rattle.fugue_place.proofs.NodeLaws.{node_same, node_itself, side_same, side_itself}
use Rattle.fugue_place.proofs.ListLaws.{none_passes, among_all}
use Rattle.fugue_place.proofs.PathLaws.{child_in, event_there, attached_there}
use Rattle.fugue_place.proofs.TreeLaws.{tree_rooted, child_node, child_from}
use Rattle.ew_model.proofs.OperationLaws.{got}

-- A CHILD IN A LINE
pub record IsInLine (line : Line) (a : Attached) : Type 0 where
  pub parent : a.parent ≡ line.parent
  pub side : a.side ≡ line.side
  pub below : is_below line.below a.id ≡ true

pub from_line : (line : Line) (a : Attached) → is_in_line line a ≡ true → IsInLine line a
from_line line a e =
    let outer = and_parts (is_child line.parent line.side a) (is_below line.below a.id) e in
    let inner = and_parts (node_eq a.parent line.parent) (side_eq a.side line.side) outer.0 in
    record { parent = node_same a.parent line.parent inner.0; side = side_same a.side line.side inner.1; below = outer.1 }

pub child_fits : (v : Node) (s : Side) (a : Attached) → a.parent ≡ v → a.side ≡ s → is_child v s a ≡ true
child_fits v s a p e =
    and_from (node_eq a.parent v) (side_eq a.side s) (ap (λ (w : Node). node_eq w v) p ∙ node_itself v) (ap (λ (t : Side). side_eq t s) e ∙ side_itself s)

pub in_line : (line : Line) (a : Attached) → a.parent ≡ line.parent → a.side ≡ line.side → is_below line.below a.id ≡ true → is_in_line line a ≡ true
in_line line a p s below = and_from (is_child line.parent line.side a) (is_below line.below a.id) (child_fits line.parent line.side a p s) below

-- the children of an event's node are attached ones
pub event_ends : (v : Node) (s : Side) (b : ℕ) → is_event v ≡ true → BaseEndsAt v s b
event_ends v Left b e = tt
event_ends Root Right b e = absurd (false≢true e)
event_ends (Base i) Right b e = absurd (false≢true e)
event_ends (Event n) Right b e = tt

module _ (attached : List Attached) (all : AreAttached [] attached) (b : ℕ) (base : HasBase attached b) where
  -- the path of a child in a line goes on from the line's parent
  pub path_on : (line : Line) (a : Attached) → Among a attached → is_in_line line a ≡ true → path_of attached a.node ≡ step_down (path_of attached line.parent) (side_of line.side) a.id
  path_on line a m e =
      let known = from_line line a e in
      (child_in attached all a m).path ∙ (λ i. step_down (path_of attached (known.parent i)) (side_of (known.side i)) a.id)

  module _ (a : Attached) (ma : Among a attached) where
    there : is_there attached a.node ≡ true
    there = event_there attached a.node (child_in attached all a ma).event ∙ attached_there attached a ma

    -- no child of the tree stands further out than the outermost one in the line
    no_further : (end : Side) (k : ℕ) (best : IsOutermost (line_of a.node end) end attached (length attached) k)
        → (m : Id) → HasChild (tree_nodes b attached) (path_of attached a.node) (side_of end) m → is_further end m best.child.id ≡ false
    no_further end k best m h =
        let child = child_from attached all b base a.node end m there (event_ends a.node end b (child_in attached all a ma).event) h in
        ap (λ (x : Id). is_further end x best.child.id) (sym child.1.id)
        ∙ best.outermost child.0 (among_all attached child.0 child.1.there) (in_line (line_of a.node end) child.0 child.1.parent child.1.side refl)

    end_through_at : (end : Side) (k : ℕ) (best : IsOutermost (line_of a.node end) end attached (length attached) k) (y : Inserted)
        → IsEnd (side_of end) (tree_nodes b attached) (step_down (path_of attached a.node) (side_of end) best.child.id) y → IsEnd (side_of end) (tree_nodes b attached) (path_of attached a.node) y
    end_through_at Left k best y h =
        (subtrees_end (tree_nodes b attached) (tree_rooted attached all b base) (path_of attached a.node)).first_through best.child.id y
        (λ m child less. false≢true (sym (no_further Left k best m child) ∙ ap is_lt less)) h
    end_through_at Right k best y h =
        (subtrees_end (tree_nodes b attached) (tree_rooted attached all b base) (path_of attached a.node)).last_through best.child.id y
        (λ m child less. false≢true (sym (no_further Right k best m child) ∙ ap is_lt less)) h

    -- the subtree ends where that of the outermost child ends
    pub end_through : (end : Side) (k : ℕ) (best : IsOutermost (line_of a.node end) end attached (length attached) k) (y : Inserted)
        → IsEnd (side_of end) (tree_nodes b attached) (path_of attached best.child.node) y → IsEnd (side_of end) (tree_nodes b attached) (path_of attached a.node) y
    end_through end k best y h =
        end_through_at end k best y
        (subst (λ (p : List Step). IsEnd (side_of end) (tree_nodes b attached) p y) (path_on (line_of a.node end) best.child (got attached k best.child best.here) best.fits) h)

    no_child : (end : Side) → list_any (is_in_line (line_of a.node end)) (take (length attached) attached) ≡ false → (m : Id) → HasChild (tree_nodes b attached) (path_of attached a.node) (side_of end) m → ⊥
    no_child end none m h =
        let child = child_from attached all b base a.node end m there (event_ends a.node end b (child_in attached all a ma).event) h in
        false≢true
        (sym (none_passes (is_in_line (line_of a.node end)) (take (length attached) attached) child.0 none (among_all attached child.0 child.1.there))
        ∙ in_line (line_of a.node end) child.0 child.1.parent child.1.side refl)

    -- where no child is in the line, it ends at the node itself
    pub end_here : (end : Side) → list_any (is_in_line (line_of a.node end)) (take (length attached) attached) ≡ false → IsEnd (side_of end) (tree_nodes b attached) (path_of attached a.node) (node_in attached a)
    end_here Left none =
        (subtrees_end (tree_nodes b attached) (tree_rooted attached all b base) (path_of attached a.node)).first_here (node_in attached a) (child_node attached all b base a ma) refl (no_child Left none)
    end_here Right none =
        (subtrees_end (tree_nodes b attached) (tree_rooted attached all b base) (path_of attached a.node)).last_here (node_in attached a) (child_node attached all b base a ma) refl (no_child Right none)
