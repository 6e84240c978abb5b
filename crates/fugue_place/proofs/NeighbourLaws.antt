-- The neighbour that the children of a node tell is the right one, among all nodes of the tree and so among any of them.
use Rattle.std.proofs.Common.{◌≡◌, ℕ, true, false, cond, inl, inr, List, [], length, take, Option, Some, None, refl, sym, ap, ◌∙◌, subst}
use Rattle.std.specs.List.{list_any}
use Rattle.std.specs.Ordering.{is_lt, is_gt}
use Rattle.std.specs.declared.cmp.Ordering.TheVariants.{Less, Greater}
use Rattle.std.proofs.lemmas.Bool.{false≢true, false_from_ne_true, and_parts, and_from}
use Rattle.std.proofs.Math.Seq.{take-length}
use Rattle.ew_model.specs.declared.id.Id.{Id}
use Rattle.ew_model.specs.declared.node.Node.{Node}
use Rattle.ew_model.specs.declared.node.Node.TheVariants.{Root, Base, Event}
use Rattle.ew_model.specs.Ids.{id_cmp, id_lt, id_eq}
use Rattle.ew_model.specs.Sets.{Among}
use Rattle.ew_model.specs.Paths.{Step, path_cmp, step_down}
use Rattle.ew_model.specs.Paths.Side.{Left as left, Right as right}
use Rattle.ew_model.specs.Entries.{Inserted}
use Rattle.ew_model.specs.Siblings.{HasChild, IsLastBelow, IsFirstBelow, IsNextLower, IsLowest, StandsBehind, StandsAhead, StandsBeside, SiblingRule}
use Rattle.ew_model.proofs.SiblingLaws.{siblings_tell}
use Rattle.ew_model.proofs.VersionLaws.{any_from, found_by}
use Rattle.ew_model.proofs.RunLaws.{id_itself}
use Rattle.fugue_place.specs.declared.child.Side.{Side}
use Rattle.fugue_place.specs.declared.child.Side.TheVariants.{Left, Right}
use Rattle.fugue_place.specs.declared.child.Attached.{Attached}
use Rattle.fugue_place.specs.declared.line.Line.{Line}
use Rattle.fugue_place.specs.declared.neighbour.Place.{Place}
use Rattle.fugue_place.specs.declared.neighbour.Place.TheVariants.{After, Before}
use Rattle.fugue_place.specs.Attachments.{side_of, is_attached, is_there, has_id, path_of, AreAttached}
use Rattle.fugue_place.specs.Lines.{is_below, is_in_line, line_of, IsOutermost}
use Rattle.fugue_place.specs.Neighbours.{is_child, has_child, has_lower, IsNodePath, AreNodesOf, BaseEndsAt, StandsAt, neighbour_of, beside, IsPlaceOfNew}
use Rattle.fugue_place.specs.Subtrees.{node_at, HasBase, node_in, tree_nodes, EndsBelow}
use Rattle.fugue_place.proofs.ListLaws.{none_passes, among_all}
use Rattle.fugue_place.proofs.LineLaws.{is_less}
use Rattle.fugue_place.proofs.PlaceLaws.{node_at_is}
use Rattle.fugue_place.proofs.TreeLaws.{tree_rooted, child_node, path_there, child_from, IsChildOf}
use Rattle.fugue_place.proofs.EndLaws.{from_line, child_fits, in_line, path_on}
use Rattle.ew_model.proofs.OperationLaws.{got}

-- the children with lower ids
abbrev pub lower_line : Node → Side → Id → Line
lower_line v s x = record { parent = v; side = s; below = Some x }

-- WHICH CHILDREN THERE ARE
module _ (attached : List Attached) (v : Node) (s : Side) where
  -- the outermost child in a line is a child there
  pub child_found : (below : Option Id) (end : Side) (k : ℕ) → IsOutermost (record { parent = v; side = s; below = below }) end attached (length attached) k → has_child attached v s ≡ true
  child_found below end k best =
      any_from (is_child v s) attached best.child (got attached k best.child best.here) (and_parts (is_child v s best.child) (is_below below best.child.id) best.fits).0

  pub lower_found : (x : Id) (end : Side) (k : ℕ) → IsOutermost (lower_line v s x) end attached (length attached) k → has_lower attached v s x ≡ true
  lower_found x end k best = any_from (is_in_line (lower_line v s x)) attached best.child (got attached k best.child best.here) best.fits

  pub no_lower : (x : Id) → list_any (is_in_line (lower_line v s x)) (take (length attached) attached) ≡ false → has_lower attached v s x ≡ false
  no_lower x none = ap (list_any (is_in_line (lower_line v s x))) (sym (take-length attached)) ∙ none

  none_there : (line : Line) → list_any (is_in_line line) (take (length attached) attached) ≡ false → (a : Attached) → Among a attached → is_in_line line a ≡ false
  none_there line none a m = none_passes (is_in_line line) (take (length attached) attached) a none (among_all attached a m)

  pub no_child : list_any (is_in_line (line_of v s)) (take (length attached) attached) ≡ false → has_child attached v s ≡ false
  no_child none = false_from_ne_true (has_child attached v s) (λ e.
      let found = found_by (is_child v s) attached e in
      false≢true (sym (none_there (line_of v s) none found.0 found.1) ∙ and_from (is_child v s found.0) true found.2 refl))

  -- where there is none, none has a lower id
  pub none_lower : (x : Id) → list_any (is_in_line (line_of v s)) (take (length attached) attached) ≡ false → list_any (is_in_line (lower_line v s x)) (take (length attached) attached) ≡ false
  none_lower x none = false_from_ne_true (list_any (is_in_line (lower_line v s x)) (take (length attached) attached)) (λ e.
      let found = found_by (is_in_line (lower_line v s x)) (take (length attached) attached) e in
      let child = (and_parts (is_child v s found.0) (id_lt found.0.id x) found.2).0 in
      false≢true (sym (none_passes (is_in_line (line_of v s)) (take (length attached) attached) found.0 none found.1) ∙ and_from (is_child v s found.0) true child refl))

-- WHAT THEY TELL OF THE TREE
module _ (attached : List Attached) (all : AreAttached [] attached) (v : Node) (s : Side) (x : Id) (there : is_there attached v ≡ true) (unused : has_id attached x ≡ false) where
  -- the new child's path
  abbrev new : List Step
  new = step_down (path_of attached v) (side_of s) x

  module _ (b : ℕ) (base : HasBase attached b) (ends : BaseEndsAt v s b) where
    abbrev nodes : List Inserted
    nodes = tree_nodes b attached

    -- a child of the tree is attached, and in the line of the parent
    child_here : (m : Id) → HasChild nodes (path_of attached v) (side_of s) m → (a : Attached) × IsChildOf attached all b base v s m a
    child_here m h = child_from attached all b base v s m there ends h

    outermost_there : (line : Line) (end : Side) (k : ℕ) (best : IsOutermost line end attached (length attached) k) → HasChild nodes (path_of attached line.parent) (side_of line.side) best.child.id
    outermost_there line end k best =
        let m = got attached k best.child best.here in
        (node_in attached best.child, child_node attached all b base best.child m, path_on attached all b base line best.child m best.fits)

    next_lower : (k : ℕ) (best : IsOutermost (lower_line v s x) Right attached (length attached) k) → IsNextLower nodes (path_of attached v) (side_of s) x best.child.id
    next_lower k best = record {
      here = outermost_there (lower_line v s x) Right k best;
      lower = is_less (id_cmp best.child.id x) (from_line (lower_line v s x) best.child best.fits).below;
      greatest = λ m child mx jm.
          let a = child_here m child in
          let low : id_lt a.0.id x ≡ true = ap (λ (y : Id). id_lt y x) a.1.id ∙ ap is_lt mx in
          let apart : id_lt best.child.id a.0.id ≡ false = best.outermost a.0 (among_all attached a.0 a.1.there) (in_line (lower_line v s x) a.0 a.1.parent a.1.side low) in
          false≢true (sym apart ∙ ap (λ (y : Id). id_lt best.child.id y) a.1.id ∙ ap is_lt jm);
    }

    lowest : (k : ℕ) (best : IsOutermost (line_of v s) Left attached (length attached) k) → has_lower attached v s x ≡ false → IsLowest nodes (path_of attached v) (side_of s) x best.child.id
    lowest k best none = record {
      here = outermost_there (line_of v s) Left k best;
      none = λ m child mx.
          let a = child_here m child in
          let low : id_lt a.0.id x ≡ true = ap (λ (y : Id). id_lt y x) a.1.id ∙ ap is_lt mx in
          false≢true (sym (none_passes (is_in_line (lower_line v s x)) attached a.0 none a.1.there) ∙ in_line (lower_line v s x) a.0 a.1.parent a.1.side low);
      least = λ m child mj.
          let a = child_here m child in
          let apart : id_lt a.0.id best.child.id ≡ false = best.outermost a.0 (among_all attached a.0 a.1.there) (in_line (line_of v s) a.0 a.1.parent a.1.side refl) in
          false≢true (sym apart ∙ ap (λ (y : Id). id_lt y best.child.id) a.1.id ∙ ap is_lt mj);
    }

    free : HasChild nodes (path_of attached v) (side_of s) x → ⊥
    free h =
        let a = child_here x h in
        false≢true (sym (none_passes (λ (c : Attached). id_eq c.id x) attached a.0 unused a.1.there) ∙ ap (λ (y : Id). id_eq y x) a.1.id ∙ id_itself x)

    rule : SiblingRule nodes (path_of attached v) (side_of s) x
    rule = siblings_tell nodes (tree_rooted attached all b base) (path_of attached v) (side_of s) x free

    -- the subtree of a child in a line, by the child's place
    child_path : (line : Line) (end : Side) (k : ℕ) (best : IsOutermost line end attached (length attached) k) → path_of attached (node_at attached k) ≡ step_down (path_of attached line.parent) (side_of line.side) best.child.id
    child_path line end k best =
        ap (path_of attached) (node_at_is attached k best.child best.here) ∙ path_on attached all b base line best.child (got attached k best.child best.here) best.fits

    behind_lower : (k : ℕ) (best : IsOutermost (lower_line v s x) Right attached (length attached) k) (w : Node) → EndsBelow right nodes (path_of attached (node_at attached k)) (path_of attached w) → StandsBehind nodes new (path_of attached w)
    behind_lower k best w end =
        subst (StandsBehind nodes new) end.1
        (rule.lower best.child.id end.0 (next_lower k best) (subst (λ (p : List Step). IsLastBelow nodes p end.0) (child_path (lower_line v s x) Right k best) end.2))

    ahead_of_higher : (k : ℕ) (best : IsOutermost (line_of v s) Left attached (length attached) k) → has_lower attached v s x ≡ false → (w : Node)
        → EndsBelow left nodes (path_of attached (node_at attached k)) (path_of attached w) → StandsAhead nodes new (path_of attached w)
    ahead_of_higher k best none w end =
        subst (StandsAhead nodes new) end.1
        (rule.higher best.child.id end.0 (lowest k best none) (subst (λ (p : List Step). IsFirstBelow nodes p end.0) (child_path (line_of v s) Left k best) end.2))

    alone : has_child attached v s ≡ false → StandsBeside (side_of s) nodes new (path_of attached v)
    alone none = rule.alone (λ m h.
        let a = child_here m h in
        false≢true (sym (none_passes (is_child v s) attached a.0 none a.1.there) ∙ child_fits v s a.0 a.1.parent a.1.side))

    -- what stands so among all nodes does so among some of them
    among_some : (some : List Inserted) → ((z : Inserted) → Among z some → IsNodePath attached b z.path) → (place : Place) → StandsAt attached nodes new place → StandsAt attached some new place
    among_some some only (After w) h = λ z m.
        let t = path_there attached all b base z.path (only z m) in
        subst (λ (p : List Step). path_cmp p new ≡ cond (is_gt (path_cmp p (path_of attached w))) Greater Less) t.2 (h t.0 t.1)
    among_some some only (Before w) h = λ z m.
        let t = path_there attached all b base z.path (only z m) in
        subst (λ (p : List Step). path_cmp p new ≡ cond (is_lt (path_cmp p (path_of attached w))) Less Greater) t.2 (h t.0 t.1)

  -- THE NEIGHBOUR IS RIGHT
  -- the place is right in every tree that the children stand for
  abbrev pub IsRight : Place → Type 0
  IsRight place = (b : ℕ) (some : List Inserted) → AreNodesOf attached b some → BaseEndsAt v s b → StandsAt attached some new place

  right_behind_lower : (k : ℕ) → IsOutermost (lower_line v s x) Right attached (length attached) k → (w : Node)
      → ((b : ℕ) → HasBase attached b → EndsBelow right (tree_nodes b attached) (path_of attached (node_at attached k)) (path_of attached w)) → IsRight (After w)
  right_behind_lower k best w end b some of ends = among_some b of.enough ends some of.only (After w) (behind_lower b of.enough ends k best w (end b of.enough))

  right_ahead_of_higher : (k : ℕ) → IsOutermost (line_of v s) Left attached (length attached) k → has_lower attached v s x ≡ false → (w : Node)
      → ((b : ℕ) → HasBase attached b → EndsBelow left (tree_nodes b attached) (path_of attached (node_at attached k)) (path_of attached w)) → IsRight (Before w)
  right_ahead_of_higher k best none w end b some of ends =
      among_some b of.enough ends some of.only (Before w) (ahead_of_higher b of.enough ends k best none w (end b of.enough))

  there_of : (w : Node) → is_attached attached w ≡ true → is_there attached w ≡ true
  there_of Root h = refl
  there_of (Base i) h = refl
  there_of (Event n) h = h

  pub place_behind_lower : (k : ℕ) → IsOutermost (lower_line v s x) Right attached (length attached) k → (w : Node) → is_attached attached w ≡ true
      → ((b : ℕ) → HasBase attached b → EndsBelow right (tree_nodes b attached) (path_of attached (node_at attached k)) (path_of attached w)) → IsPlaceOfNew attached v s x (After w)
  place_behind_lower k best w here end = record {
    lower = λ found. refl;
    higher = λ none found. absurd (false≢true (sym none ∙ lower_found attached v s x Right k best));
    alone = λ none. absurd (false≢true (sym none ∙ child_found attached v s (Some x) Right k best));
    there = there_of w here;
    near = inr here;
    stands = right_behind_lower k best w end;
  }

  pub place_ahead_of_higher : list_any (is_in_line (lower_line v s x)) (take (length attached) attached) ≡ false → (k : ℕ) → IsOutermost (line_of v s) Left attached (length attached) k
      → (w : Node) → is_attached attached w ≡ true
      → ((b : ℕ) → HasBase attached b → EndsBelow left (tree_nodes b attached) (path_of attached (node_at attached k)) (path_of attached w)) → IsPlaceOfNew attached v s x (Before w)
  place_ahead_of_higher none k best w here end = record {
    lower = λ found. absurd (false≢true (sym (no_lower attached v s x none) ∙ found));
    higher = λ low found. refl;
    alone = λ no. absurd (false≢true (sym no ∙ child_found attached v s None Left k best));
    there = there_of w here;
    near = inr here;
    stands = right_ahead_of_higher k best (no_lower attached v s x none) w end;
  }

right_beside : (attached : List Attached) (all : AreAttached [] attached) (v : Node) (s : Side) (x : Id) (there : is_there attached v ≡ true) (unused : has_id attached x ≡ false) → has_child attached v s ≡ false
    → IsRight attached all v s x there unused (beside s v)
right_beside attached all v Left x there unused none b some of ends =
    among_some attached all v Left x there unused b of.enough ends some of.only (Before v) (alone attached all v Left x there unused b of.enough ends none)
right_beside attached all v Right x there unused none b some of ends =
    among_some attached all v Right x there unused b of.enough ends some of.only (After v) (alone attached all v Right x there unused b of.enough ends none)

neighbour_beside : (s : Side) (v : Node) → neighbour_of (beside s v) ≡ v
neighbour_beside Left v = refl
neighbour_beside Right v = refl

pub place_beside : (attached : List Attached) → AreAttached [] attached → (v : Node) (s : Side) (x : Id) → is_there attached v ≡ true → has_id attached x ≡ false
    → list_any (is_in_line (lower_line v s x)) (take (length attached) attached) ≡ false → list_any (is_in_line (line_of v s)) (take (length attached) attached) ≡ false
    → IsPlaceOfNew attached v s x (beside s v)
place_beside attached all v s x there unused no_low none = record {
  lower = λ found. absurd (false≢true (sym (no_lower attached v s x no_low) ∙ found));
  higher = λ low found. absurd (false≢true (sym (no_child attached v s none) ∙ found));
  alone = λ no. refl;
  there = ap (is_there attached) (neighbour_beside s v) ∙ there;
  near = inl (neighbour_beside s v);
  stands = right_beside attached all v s x there unused (no_child attached v s none);
}
