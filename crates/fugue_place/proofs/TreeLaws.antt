-- The tree of some base characters and the attached nodes: it is rooted, and its children are those attached.
use Rattle.std.proofs.Common.{◌≡◌, ℕ, zero, suc, ◌<◌, ◌≤◌, ◌+◌, true, ◌⊎◌, inl, inr, ⊎_elim, List, [], ◌∷◌, ◌++◌, map, refl, sym, ap, ◌∙◌, subst, append_assoc, append-nil, arith}
use Rattle.std.proofs.lemmas.Bool.{cases_order}
use Rattle.std.proofs.lemmas.List.{same_from_push, map-append}
use Rattle.ew_model.specs.declared.id.Id.{Id}
use Rattle.ew_model.specs.declared.node.Node.{Node}
use Rattle.ew_model.specs.declared.node.Node.TheVariants.{Root, Base, Event}
use Rattle.ew_model.specs.Sets.{Among}
use Rattle.ew_model.specs.Paths.{Side, Step, step_down}
use Rattle.ew_model.specs.Paths.Side.{Left, Right}
use Rattle.ew_model.specs.Entries.{Inserted, insertions}
use Rattle.ew_model.specs.Tree.{base_id, base_path, based}
use Rattle.ew_model.specs.Siblings.{IsRooted, HasChild}
use Rattle.ew_model.proofs.SetLaws.{among_joined, joined_left, joined_right, among_map, map_among}
use Rattle.ew_model.proofs.PrefixLaws.{base_prefixes}
use Rattle.ew_model.proofs.TableLaws.{children_root}
use Rattle.fugue_place.specs.declared.child.Side as child
use Rattle.fugue_place.specs.declared.child.Side.TheVariants.{Left as left, Right as right}
use Rattle.fugue_place.specs.declared.child.Attached.{Attached}
use Rattle.fugue_place.specs.Attachments.{side_of, is_there, path_of, AreAttached}
use Rattle.fugue_place.specs.Neighbours.{IsNodePath, AreNodesOf, BaseEndsAt}
use Rattle.fugue_place.specs.Subtrees.{HasBase, node_in, tree_nodes}
use Rattle.fugue_place.proofs.PathLaws.{child_in, root_path, base_path_of, child_found, same_node}
use Rattle.ew_model.proofs.BaseLaws.{base_next}

abbrev base_char : ℕ → Inserted
base_char i = record { id = base_id i; path = base_path i; ch = 0 }

-- a base character below the number is there, and no others
base_there : (b i : ℕ) → i < b → (z : Inserted) × Among z (insertions (based b)) × (z.path ≡ base_path i)
base_there zero i lt = absurd (omega arith)
base_there (suc b) i lt =
    let place : (z : Inserted) → Among z (insertions (based b) ++ base_char b ∷ []) → Among z (insertions (based (suc b))) = λ z m. subst (Among z) (sym (base_next b)) m in
    ⊎_elim
    (λ e. (base_char b, place (base_char b) (joined_right (insertions (based b)) (base_char b ∷ []) (base_char b) (inl refl)), ap base_path (sym e)))
    (λ k. ⊎_elim
    (λ below. let older = base_there b i below in (older.0, place older.0 (joined_left (insertions (based b)) (base_char b ∷ []) older.0 older.1), older.2))
    (λ above. absurd (omega arith))
    k)
    (cases_order i b)

base_only : (b : ℕ) (z : Inserted) → Among z (insertions (based b)) → (i : ℕ) × (i < b) × (z.path ≡ base_path i)
base_only zero z m = absurd m
base_only (suc b) z m =
    ⊎_elim
    (λ k. let older = base_only b z k in let lt : older.0 < b = older.1 in (older.0, omega arith, older.2))
    (λ k. ⊎_elim (λ e. (b, omega arith, ap (λ (w : Inserted). w.path) e)) (λ no. absurd no) k)
    (among_joined (insertions (based b)) (base_char b ∷ []) z (subst (Among z) (base_next b) m))

module _ (attached : List Attached) (all : AreAttached [] attached) (b : ℕ) (base : HasBase attached b) where
  abbrev front_of : List Attached → List Inserted
  front_of xs = insertions (based b) ++ map (node_in attached) xs

  -- where a parent is
  parent_place : (xs : List Attached) (v : Node) → ((i : ℕ) → v ≡ Base i → i < b) → is_there xs v ≡ true
      → (path_of attached v ≡ []) ⊎ ((z : Inserted) × Among z (front_of xs) × (z.path ≡ path_of attached v))
  parent_place xs Root low there = inl (root_path attached all)
  parent_place xs (Base i) low there =
      let z = base_there b i (low i refl) in
      inr (z.0, joined_left (insertions (based b)) (map (node_in attached) xs) z.0 z.1, z.2 ∙ sym (base_path_of attached all i))
  parent_place xs (Event n) low there =
      let a = child_found xs n there in
      inr (node_in attached a.0, joined_right (insertions (based b)) (map (node_in attached) xs) (node_in attached a.0) (map_among (node_in attached) xs a.0 a.1), ap (path_of attached) a.2)

  front_next : (xs : List Attached) (y : Attached) → front_of xs ++ node_in attached y ∷ [] ≡ front_of (xs ++ y ∷ [])
  front_next xs y =
      append_assoc (insertions (based b)) (map (node_in attached) xs) (node_in attached y ∷ [])
      ∙ ap (λ (zs : List Inserted). insertions (based b) ++ zs) (sym (map-append (node_in attached) xs (y ∷ [])))

  rooted_on : (xs later : List Attached) → AreAttached xs later → attached ≡ xs ++ later → IsRooted (front_of xs) → IsRooted (front_of (xs ++ later))
  rooted_on xs [] more e rooted = subst (λ (zs : List Attached). IsRooted (front_of zs)) (sym (append-nil xs)) rooted
  rooted_on xs (y ∷ later) more e rooted =
      let there : Among y attached = subst (Among y) (sym e) (joined_right xs (y ∷ later) y (inl refl)) in
      let place = parent_place xs y.parent (λ i p. base y i there p) more.0.parent in
      let grown : IsRooted (front_of xs ++ node_in attached y ∷ []) =
      children_root (front_of xs) (node_in attached y) (path_of attached y.parent) (side_of y.side) y.id rooted place (child_in attached all y there).path in
      subst (λ (zs : List Attached). IsRooted (front_of zs)) (append_assoc xs (y ∷ []) later)
      (rooted_on (xs ++ y ∷ []) later more.1 (e ∙ sym (append_assoc xs (y ∷ []) later)) (subst IsRooted (front_next xs y) grown))

  pub tree_rooted : IsRooted (tree_nodes b attached)
  unfolding tree_nodes
  tree_rooted = rooted_on [] attached all refl (subst IsRooted (sym (append-nil (insertions (based b)))) (base_prefixes b))

  -- ITS NODES
  pub child_node : (a : Attached) → Among a attached → Among (node_in attached a) (tree_nodes b attached)
  unfolding tree_nodes
  child_node a m = joined_right (insertions (based b)) (map (node_in attached) attached) (node_in attached a) (map_among (node_in attached) attached a m)

  -- a path of the tree is that of one of its nodes
  pub path_there : (p : List Step) → IsNodePath attached b p → (z : Inserted) × Among z (tree_nodes b attached) × (z.path ≡ p)
  unfolding tree_nodes
  path_there p h =
      ⊎_elim
      (λ k. let z = base_there b k.0 k.1 in (z.0, joined_left (insertions (based b)) (map (node_in attached) attached) z.0 z.1, z.2 ∙ sym k.2))
      (λ k. (node_in attached k.0, joined_right (insertions (based b)) (map (node_in attached) attached) (node_in attached k.0) (map_among (node_in attached) attached k.0 k.1), sym k.2))
      h

  node_cases : (z : Inserted) → Among z (tree_nodes b attached) → ((i : ℕ) × (i < b) × (z.path ≡ base_path i)) ⊎ ((a : Attached) × Among a attached × (z.path ≡ path_of attached a.node))
  unfolding tree_nodes
  node_cases z m =
      ⊎_elim
      (λ k. inl (base_only b z k))
      (λ k. let from = among_map (node_in attached) attached z k in inr (from.0, from.1, ap (λ (w : Inserted). w.path) from.2))
      (among_joined (insertions (based b)) (map (node_in attached) attached) z m)

  -- so all of them are nodes that the children stand for
  pub whole_tree : AreNodesOf attached b (tree_nodes b attached)
  whole_tree = record { only = node_cases; enough = base }

  -- ITS CHILDREN
  pub child_there : (a : Attached) → Among a attached → HasChild (tree_nodes b attached) (path_of attached a.parent) (side_of a.side) a.id
  child_there a m = (node_in attached a, child_node a m, (child_in attached all a m).path)

  sides_apart : (p q : List Step) (x y : Id) → step_down p Right x ≡ step_down q Left y → ⊥
  sides_apart p q x y e =
      let same : Right ≡ Left = ap (λ (s : Step). s.side) (same_from_push p q (record { side = Right; child = x }) (record { side = Left; child = y }) e).1 in
      let no : ⊥ = cc in no

  parents : (p q : List Step) (s t : Side) (x y : Id) → step_down p s x ≡ step_down q t y → p ≡ q
  parents p q s t x y e = (same_from_push p q (record { side = s; child = x }) (record { side = t; child = y }) e).0

  -- where the base ends at the parent, no base character is its child
  no_base_child : (v : Node) (s : child.Side) (i : ℕ) (m : Id) → is_there attached v ≡ true → BaseEndsAt v s b → i < b → base_path i ≡ step_down (path_of attached v) (side_of s) m → ⊥
  no_base_child v left zero m there ends lt e = sides_apart [] (path_of attached v) (base_id 0) m e
  no_base_child v left (suc i) m there ends lt e = sides_apart (base_path i) (path_of attached v) (base_id (suc i)) m e
  no_base_child v right zero m there ends lt e =
      let same : Root ≡ v = same_node attached all Root v refl there (root_path attached all ∙ parents [] (path_of attached v) Right Right (base_id 0) m e) in
      let none : b ≡ 0 = subst (λ (w : Node). BaseEndsAt w right b) (sym same) ends in
      omega arith
  no_base_child v right (suc i) m there ends lt e =
      let same : Base i ≡ v = same_node attached all (Base i) v refl there (base_path_of attached all i ∙ parents (base_path i) (path_of attached v) Right Right (base_id (suc i)) m e) in
      let last : b ≤ i + 1 = subst (λ (w : Node). BaseEndsAt w right b) (sym same) ends in
      omega arith

  side_of_same : (s t : child.Side) → side_of s ≡ side_of t → s ≡ t
  side_of_same left left e = refl
  side_of_same left right e = let no : ⊥ = cc in absurd no
  side_of_same right left e = let no : ⊥ = cc in absurd no
  side_of_same right right e = refl

  -- a child of the tree is an attached one
  pub record IsChildOf (v : Node) (s : child.Side) (m : Id) (a : Attached) : Type 0 where
    pub there : Among a attached
    pub parent : a.parent ≡ v
    pub side : a.side ≡ s
    pub id : a.id ≡ m

  pub child_from : (v : Node) (s : child.Side) (m : Id) → is_there attached v ≡ true → BaseEndsAt v s b → HasChild (tree_nodes b attached) (path_of attached v) (side_of s) m → (a : Attached) × IsChildOf v s m a
  child_from v s m there ends h =
      ⊎_elim
      (λ k. absurd (no_base_child v s k.0 m there ends k.1 (sym k.2 ∙ h.2)))
      (λ k.
      let a = k.0 in
      let known = child_in attached all a k.1 in
      let same = same_from_push (path_of attached a.parent) (path_of attached v) (record { side = side_of a.side; child = a.id }) (record { side = side_of s; child = m }) (sym known.path ∙ sym k.2 ∙ h.2) in (
        a,
        record {
          there = k.1;
          parent = same_node attached all a.parent v known.parent there same.0;
          side = side_of_same a.side s (ap (λ (t : Step). t.side) same.1);
          id = ap (λ (t : Step). t.child) same.1;
        },
      ))
      (node_cases h.0 h.1)
