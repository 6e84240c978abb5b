-- The paths of attached children: each goes one step on from its parent's, and no two are one.
use Rattle.std.proofs.Common.{◌≡◌, ℕ, zero, suc, Bool, true, false, cond, inl, ⊎_elim, List, [], ◌∷◌, ◌++◌, refl, sym, ap, ◌∙◌, subst, append_assoc, append-nil}
use Rattle.std.proofs.lemmas.Bool.{false≢true, false_from_ne_true, or_left}
use Rattle.std.proofs.lemmas.List.{same_from_push}
use Rattle.std.proofs.lemmas.List.Sums.{fold-append}
use Rattle.std.proofs.lemmas.List.Folds.{list_any-append}
use Rattle.ew_model.specs.declared.id.Id.{Id}
use Rattle.ew_model.specs.declared.node.Node.{Node}
use Rattle.ew_model.specs.declared.node.Node.TheVariants.{Root, Base, Event}
use Rattle.ew_model.specs.Ids.{id_eq}
use Rattle.ew_model.specs.Names.{is_name}
use Rattle.ew_model.specs.Sets.{Among}
use Rattle.ew_model.specs.Paths.{Side, Step, step_down}
use Rattle.ew_model.specs.Paths.Side.{Right}
use Rattle.ew_model.specs.Tree.{base_id, base_path}
use Rattle.ew_model.proofs.SetLaws.{joined_left, joined_right}
use Rattle.ew_model.proofs.VersionLaws.{any_from, found_by}
use Rattle.ew_model.proofs.RunLaws.{id_itself}
use Rattle.fugue_place.specs.declared.child.Attached.{Attached}
use Rattle.fugue_place.specs.Attachments.{side_of, node_eq, is_event, is_attached, is_there, own_path, with_child, path_of, MayAttach, AreAttached}
use Rattle.fugue_place.proofs.NodeLaws.{node_same, node_itself}
use Rattle.fugue_place.proofs.ListLaws.{none_passes}

-- ONE MORE CHILD
-- the paths with one more child
pub path_of-push : (xs : List Attached) (a : Attached) (v : Node) → path_of (xs ++ a ∷ []) v ≡ with_child (path_of xs) a v
unfolding path_of
path_of-push xs a v = ap (λ (f : Node → List Step). f v) (fold-append with_child own_path xs (a ∷ []))

pub path_of_new : (xs : List Attached) (a : Attached) → path_of (xs ++ a ∷ []) a.node ≡ step_down (path_of xs a.parent) (side_of a.side) a.id
path_of_new xs a =
    path_of-push xs a a.node ∙ ap (λ (b : Bool). cond b (step_down (path_of xs a.parent) (side_of a.side) a.id) (path_of xs a.node)) (node_itself a.node)

path_of_other : (xs : List Attached) (a : Attached) (v : Node) → node_eq a.node v ≡ false → path_of (xs ++ a ∷ []) v ≡ path_of xs v
path_of_other xs a v e = path_of-push xs a v ∙ ap (λ (b : Bool). cond b (step_down (path_of xs a.parent) (side_of a.side) a.id) (path_of xs v)) e

-- an event's node is there where it is attached
pub event_there : (xs : List Attached) (v : Node) → is_event v ≡ true → is_there xs v ≡ is_attached xs v
event_there xs Root e = absurd (false≢true e)
event_there xs (Base i) e = absurd (false≢true e)
event_there xs (Event n) e = refl

-- what is there is no new node
there_apart : (xs : List Attached) (a : Attached) → MayAttach xs a → (v : Node) → is_there xs v ≡ true → node_eq a.node v ≡ false
there_apart xs a may v there =
    false_from_ne_true (node_eq a.node v) (λ e.
    let same : a.node ≡ v = node_same a.node v e in
    false≢true (sym may.new ∙ sym (event_there xs a.node may.event) ∙ ap (is_there xs) same ∙ there))

pub there_more : (xs ys : List Attached) (v : Node) → is_there xs v ≡ true → is_there (xs ++ ys) v ≡ true
there_more xs ys Root h = refl
there_more xs ys (Base i) h = refl
there_more xs ys (Event n) h =
    list_any-append (λ (a : Attached). node_eq a.node (Event n)) xs ys ∙ or_left (is_attached xs (Event n)) (is_attached ys (Event n)) h

pub attached_there : (xs : List Attached) (a : Attached) → Among a xs → is_attached xs a.node ≡ true
attached_there xs a m = any_from (λ (c : Attached). node_eq c.node a.node) xs a m (node_itself a.node)

-- one more child that may be attached
pub attached_push : (xs later : List Attached) → AreAttached xs later → (y : Attached) → MayAttach (xs ++ later) y → AreAttached xs (later ++ y ∷ [])
attached_push xs [] all y may = (subst (λ (zs : List Attached). MayAttach zs y) (append-nil xs) may, tt)
attached_push xs (a ∷ later) all y may = (
  all.0,
  attached_push (xs ++ a ∷ []) later all.1 y (subst (λ (zs : List Attached). MayAttach zs y) (sym (append_assoc xs (a ∷ []) later)) may),
)

-- a name has a byte
pub has_agent : (agent : List ℕ) → is_name agent ≡ true → agent ≡ [] → ⊥
has_agent agent named none = false≢true (sym (ap is_name none) ∙ named)

-- what is attached later changes no path
pub path_stays : (xs later : List Attached) → AreAttached xs later → (v : Node) → is_there xs v ≡ true → path_of (xs ++ later) v ≡ path_of xs v
path_stays xs [] all v there = ap (λ (zs : List Attached). path_of zs v) (append-nil xs)
path_stays xs (a ∷ later) all v there =
    ap (λ (zs : List Attached). path_of zs v) (sym (append_assoc xs (a ∷ []) later))
    ∙ path_stays (xs ++ a ∷ []) later all.1 v (there_more xs (a ∷ []) v there)
    ∙ path_of_other xs a v (there_apart xs a all.0 v there)

-- the child whose node is there
pub child_found : (xs : List Attached) (n : ℕ) → is_there xs (Event n) ≡ true → (a : Attached) × Among a xs × (a.node ≡ Event n)
child_found xs n there = let found = found_by (λ (a : Attached). node_eq a.node (Event n)) xs there in (found.0, found.1, node_same found.0.node (Event n) found.2)

-- EACH CHILD
-- what is known of a child among those attached
pub record IsIn (attached : List Attached) (a : Attached) : Type 0 where
  pub event : is_event a.node ≡ true
  pub agent : a.id.agent ≡ [] → ⊥
  pub parent : is_there attached a.parent ≡ true
  pub path : path_of attached a.node ≡ step_down (path_of attached a.parent) (side_of a.side) a.id

first_in : (xs later : List Attached) (a : Attached) → AreAttached xs (a ∷ later) → IsIn (xs ++ a ∷ later) a
first_in xs later a all = record {
  event = all.0.event;
  agent = all.0.agent;
  parent = there_more xs (a ∷ later) a.parent all.0.parent;
  path = ap (λ (zs : List Attached). path_of zs a.node) (sym (append_assoc xs (a ∷ []) later))
      ∙ path_stays (xs ++ a ∷ []) later all.1 a.node here
      ∙ path_of_new xs a
      ∙ ap (λ (p : List Step). step_down p (side_of a.side) a.id) (sym (path_stays xs (a ∷ later) all a.parent all.0.parent));
}
  where
    here : is_there (xs ++ a ∷ []) a.node ≡ true
    here = event_there (xs ++ a ∷ []) a.node all.0.event ∙ attached_there (xs ++ a ∷ []) a (joined_right xs (a ∷ []) a (inl refl))

is_in : (xs later : List Attached) → AreAttached xs later → (a : Attached) → Among a later → IsIn (xs ++ later) a
is_in xs [] all a m = absurd m
is_in xs (y ∷ later) all a m =
    ⊎_elim
    (λ e. subst (IsIn (xs ++ y ∷ later)) (sym e) (first_in xs later y all))
    (λ k. subst (λ (zs : List Attached). IsIn zs a) (append_assoc xs (y ∷ []) later) (is_in (xs ++ y ∷ []) later all.1 a k))
    m

-- an id, or a node, of one that was there isn't attached again
id_not_again : (xs later : List Attached) → AreAttached xs later → (c a : Attached) → Among c xs → Among a later → c.id ≡ a.id → ⊥
id_not_again xs [] all c a mc ma e = absurd ma
id_not_again xs (y ∷ later) all c a mc ma e =
    ⊎_elim
    (λ k. false≢true (sym (none_passes (λ (z : Attached). id_eq z.id y.id) xs c all.0.unused mc) ∙ ap (λ (x : Id). id_eq x y.id) (e ∙ ap (λ (z : Attached). z.id) k) ∙ id_itself y.id))
    (λ k. id_not_again (xs ++ y ∷ []) later all.1 c a (joined_left xs (y ∷ []) c mc) k e)
    ma

-- two with one id are one
same_by_id : (xs later : List Attached) → AreAttached xs later → (a c : Attached) → Among a later → Among c later → a.id ≡ c.id → a ≡ c
same_by_id xs [] all a c ma mc e = absurd ma
same_by_id xs (y ∷ later) all a c ma mc e =
    ⊎_elim
    (λ ay. ⊎_elim
    (λ cy. ay ∙ sym cy)
    (λ cl. absurd (id_not_again (xs ++ y ∷ []) later all.1 a c (subst (λ (z : Attached). Among z (xs ++ y ∷ [])) (sym ay) (joined_right xs (y ∷ []) y (inl refl))) cl e))
    mc)
    (λ al. ⊎_elim
    (λ cy. absurd (id_not_again (xs ++ y ∷ []) later all.1 c a (subst (λ (z : Attached). Among z (xs ++ y ∷ [])) (sym cy) (joined_right xs (y ∷ []) y (inl refl))) al (sym e)))
    (λ cl. same_by_id (xs ++ y ∷ []) later all.1 a c al cl e)
    mc)
    ma

-- PATHS TELL NODES APART
-- a path that ends with a step is no root's
not_root : (p : List Step) (s : Step) → p ++ s ∷ [] ≡ [] → ⊥
not_root [] s e = let no : ⊥ = cc in no
not_root (t ∷ p) s e = let no : ⊥ = cc in no

-- the last step of a base character's path
pub base_ends : (i : ℕ) → (q : List Step) × (base_path i ≡ step_down q Right (base_id i))
base_ends zero = ([], refl)
base_ends (suc i) = (base_path i, refl)

last_ids : (p q : List Step) (s t : Side) (x y : Id) → step_down p s x ≡ step_down q t y → x ≡ y
last_ids p q s t x y e = ap (λ (w : Step). w.child) (same_from_push p q (record { side = s; child = x }) (record { side = t; child = y }) e).1

module _ (attached : List Attached) (all : AreAttached [] attached) where
  pub child_in : (a : Attached) → Among a attached → IsIn attached a
  child_in a m = is_in [] attached all a m

  pub root_path : path_of attached Root ≡ []
  unfolding path_of
  root_path = path_stays [] attached all Root refl

  pub base_path_of : (i : ℕ) → path_of attached (Base i) ≡ base_path i
  unfolding path_of
  base_path_of i = path_stays [] attached all (Base i) refl

  event_path : (n : ℕ) (there : is_there attached (Event n) ≡ true) → let a = (child_found attached n there).0 in path_of attached (Event n) ≡ step_down (path_of attached a.parent) (side_of a.side) a.id
  event_path n there = let child = child_found attached n there in ap (path_of attached) (sym child.2) ∙ (child_in child.0 child.1).path

  root_base : (j : ℕ) → path_of attached Root ≡ path_of attached (Base j) → ⊥
  root_base j e = let ends = base_ends j in not_root ends.0 (record { side = Right; child = base_id j }) (sym (sym root_path ∙ e ∙ base_path_of j ∙ ends.1))

  root_event : (n : ℕ) → is_there attached (Event n) ≡ true → path_of attached Root ≡ path_of attached (Event n) → ⊥
  root_event n there e =
      let a = (child_found attached n there).0 in
      not_root (path_of attached a.parent) (record { side = side_of a.side; child = a.id }) (sym (sym root_path ∙ e ∙ event_path n there))

  base_event : (i n : ℕ) → is_there attached (Event n) ≡ true → path_of attached (Base i) ≡ path_of attached (Event n) → ⊥
  base_event i n there e =
      let child = child_found attached n there in
      let a = child.0 in
      let ends = base_ends i in
      let same : base_id i ≡ a.id = last_ids ends.0 (path_of attached a.parent) Right (side_of a.side) (base_id i) a.id (sym ends.1 ∙ sym (base_path_of i) ∙ e ∙ event_path n there) in
      (child_in a child.1).agent (sym (ap (λ (x : Id). x.agent) same))

  base_base : (i j : ℕ) → path_of attached (Base i) ≡ path_of attached (Base j) → i ≡ j
  base_base i j e =
      let from = base_ends i in
      let to = base_ends j in
      ap (λ (x : Id). x.seq) (last_ids from.0 to.0 Right Right (base_id i) (base_id j) (sym from.1 ∙ sym (base_path_of i) ∙ e ∙ base_path_of j ∙ to.1))

  event_event : (m n : ℕ) → is_there attached (Event m) ≡ true → is_there attached (Event n) ≡ true → path_of attached (Event m) ≡ path_of attached (Event n) → Event m ≡ Event n
  event_event m n tm tn e =
      let one = child_found attached m tm in
      let other = child_found attached n tn in
      let ids : one.0.id ≡ other.0.id =
      last_ids (path_of attached one.0.parent) (path_of attached other.0.parent) (side_of one.0.side) (side_of other.0.side) one.0.id other.0.id (sym (event_path m tm) ∙ e ∙ event_path n tn) in
      sym one.2 ∙ ap (λ (a : Attached). a.node) (same_by_id [] attached all one.0 other.0 one.1 other.1 ids) ∙ other.2

  -- nodes that are there with one path are one
  pub same_node : (u v : Node) → is_there attached u ≡ true → is_there attached v ≡ true → path_of attached u ≡ path_of attached v → u ≡ v
  same_node Root Root tu tv e = refl
  same_node Root (Base j) tu tv e = absurd (root_base j e)
  same_node Root (Event n) tu tv e = absurd (root_event n tv e)
  same_node (Base i) Root tu tv e = absurd (root_base i (sym e))
  same_node (Base i) (Base j) tu tv e = ap Base (base_base i j e)
  same_node (Base i) (Event n) tu tv e = absurd (base_event i n tv e)
  same_node (Event m) Root tu tv e = absurd (root_event m tu (sym e))
  same_node (Event m) (Base j) tu tv e = absurd (base_event j m tu (sym e))
  same_node (Event m) (Event n) tu tv e = event_event m n tu tv e
