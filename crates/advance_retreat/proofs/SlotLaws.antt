-- What a new character hangs on, by its left neighbour.
use Rattle.std.proofs.Common.{◌≡◌, ℕ, zero, suc, ◌<◌, Bool, true, false, cond, ◌&&◌, inl, inr, ⊎_elim, List, [], ◌∷◌, ◌++◌, map, drop, take, find, Option, Some, None, option_map, slice_get, nat_lt, refl, sym, ap, ◌∙◌, subst, arith}
use Rattle.std.specs.List.{list_any}
use Rattle.std.proofs.lemmas.Bool.{false≢true, false_from_ne_true, and_parts, and_from, or_cases, or_parts, or_left, or_right, eq-eqb, ltb-true, ltb-false, lt-ltb}
use Rattle.std.proofs.lemmas.List.{same_from_push}
use Rattle.ew_model.specs.declared.id.Id.{Id}
use Rattle.ew_model.specs.declared.node.Node.{Node}
use Rattle.ew_model.specs.declared.node.Node.TheVariants.{Root, Base, Event}
use Rattle.ew_model.specs.Sets.{Among}
use Rattle.ew_model.specs.Entries.{Inserted, order, visible}
use Rattle.ew_model.specs.Entries.Entry.{Insertion}
use Rattle.ew_model.specs.Places.{path_before, left_of_or_right_of, new_path}
use Rattle.ew_model.specs.Paths.{Step, path_lt, is_right_child, step_down}
use Rattle.ew_model.specs.Paths.Side.{Left as left_path, Right as right_path}
use Rattle.ew_model.specs.Tree.{base_id, base_path, based, Applied, Noted}
use Rattle.ew_model.specs.Records.{Record, is_one, is_known, ones_in, first_known}
use Rattle.ew_model.proofs.SetLaws.{joined_right, among_map, map_among}
use Rattle.ew_model.proofs.ListTests.{any_from, found_by, same_truth}
use Rattle.ew_model.proofs.GapLaws.{child_is}
use Rattle.ew_model.proofs.ReadLaws.{names_prepare}
use Rattle.ew_model.proofs.PlaceReads.{records_place}
use Rattle.walker_record.specs.Stretches.{Stretch}
use Rattle.fugue_place.specs.declared.child.Side as child
use Rattle.fugue_place.specs.declared.child.Side.TheVariants.{Left as left, Right as right}
use Rattle.fugue_place.specs.declared.child.Attached.{Attached}
use Rattle.fugue_place.specs.Attachments.{side_of, node_eq, is_there, path_of}
use Rattle.fugue_place.specs.Neighbours.{is_child, side_eq, is_beyond, has_beyond, BaseEndsAt}
use Rattle.fugue_place.proofs.NodeLaws.{node_same, node_itself, side_same, side_itself}
use Rattle.fugue_place.proofs.PathLaws.{child_in, root_path, base_path_of, child_found, same_node}
use Rattle.character_runs.specs.declared.slot.Slot.{Slot}
use Rattle.advance_retreat.specs.Kept.{Kept}
use Rattle.character_runs.specs.States.{is_visible, is_inserted, is_of, knows, visible_in}
use Rattle.character_runs.specs.Spots.{Left, first_known as first_node, IsLeft, slot_by}
use Rattle.advance_retreat.specs.Hanging.{has_next_base, has_known_child, has_known_right, slot_of}
use Rattle.advance_retreat.specs.Standing.{node_of, kept_record, StandsFor}
use Rattle.character_runs.proofs.Cuts.{count-mapped, find-mapped, Cut, cut_at, taken, dropped_next}
use Rattle.advance_retreat.proofs.Nodes.{base_node}
use Rattle.advance_retreat.proofs.Keeping.{notes, rs, part}
use Rattle.advance_retreat.proofs.CharLaws.{own_char, own_event, char_path, char_there, char_low, record_of, base_char, base_in_tree, number_of}
use Rattle.advance_retreat.proofs.RightChildren.{child_behind}
use Rattle.ew_model.proofs.NewNodes.{child_form}

found_in : {X : Type 0} (p : X → Bool) (xs : List X) (x : X) → find p xs ≡ Some x → Among x xs
found_in p [] x e = let no : ⊥ = cc in absurd no
found_in p (y ∷ xs) x e = at (p y) e (λ k. found_in p xs x k)
  where
    at : (c : Bool) → cond c (Some y) (find p xs) ≡ Some x → (find p xs ≡ Some x → Among x xs) → Among x (y ∷ xs)
    at true k rest = let same : x ≡ y = cc in inl same
    at false k rest = inr (rest k)

none_found : {X : Type 0} (p : X → Bool) (xs : List X) (x : X) → find p xs ≡ None → Among x xs → p x ≡ true → ⊥
none_found p [] x e m h = m
none_found p (y ∷ xs) x e m h = at (p y) refl e (λ k j. none_found p xs x k j h)
  where
    at : (c : Bool) → p y ≡ c → cond c (Some y) (find p xs) ≡ None → (find p xs ≡ None → Among x xs → ⊥) → ⊥
    at true k f rest = let no : ⊥ = cc in no
    at false k f rest = ⊎_elim (λ same. false≢true (sym k ∙ ap p (sym same) ∙ h)) (λ later. rest f later) m

root_base : (i : ℕ) → Root ≡ Base i → ⊥
root_base i e = cc

sides_same : (s : child.Side) → side_of s ≡ right_path → s ≡ right
sides_same left e = let no : ⊥ = cc in absurd no
sides_same right e = refl

left_right : left ≡ right → ⊥
left_right e = cc

module _ (s : Kept) (b : ℕ) (events : List (Applied ℕ)) (prepared : List ℕ) (st : StandsFor s b events prepared) where
  abbrev ns : List (Noted ℕ)
  ns = notes s b events prepared st

  abbrev records : List Record
  records = rs s b events prepared st

  abbrev walk : List Inserted
  walk = order (part s b events prepared st)

  abbrev kept : Record → Stretch
  kept = kept_record ns

  -- THE LEFT NEIGHBOUR
  -- its path, and the records behind it
  pub record LeftIs (at : ℕ) (l : Left) (p : List Step) (tail : List Record) : Type 0 where
    pub before : path_before (visible (part s b events prepared st)) at ≡ Some p
    pub next : find (λ (y : Inserted). path_lt p y.path) walk ≡ first_known tail
    pub behind : drop l.behind s.records ≡ map kept tail
    pub path : path_of s.attached l.node ≡ p
    pub there : is_there s.attached l.node ≡ true
    pub low : (i : ℕ) → l.node ≡ Base i → i < b
    pub inside : (r : Record) → Among r tail → Among r records

  left_root : (at : ℕ) (l : Left) → at ≡ 0 → l.node ≡ Root → l.behind ≡ 0 → LeftIs at l [] records
  left_root at l zero_at root first = record {
    before = ap (path_before (visible (part s b events prepared st))) zero_at;
    next = (records_place b events prepared st.run).next_of_root;
    behind = ap (λ n. drop n s.records) first ∙ st.records;
    path = ap (path_of s.attached) root ∙ root_path s.attached st.children.sound;
    there = ap (is_there s.attached) root;
    low = λ i e. absurd (root_base i (sym root ∙ e));
    inside = λ r m. m;
  }

  module _ (at : ℕ) (l : Left) (k : ℕ) (found : Stretch) (get : slice_get s.records k ≡ Some found) (visible_one : found.prepared ≡ 1) (index : at ≡ suc (visible_in (take k s.records)))
      (node : l.node ≡ found.from) (behind : l.behind ≡ suc k) where
    pub cut : Cut kept records k found
    cut = cut_at kept records k found (ap (λ ks. slice_get ks k) (sym st.records) ∙ get)

    here : Among cut.here records
    here = subst (Among cut.here) (sym cut.whole) (joined_right cut.front (cut.here ∷ cut.rest) cut.here (inl refl))

    one : is_one cut.here ≡ true
    one = eq-eqb cut.here.prepared 1 (ap (λ (w : Stretch). w.prepared) cut.image ∙ visible_one)

    ones : visible_in (take k s.records) ≡ ones_in cut.front
    ones = ap visible_in (ap (take k) st.records ∙ taken kept records k found cut) ∙ count-mapped kept is_visible cut.front

    node_is : l.node ≡ node_of ns cut.here.node.id
    node_is = node ∙ sym (ap (λ (w : Stretch). w.from) cut.image)

    left_char : LeftIs at l cut.here.node.path cut.rest
    left_char = record {
      before = ap (path_before (visible (part s b events prepared st))) (index ∙ ap suc ones) ∙ (records_place b events prepared st.run).before cut.front cut.here cut.rest cut.whole one;
      next = (records_place b events prepared st.run).next cut.front cut.here cut.rest cut.whole;
      behind = ap (λ n. drop n s.records) behind ∙ ap (drop (suc k)) st.records ∙ dropped_next kept records k found cut;
      path = ap (path_of s.attached) node_is ∙ char_path s b events prepared st cut.here.node (own_char s b events prepared st cut.here here);
      there = ap (is_there s.attached) node_is ∙ char_there s b events prepared st cut.here.node (own_char s b events prepared st cut.here here);
      low = λ i e. char_low s b events prepared st cut.here.node (own_char s b events prepared st cut.here here) i (sym node_is ∙ e);
      inside = λ r m. subst (Among r) (sym cut.whole) (joined_right cut.front (cut.here ∷ cut.rest) r (inr m));
    }

  pub left_told : (at : ℕ) (l : Left) → IsLeft s.records at l → (p : List Step) × (tail : List Record) × LeftIs at l p tail
  left_told at l h =
      ⊎_elim
      (λ r. ([], records, left_root at l r.0 r.1 r.2))
      (λ c.
      let own = cut at l c.0 c.1 c.2 c.3 c.4 c.5 c.6 in
      (own.here.node.path, own.rest, left_char at l c.0 c.1 c.2 c.3 c.4 c.5 c.6))
      h

  -- ITS RIGHT CHILDREN
  next_base : (v : Node) (p : List Step) → path_of s.attached v ≡ p → has_next_base b v ≡ true → (i : ℕ) × (i < b) × (is_right_child p (base_path i) ≡ true)
  next_base Root p path h =
      let is : [] ≡ p = sym (root_path s.attached st.children.sound) ∙ path in
      (0, ltb-true 0 b h, ap (λ q. is_right_child q (base_path 0)) (sym is))
  next_base (Base i) p path h =
      let is : base_path i ≡ p = sym (base_path_of s.attached st.children.sound i) ∙ path in
      (suc i, ltb-true (suc i) b h, ap (λ q. is_right_child q (base_path (suc i))) (sym is) ∙ child_is (base_path i) (record { side = right_path; child = base_id (suc i) }) refl)
  next_base (Event n) p path h = absurd (false≢true h)

  abbrev is_next : List Step → Record → Bool
  is_next p r = is_known r && is_right_child p r.node.path

  base_next : (v : Node) (p : List Step) → path_of s.attached v ≡ p → has_next_base b v ≡ true → list_any (is_next p) records ≡ true
  base_next v p path h =
      let i = next_base v p path h in
      let r = record_of s b events prepared st (base_node i.0) (base_in_tree s b events prepared st i.0 i.1) in
      let known : is_known r.0 ≡ true =
      ap (nat_lt 0) (number_of s b events prepared st r.0 r.1) ∙ (names_prepare b events prepared st.run).base r.0.node (subst (λ (z : Inserted). Among (Insertion z) (based b)) (sym r.2) (base_char s b events prepared st i.0 i.1)) in
      any_from (is_next p) records r.0 r.1 (and_from (is_known r.0) (is_right_child p r.0.node.path) known (ap (λ (z : Inserted). is_right_child p z.path) r.2 ∙ i.2))

  child_next : (v : Node) (p : List Step) → path_of s.attached v ≡ p → has_known_child s.records s.attached v ≡ true → list_any (is_next p) records ≡ true
  child_next v p path h =
      let a = found_by (λ (a : Attached). is_child v right a && knows s.records a.node) s.attached h in
      let parts = and_parts (is_child v right a.0) (knows s.records a.0.node) a.2 in
      let own = and_parts (node_eq a.0.parent v) (side_eq a.0.side right) parts.0 in
      let k = found_by (λ (k : Stretch). is_of a.0.node k && is_inserted k) s.records parts.1 in
      let tests = and_parts (is_of a.0.node k.0) (is_inserted k.0) k.2 in
      let r = among_map kept records k.0 (subst (Among k.0) st.records k.1) in
      let from : node_of ns r.0.node.id ≡ a.0.node = sym (ap (λ (w : Stretch). w.from) r.2) ∙ node_same k.0.from a.0.node tests.0 in
      let there : r.0.node.path ≡ step_down p right_path a.0.id =
      sym (char_path s b events prepared st r.0.node (own_char s b events prepared st r.0 r.1)) ∙ ap (path_of s.attached) from ∙ (child_in s.attached st.children.sound a.0 a.1).path
      ∙ (λ i. step_down (path_of s.attached (node_same a.0.parent v own.0 i)) (side_of (side_same a.0.side right own.1 i)) a.0.id)
      ∙ ap (λ q. step_down q right_path a.0.id) path in
      let known : is_known r.0 ≡ true = sym (ap (λ (w : Stretch). nat_lt 0 w.prepared) r.2) ∙ tests.1 in
      any_from (is_next p) records r.0 r.1 (and_from (is_known r.0) (is_right_child p r.0.node.path) known (ap (is_right_child p) there ∙ child_is p (record { side = right_path; child = a.0.id }) refl))

  next_known : (v : Node) (p : List Step) → path_of s.attached v ≡ p → is_there s.attached v ≡ true → list_any (is_next p) records ≡ true → has_known_right b s.records s.attached v ≡ true
  next_known v p path there h =
      let r = found_by (is_next p) records h in
      let parts = and_parts (is_known r.0) (is_right_child p r.0.node.path) r.2 in
      let form = child_form p r.0.node.path parts.1 in
      ⊎_elim
      (λ i. or_left (has_next_base b v) (has_known_child s.records s.attached v) (of_base v p path there i.0 i.1 form.0 (sym (ap (λ (z : Inserted). z.path) i.2) ∙ form.1)))
      (λ n. or_right (has_next_base b v) (has_known_child s.records s.attached v) (of_event v p path there r.0 r.1 parts.0 n.0 n.1 n.2 form.0 form.1 form.2))
      (own_char s b events prepared st r.0 r.1)
    where
      of_base : (v : Node) (p : List Step) → path_of s.attached v ≡ p → is_there s.attached v ≡ true → (i : ℕ) → i < b → (t : Step) → base_path i ≡ p ++ t ∷ [] → has_next_base b v ≡ true
      of_base v p path there zero lt t e =
          let front : [] ≡ p = (same_from_push [] p (record { side = right_path; child = base_id 0 }) t e).0 in
          let root : Root ≡ v = same_node s.attached st.children.sound Root v refl there (root_path s.attached st.children.sound ∙ front ∙ sym path) in
          ap (has_next_base b) (sym root) ∙ lt-ltb 0 b lt
      of_base v p path there (suc i) lt t e =
          let front : base_path i ≡ p = (same_from_push (base_path i) p (record { side = right_path; child = base_id (suc i) }) t e).0 in
          let own : Base i ≡ v = same_node s.attached st.children.sound (Base i) v refl there (base_path_of s.attached st.children.sound i ∙ front ∙ sym path) in
          ap (has_next_base b) (sym own) ∙ lt-ltb (suc i) b lt

      of_event : (v : Node) (p : List Step) → path_of s.attached v ≡ p → is_there s.attached v ≡ true → (r : Record) → Among r records → is_known r ≡ true → (n : Noted ℕ) → Among n ns → n.entry ≡ Insertion r.node
          → (t : Step) → r.node.path ≡ p ++ t ∷ [] → t.side ≡ right_path → has_known_child s.records s.attached v ≡ true
      of_event v p path there r m known n mn e t form side =
          let a = child_found s.attached n.name (st.children.there n r.node mn e) in
          let own = child_in s.attached st.children.sound a.0 a.1 in
          let here : step_down (path_of s.attached a.0.parent) (side_of a.0.side) a.0.id ≡ p ++ t ∷ [] = sym own.path ∙ ap (path_of s.attached) a.2 ∙ st.children.paths n r.node mn e ∙ form in
          let same = same_from_push (path_of s.attached a.0.parent) p (record { side = side_of a.0.side; child = a.0.id }) t here in
          let parent : a.0.parent ≡ v = same_node s.attached st.children.sound a.0.parent v own.parent there (same.0 ∙ sym path) in
          let sided : a.0.side ≡ right = sides_same a.0.side (ap (λ (w : Step). w.side) same.1 ∙ side) in
          let child_here : is_child v right a.0 ≡ true =
          and_from (node_eq a.0.parent v) (side_eq a.0.side right) (ap (λ w. node_eq w v) parent ∙ node_itself v) (ap (λ w. side_eq w right) sided ∙ side_itself right) in
          let from : node_of ns r.node.id ≡ a.0.node = own_event s b events prepared st n r.node mn e ∙ sym a.2 in
          let k = subst (Among (kept r)) (sym st.records) (map_among kept records r m) in
          let knows_it : knows s.records a.0.node ≡ true =
          any_from (λ (k : Stretch). is_of a.0.node k && is_inserted k) s.records (kept r) k
          (and_from (is_of a.0.node (kept r)) (is_inserted (kept r)) (ap (λ w. node_eq w a.0.node) from ∙ node_itself a.0.node) known) in
          any_from (λ (a : Attached). is_child v right a && knows s.records a.node) s.attached a.0 a.1 (and_from (is_child v right a.0) (knows s.records a.0.node) child_here knows_it)

  pub right_told : (v : Node) (p : List Step) → path_of s.attached v ≡ p → is_there s.attached v ≡ true → has_known_right b s.records s.attached v ≡ list_any (λ (y : Inserted). is_right_child p y.path) walk
  right_told v p path there =
      same_truth (has_known_right b s.records s.attached v) (list_any (is_next p) records)
      (λ h. ⊎_elim (λ k. base_next v p path k) (λ k. child_next v p path k) (or_cases (has_next_base b v) (has_known_child s.records s.attached v) h))
      (λ h. next_known v p path there h)
      ∙ sym ((records_place b events prepared st.run).right_child p)

  -- WHAT THE NEW ONE HANGS ON
  pub record SlotIs (h : Slot) (x : Id) (new : List Step) : Type 0 where
    pub there : is_there s.attached h.parent ≡ true
    pub low : (i : ℕ) → h.parent ≡ Base i → i < b
    pub path : new ≡ step_down (path_of s.attached h.parent) (side_of h.side) x
    pub ends : BaseEndsAt h.parent h.side b
    pub last : h.side ≡ right → has_beyond s.attached h.parent ≡ false

  ends_left : (v : Node) → BaseEndsAt v left b
  ends_left v = tt

  ends_right : (v : Node) → has_next_base b v ≡ false → BaseEndsAt v right b
  ends_right Root h = let le = ltb-false 0 b h in omega arith
  ends_right (Base i) h = let le = ltb-false (suc i) b h in omega arith
  ends_right (Event n) h = tt

  beyond_not : (u v : Node) → is_beyond u v ≡ true → ((i : ℕ) → u ≡ Base i → i < b) → BaseEndsAt v right b → ⊥
  beyond_not Root v h low ends = false≢true h
  beyond_not (Base j) Root h low ends = let lt = low j refl in omega arith
  beyond_not (Base j) (Base i) h low ends =
      let lt = low j refl in
      let above = ltb-true i j h in
      omega arith
  beyond_not (Base j) (Event n) h low ends = false≢true h
  beyond_not (Event m) v h low ends = false≢true h

  none_beyond : (v : Node) → BaseEndsAt v right b → has_beyond s.attached v ≡ false
  none_beyond v ends = false_from_ne_true (has_beyond s.attached v) (λ h.
      let a = found_by (λ (a : Attached). is_beyond a.parent v) s.attached h in
      beyond_not a.0.parent v a.2 (λ i e. st.children.enough a.0 i a.1 e) ends)

  module _ (at : ℕ) (l : Left) (p : List Step) (tail : List Record) (is : LeftIs at l p tail) (x : Id) where
    slot_at : (c : Bool) → list_any (λ (y : Inserted). is_right_child p y.path) walk ≡ c → (o : Option Record) → find is_known tail ≡ o
        → SlotIs (slot_by c (option_map (λ (r : Stretch). r.from) (option_map kept o)) l.node) x (cond c (left_of_or_right_of (option_map (λ (r : Record). r.node) o) p x) (step_down p right_path x))
    slot_at true h (Some r) o =
        let own = own_char s b events prepared st r (is.inside r (found_in is_known tail r o)) in
        record {
          there = char_there s b events prepared st r.node own;
          low = char_low s b events prepared st r.node own;
          path = ap (λ q. step_down q left_path x) (sym (char_path s b events prepared st r.node own));
          ends = ends_left (node_of ns r.node.id);
          last = λ e. absurd (left_right e);
        }
    slot_at true h None o =
        let y = found_by (λ (y : Inserted). is_right_child p y.path) walk h in
        absurd (none_found (λ (y : Inserted). path_lt p y.path) walk y.0 (is.next ∙ ap (option_map (λ (r : Record). r.node)) o) y.1 (child_behind p y.0.path y.2))
    slot_at false h o e =
        let none = (or_parts (has_next_base b l.node) (has_known_child s.records s.attached l.node) (right_told l.node p is.path is.there ∙ h)).0 in
        let ends = ends_right l.node none in
        record {
          there = is.there;
          low = is.low;
          path = ap (λ q. step_down q right_path x) (sym is.path);
          ends = ends;
          last = λ same. none_beyond l.node ends;
        }

    slot_is : slot_by (list_any (λ (y : Inserted). is_right_child p y.path) walk) (option_map (λ (r : Stretch). r.from) (option_map kept (find is_known tail))) l.node ≡ slot_of s.base s.records s.attached l
    slot_is =
        (λ i. slot_by (sym (right_told l.node p is.path is.there) i) (option_map (λ (r : Stretch). r.from) (sym (find-mapped kept is_inserted tail) i)) l.node)
        ∙ (λ i. slot_by (has_known_right (sym st.base i) s.records s.attached l.node) (first_node (sym is.behind i)) l.node)

    pub slot_told : SlotIs (slot_of s.base s.records s.attached l) x (new_path walk p x)
    slot_told =
        subst (λ h. SlotIs h x (new_path walk p x)) slot_is
        (subst (λ o. SlotIs (slot_by (list_any (λ (y : Inserted). is_right_child p y.path) walk) (option_map (λ (r : Stretch). r.from) (option_map kept (find is_known tail))) l.node) x (cond (list_any (λ (y : Inserted). is_right_child p y.path) walk) (left_of_or_right_of o p x) (step_down p right_path x))) (sym is.next)
        (slot_at (list_any (λ (y : Inserted). is_right_child p y.path) walk) refl (find is_known tail) refl))
