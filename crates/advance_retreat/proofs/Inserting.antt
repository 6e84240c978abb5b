-- What the apply of an insertion leaves, and does to the text.
use Rattle.std.proofs.Common.{◌≡◌, ℕ, suc, ◌<◌, ◌≤◌, ◌^◌, Bool, true, false, cond, ◌⊎◌, inl, inr, ⊎_elim, List, [], ◌∷◌, ◌++◌, map, filter, take, drop, insert, length, Some, option_map, slice_get, nat_eq, refl, sym, ap, ◌∙◌, subst, append_assoc, arith}
use Rattle.std.specs.Ordering.{is_lt, is_gt}
use Rattle.std.specs.declared.cmp.Ordering.{Ordering}
use Rattle.std.specs.declared.cmp.Ordering.TheVariants.{Less, Greater}
use Rattle.std.specs.List.{list_any}
use Rattle.std.proofs.lemmas.Bool.{false≢true, false_from_ne_true, eq-eqb}
use Rattle.std.proofs.lemmas.List.{map-append}
use Rattle.ew_model.specs.declared.id.Id.{Id}
use Rattle.ew_model.specs.declared.node.Node.{Node}
use Rattle.ew_model.specs.declared.node.Node.TheVariants.{Root, Base, Event}
use Rattle.ew_model.specs.declared.text_op.TextOp.TheVariants.{Ins}
use Rattle.ew_model.specs.Ids.{id_eq}
use Rattle.ew_model.specs.Sets.{Among}
use Rattle.ew_model.specs.Operations.{next_operation}
use Rattle.ew_model.specs.Entries.{Inserted, Entry, insertions, order, visible}
use Rattle.ew_model.specs.Entries.Entry.{Insertion, Deletion, Mark}
use Rattle.ew_model.specs.Paths.{Step, path_cmp}
use Rattle.ew_model.specs.Places.{path_before, new_path, place}
use Rattle.ew_model.specs.Places.Act.{InsertAs}
use Rattle.ew_model.specs.Sorting.{put_in_order}
use Rattle.ew_model.specs.Siblings.{StandsBehind, StandsAhead}
use Rattle.ew_model.specs.Tree.{Applied, Noted, next_entry, tree_of}
use Rattle.ew_model.specs.Records.{Record, IsNewId, MayApply, fresh, record_cmp, next_of, walker_records, applied_entries, prepared_entries, effects_in}
use Rattle.ew_model.proofs.SetLaws.{among_joined, joined_left, joined_right, among_map, map_among}
use Rattle.ew_model.proofs.SortingLaws.{all_at}
use Rattle.ew_model.proofs.ListTests.{any_from, found_by}
use Rattle.ew_model.proofs.OwnIndex.{BehindRoot, tree_behind, behind_root_order}
use Rattle.ew_model.proofs.RunLaws.{id_itself, id_same, Grown, run_grown, old_id}
use Rattle.ew_model.proofs.RecordLaws.{map_same, inserted_by}
use Rattle.ew_model.proofs.ReadLaws.{operations_read}
use Rattle.ew_model.proofs.FirstLaws.{applies_first}
use Rattle.ew_model.proofs.StateLaws.{node_of as record_node, nodes_of, applies_tell}
use Rattle.walker_record.specs.Stretches.{Stretch}
use Rattle.fugue_place.specs.declared.child.Attached.{Attached}
use Rattle.fugue_place.specs.declared.neighbour.Place.{Place}
use Rattle.fugue_place.specs.declared.neighbour.Place.TheVariants.{After, Before}
use Rattle.fugue_place.specs.Attachments.{node_eq, is_attached, is_there, has_id, path_of, MayAttach}
use Rattle.fugue_place.specs.Neighbours.{AreNodesOf, StandsAt, IsPlaceOfNew}
use Rattle.fugue_place.proofs.NodeLaws.{node_same, node_itself}
use Rattle.fugue_place.proofs.PathLaws.{root_path, path_of_new, there_more, attached_there, attached_push, path_stays, child_found}
use Rattle.character_runs.specs.declared.slot.Slot.{Slot}
use Rattle.advance_retreat.specs.declared.target.Target.{Target}
use Rattle.advance_retreat.specs.Kept.{Kept}
use Rattle.character_runs.specs.States.{single, is_of, is_visible, shown_in}
use Rattle.character_runs.specs.Spots.{Left, IsLeft, IsIndex}
use Rattle.advance_retreat.specs.Hanging.{slot_of, kept_with, MayHang, Puts}
use Rattle.advance_retreat.specs.Standing.{most, node_of, about, kept_record, kept_target, AreChildren, StandsFor}
use Rattle.advance_retreat.proofs.Room.{CanInsert}
use Rattle.character_runs.proofs.Lists.{count, count_above}
use Rattle.character_runs.proofs.Cuts.{count-mapped, Cut, cut_at, taken, taken_next, dropped_here, dropped_next}
use Rattle.advance_retreat.proofs.Nodes.{base_node, base_event, same_event, IsOfTree, note_char, node_event, about_char, char_cases}
use Rattle.advance_retreat.proofs.Keeping.{notes, rs, all, part, grown, visible_told, records_few}
use Rattle.advance_retreat.proofs.CharLaws.{IsOwn, own_char, own_event, char_path, record_of, base_in_tree}
use Rattle.advance_retreat.proofs.SlotLaws.{left_told, SlotIs, slot_told}
use Rattle.advance_retreat.proofs.Applying as apply

abbrev about_node : ℕ → Node → Target
about_node lv v = record { lv = lv; node = v }

count-fresh : (p : Record → Bool) (xs : List Record) (y : Record) (ys : List Record) → p y ≡ true → count p (xs ++ y ∷ ys) ≡ suc (count p (xs ++ ys))
count-fresh p [] y ys h = ap (λ c. length (cond c (y ∷ filter p ys) (filter p ys))) h
count-fresh p (x ∷ xs) y ys h = at (p x) (count-fresh p xs y ys h)
  where
    at : (c : Bool) → count p (xs ++ y ∷ ys) ≡ suc (count p (xs ++ ys)) → length (cond c (x ∷ filter p (xs ++ y ∷ ys)) (filter p (xs ++ y ∷ ys))) ≡ suc (length (cond c (x ∷ filter p (xs ++ ys)) (filter p (xs ++ ys))))
    at true e = ap suc e
    at false e = e

module _ (s : Kept) (b : ℕ) (events : List (Applied ℕ)) (prepared : List ℕ) (st : StandsFor s b events prepared) (lv : ℕ) (x : Id) (agent : x.agent ≡ [] → ⊥) (may : CanInsert b events lv x) where
  abbrev ns : List (Noted ℕ)
  ns = notes s b events prepared st

  abbrev records : List Record
  records = rs s b events prepared st

  abbrev walk : List Inserted
  walk = order (part s b events prepared st)

  abbrev kept : Record → Stretch
  kept = kept_record ns

  new_id : IsNewId events x
  new_id = record { unused = may.id; agent = agent }

  pub may_apply : (at ch : ℕ) → MayApply events (next_of lv (InsertAs x at ch) prepared)
  may_apply at ch = record { name = may.position; act = new_id; over = st.closed }

  -- WHAT THE ATTACHING ASKS
  pub unused : has_id s.attached x ≡ false
  unused = false_from_ne_true (has_id s.attached x) (λ h.
      let a = found_by (λ (a : Attached). id_eq a.id x) s.attached h in
      let o = st.children.only a.0 a.1 in
      let y = inserted_by a.0.id o.0.entry o.3 in
      old_id b events ns (grown s b events prepared st) x new_id y.0 (note_char b events ns (grown s b events prepared st) o.0 y.0 o.1 y.1) (y.2 ∙ id_same a.0.id x a.2))

  pub unattached : is_attached s.attached (Event lv) ≡ false
  unattached = false_from_ne_true (is_attached s.attached (Event lv)) (λ h.
      let a = found_by (λ (a : Attached). node_eq a.node (Event lv)) s.attached h in
      let o = st.children.only a.0 a.1 in
      let name : o.0.name ≡ lv = same_event o.0.name lv (sym o.2 ∙ node_same a.0.node (Event lv) a.2) in
      let source = (grown s b events prepared st).sources o.0 o.1 in
      false≢true (sym may.position ∙ any_from (λ (c : Applied ℕ). nat_eq c.name lv) events source.event source.there (eq-eqb source.event.name lv (source.name ∙ name))))

  pub unrecorded : list_any (is_of (Event lv)) s.records ≡ false
  unrecorded = false_from_ne_true (list_any (is_of (Event lv)) s.records) (λ h.
      let k = found_by (is_of (Event lv)) s.records h in
      let r = among_map kept records k.0 (subst (Among k.0) st.records k.1) in
      let from : node_of ns r.0.node.id ≡ Event lv = sym (ap (λ (w : Stretch). w.from) r.2) ∙ node_same k.0.from (Event lv) k.2 in
      ⊎_elim
      (λ i. base_event i.0 lv (ap (λ (w : Inserted). node_of ns w.id) (sym i.2) ∙ from))
      (λ n.
      let name : n.0.name ≡ lv = same_event n.0.name lv (sym (own_event s b events prepared st n.0 r.0.node n.1 n.2) ∙ from) in
      let source = (grown s b events prepared st).sources n.0 n.1 in
      false≢true (sym may.position ∙ any_from (λ (c : Applied ℕ). nat_eq c.name lv) events source.event source.there (eq-eqb source.event.name lv (source.name ∙ name))))
      (own_char s b events prepared st r.0 r.1))

  pub few : length s.records < 2 ^ 25
  few =
      let many = records_few s b events prepared st in
      let short = st.short_base in
      let room = may.room in
      omega arith

  -- THE NEW CHARACTER
  module _ (at ch : ℕ) (p : List Step) (left : path_before (visible (part s b events prepared st)) at ≡ Some p) where
    abbrev pub y : Inserted
    y = record { id = x; path = new_path walk p x; ch = ch }

    abbrev a : Applied ℕ
    a = next_of lv (InsertAs x at ch) prepared

    abbrev later : List (Applied ℕ)
    later = events ++ a ∷ []

    abbrev note : Noted ℕ
    note = record { name = lv; entry = Insertion y }

    abbrev more : List (Noted ℕ)
    more = ns ++ note ∷ []

    abbrev after : List Record
    after = walker_records b later (lv ∷ prepared)

    pub entry : next_entry nat_eq b (tree_of nat_eq b events) a ≡ Some (Insertion y)
    unfolding next_entry place
    entry = ap (option_map (λ p. Insertion (record { id = x; path = new_path walk p x; ch = ch }))) left

    grows : tree_of nat_eq b later ≡ more
    grows = apply.grows s b events prepared st lv (InsertAs x at ch) (Insertion y) (may_apply at ch) entry may.room

    more_grown : Grown b later more
    more_grown = subst (Grown b later) grows (run_grown b later (apply.run_kept s b events prepared st lv (InsertAs x at ch) (Insertion y) (may_apply at ch) entry may.room))

    in_more : (n : Noted ℕ) → Among n ns → Among n more
    in_more n m = joined_left ns (note ∷ []) n m

    note_there : Among note more
    note_there = joined_right ns (note ∷ []) note (inl refl)

    new_node : node_of more x ≡ Event lv
    new_node = node_event b later more more_grown note y note_there refl

    -- the others keep their nodes
    node_kept : (z : Inserted) → IsOwn s b events prepared st z → node_of more z.id ≡ node_of ns z.id
    node_kept z own =
        ⊎_elim
        (λ i. ap (λ (w : Inserted). node_of more w.id) i.2 ∙ sym (ap (λ (w : Inserted). node_of ns w.id) i.2))
        (λ n. node_event b later more more_grown n.0 z (in_more n.0 n.1) n.2 ∙ sym (own_event s b events prepared st n.0 z n.1 n.2))
        own

    in_tree_kept : (z : Inserted) → Among z (insertions (all s b events prepared st)) → node_of ns z.id ≡ node_of more z.id
    in_tree_kept z m = sym (node_kept z (char_cases b events ns (grown s b events prepared st) z m))

    about_kept : (e : Entry) → IsOfTree b ns e → about ns e ≡ about more e
    about_kept (Insertion z) m = in_tree_kept z m
    about_kept (Deletion t) z = ap (node_of ns) (sym z.2) ∙ in_tree_kept z.0 z.1 ∙ ap (node_of more) z.2
    about_kept Mark m = refl

    kept_alike : (xs : List Record) → ((r : Record) → Among r xs → Among r records) → map kept xs ≡ map (kept_record more) xs
    kept_alike xs sub = map_same kept (kept_record more) xs (λ r m. ap (λ v. single v r.prepared r.effect) (sym (node_kept r.node (own_char s b events prepared st r (sub r m)))))

    -- WHERE ITS RECORD COMES
    pub record Spot (i : ℕ) : Type 0 where
      pub front : List Record
      pub rest : List Record
      pub whole : records ≡ front ++ rest
      pub taken : take i s.records ≡ map kept front
      pub dropped : drop i s.records ≡ map kept rest
      pub comes : after ≡ front ++ fresh y ∷ rest
      pub does : next_operation nat_eq b (tree_of nat_eq b events) a ≡ Ins (effects_in front) ch

    module _ (h : Slot) (is : SlotIs s b events prepared st h x (new_path walk p x)) where
      nodes_told : AreNodesOf s.attached b (map record_node records)
      nodes_told = record {
        only = λ z m.
            let r = among_map record_node records z m in
            ⊎_elim
            (λ i. inl (i.0, i.1, ap (λ (w : Inserted). w.path) (r.2 ∙ i.2)))
            (λ n.
            let c = child_found s.attached n.0.name (st.children.there n.0 r.0.node n.1 n.2) in
            inr (c.0, c.1, ap (λ (w : Inserted). w.path) r.2 ∙ sym (ap (path_of s.attached) c.2 ∙ st.children.paths n.0 r.0.node n.1 n.2)))
            (own_char s b events prepared st r.0 r.1);
        enough = st.children.enough;
      }

      stands : (beside : Place) → IsPlaceOfNew s.attached h.parent h.side x beside → StandsAt s.attached (map record_node records) y.path beside
      stands beside told = subst (λ q. StandsAt s.attached (map record_node records) q beside) (sym is.path) (told.stands b (map record_node records) nodes_told is.ends)

      tells_law : (after ≡ put_in_order record_cmp (fresh y) records)
          × ((fs qs : List Record) (r : Record) → records ≡ fs ++ r ∷ qs → StandsBehind (map record_node records) y.path r.node.path → after ≡ fs ++ r ∷ fresh y ∷ qs)
          × ((fs qs : List Record) (r : Record) → records ≡ fs ++ r ∷ qs → StandsAhead (map record_node records) y.path r.node.path → after ≡ fs ++ fresh y ∷ r ∷ qs)
      tells_law = applies_tell b events prepared lv (InsertAs x at ch) (Insertion y) st.run (may_apply at ch) entry

      -- beside a record
      module _ (v : Node) (k : ℕ) (found : Stretch) (get : slice_get s.records k ≡ Some found) (own : found.from ≡ v) where
        cut : Cut kept records k found
        cut = cut_at kept records k found (ap (λ ks. slice_get ks k) (sym st.records) ∙ get)

        here : Among cut.here records
        here = subst (Among cut.here) (sym cut.whole) (joined_right cut.front (cut.here ∷ cut.rest) cut.here (inl refl))

        path_is : path_of s.attached v ≡ cut.here.node.path
        path_is = ap (path_of s.attached) (sym (ap (λ (w : Stretch). w.from) cut.image ∙ own)) ∙ char_path s b events prepared st cut.here.node (own_char s b events prepared st cut.here here)

        behind_it : StandsBehind (map record_node records) y.path (path_of s.attached v) → Spot (suc k)
        behind_it stand =
            let near = subst (StandsBehind (map record_node records) y.path) path_is stand in
            record {
              front = cut.front ++ cut.here ∷ [];
              rest = cut.rest;
              whole = cut.whole ∙ sym (append_assoc cut.front (cut.here ∷ []) cut.rest);
              taken = ap (take (suc k)) st.records ∙ taken_next kept records k found cut;
              dropped = ap (drop (suc k)) st.records ∙ dropped_next kept records k found cut;
              comes = tells_law.1 cut.front cut.rest cut.here cut.whole near ∙ sym (append_assoc cut.front (cut.here ∷ []) (fresh y ∷ cut.rest));
              does = (operations_read b events prepared lv (InsertAs x at ch) (Insertion y) st.run (may_apply at ch) entry cut.front cut.here cut.rest cut.whole).0 near;
            }

        ahead_of_it : StandsAhead (map record_node records) y.path (path_of s.attached v) → Spot k
        ahead_of_it stand =
            let near = subst (StandsAhead (map record_node records) y.path) path_is stand in
            record {
              front = cut.front;
              rest = cut.here ∷ cut.rest;
              whole = cut.whole;
              taken = ap (take k) st.records ∙ taken kept records k found cut;
              dropped = ap (drop k) st.records ∙ dropped_here kept records k found cut;
              comes = tells_law.2 cut.front cut.rest cut.here cut.whole near;
              does = (operations_read b events prepared lv (InsertAs x at ch) (Insertion y) st.run (may_apply at ch) entry cut.front cut.here cut.rest cut.whole).1 near;
            }

      -- beside the root, which is before all
      behind_root : BehindRoot (map record_node records)
      behind_root = subst BehindRoot (sym (nodes_of (all s b events prepared st) (part s b events prepared st))) (behind_root_order (all s b events prepared st) (tree_behind nat_eq b events))

      ahead_is_behind : StandsAhead (map record_node records) y.path [] → StandsBehind (map record_node records) y.path []
      ahead_is_behind stand z m =
          let above = all_at (λ (z : Inserted). path_cmp z.path [] ≡ Greater) (map record_node records) z behind_root m in
          stand z m ∙ ap (λ (o : Ordering). cond (is_lt o) Less Greater) above ∙ sym (ap (λ (o : Ordering). cond (is_gt o) Greater Less) above)

      first_of_all : StandsBehind (map record_node records) y.path [] → Spot 0
      first_of_all stand =
          let law = applies_first b events prepared lv (InsertAs x at ch) y st.run (may_apply at ch) entry stand in
          record { front = []; rest = records; whole = refl; taken = refl; dropped = st.records; comes = law.0; does = law.1 }

      -- a node that is there is of a record, but for the root
      none_there : (v : Node) → list_any (is_of v) s.records ≡ false → (z : Inserted) → Among z (insertions (all s b events prepared st)) → node_of ns z.id ≡ v → ⊥
      none_there v none z m e =
          let r = record_of s b events prepared st z m in
          let k = subst (Among (kept r.0)) (sym st.records) (map_among kept records r.0 r.1) in
          false≢true (sym none ∙ any_from (is_of v) s.records (kept r.0) k (ap (λ w. node_eq w v) (ap (λ (w : Inserted). node_of ns w.id) r.2 ∙ e) ∙ node_itself v))

      is_root : (v : Node) → (v ≡ h.parent) ⊎ (is_attached s.attached v ≡ true) → is_there s.attached v ≡ true → list_any (is_of v) s.records ≡ false → v ≡ Root
      is_root Root near there none = refl
      is_root (Base i) near there none =
          let low : i < b = ⊎_elim (λ own. is.low i (sym own)) (λ att. absurd (base_apart i att)) near in
          absurd (none_there (Base i) none (base_node i) (base_in_tree s b events prepared st i low) refl)
        where
          base_apart : (i : ℕ) → is_attached s.attached (Base i) ≡ true → ⊥
          base_apart i att =
              let c = found_by (λ (c : Attached). node_eq c.node (Base i)) s.attached att in
              base_event i (st.children.only c.0 c.1).0.name (sym (node_same c.0.node (Base i) c.2) ∙ (st.children.only c.0 c.1).2)
      is_root (Event n) near there none =
          let c = child_found s.attached n there in
          let o = st.children.only c.0 c.1 in
          let z = inserted_by c.0.id o.0.entry o.3 in
          absurd (none_there (Event n) none z.0 (note_char b events ns (grown s b events prepared st) o.0 z.0 o.1 z.1) (own_event s b events prepared st o.0 z.0 o.1 z.1 ∙ sym o.2 ∙ c.2))

      root_at : (v : Node) → v ≡ Root → path_of s.attached v ≡ []
      root_at v e = ap (path_of s.attached) e ∙ root_path s.attached st.children.sound

      pub spot : (beside : Place) → IsPlaceOfNew s.attached h.parent h.side x beside → (i : ℕ) → IsIndex s.records beside i → Spot i
      spot (After v) told i index =
          ⊎_elim
          (λ k. subst Spot (sym k.4) (behind_it v k.0 k.1 k.2 k.3 (stands (After v) told)))
          (λ none. subst Spot (sym none.1) (first_of_all (subst (StandsBehind (map record_node records) y.path) (root_at v (is_root v told.near told.there none.0)) (stands (After v) told))))
          index
      spot (Before v) told i index =
          ⊎_elim
          (λ k. subst Spot (sym k.4) (ahead_of_it v k.0 k.1 k.2 k.3 (stands (Before v) told)))
          (λ none. subst Spot (sym none.1) (first_of_all (ahead_is_behind (subst (StandsAhead (map record_node records) y.path) (root_at v (is_root v told.near told.there none.0)) (stands (Before v) told)))))
          index

      -- WHAT STANDS THEN
      abbrev child : Attached
      child = record { parent = h.parent; side = h.side; id = x; node = Event lv }

      may_attach : MayAttach s.attached child
      may_attach = record { event = refl; new = unattached; parent = is.there; unused = unused; agent = agent }

      children_kept : AreChildren b more (s.attached ++ child ∷ [])
      children_kept = record {
        sound = attached_push [] s.attached st.children.sound child may_attach;
        paths = λ n z m e. ⊎_elim
            (λ old. path_stays s.attached (child ∷ []) (may_attach, tt) (Event n.name) (st.children.there n z old e) ∙ st.children.paths n z old e)
            (λ new. ⊎_elim (λ own. new_path_is n z own e) (λ no. absurd no) new)
            (among_joined ns (note ∷ []) n m);
        there = λ n z m e. ⊎_elim
            (λ old. there_more s.attached (child ∷ []) (Event n.name) (st.children.there n z old e))
            (λ new. ⊎_elim (λ own. ap (λ (w : Noted ℕ). is_attached (s.attached ++ child ∷ []) (Event w.name)) own ∙ attached_there (s.attached ++ child ∷ []) child child_last) (λ no. absurd no) new)
            (among_joined ns (note ∷ []) n m);
        only = λ c m. ⊎_elim
            (λ old. let o = st.children.only c old in (o.0, in_more o.0 o.1, o.2, o.3))
            (λ new. ⊎_elim (λ own. (note, note_there, ap (λ (w : Attached). w.node) own, ap (λ (w : Attached). id_eq x w.id) own ∙ id_itself x)) (λ no. absurd no) new)
            (among_joined s.attached (child ∷ []) c m);
        enough = λ c i m e. ⊎_elim
            (λ old. st.children.enough c i old e)
            (λ new. ⊎_elim (λ own. is.low i (sym (ap (λ (w : Attached). w.parent) own) ∙ e)) (λ no. absurd no) new)
            (among_joined s.attached (child ∷ []) c m);
      }
        where
          child_last : Among child (s.attached ++ child ∷ [])
          child_last = joined_right s.attached (child ∷ []) child (inl refl)

          same_char : (z w : Inserted) → Insertion z ≡ Insertion w → z ≡ w
          same_char z w e = cc

          new_path_is : (n : Noted ℕ) (z : Inserted) → n ≡ note → n.entry ≡ Insertion z → path_of (s.attached ++ child ∷ []) (Event n.name) ≡ z.path
          new_path_is n z own e =
              ap (λ (w : Noted ℕ). path_of (s.attached ++ child ∷ []) (Event w.name)) own ∙ path_of_new s.attached child ∙ sym is.path
              ∙ ap (λ (w : Inserted). w.path) (same_char y z (sym (ap (λ (w : Noted ℕ). w.entry) own) ∙ e))

      targets_kept : s.targets ++ about_node lv (Event lv) ∷ [] ≡ map (kept_target more) more
      targets_kept =
          (λ i. old i ++ about_node lv (sym new_node i) ∷ []) ∙ sym (map-append (kept_target more) ns (note ∷ []))
        where
          old : s.targets ≡ map (kept_target more) ns
          old = st.targets ∙ map_same (kept_target ns) (kept_target more) ns (λ n m.
              ap (about_node n.name) (about_kept n.entry (about_char b events ns (grown s b events prepared st) n m)))

      records_kept : (i : ℕ) → Spot i → insert s.records i (single (Event lv) 1 true) ≡ map (kept_record more) after
      records_kept i spot =
          (λ j. fronts j ++ single (sym new_node j) 1 true ∷ rests j)
          ∙ sym (map-append (kept_record more) spot.front (fresh y ∷ spot.rest))
          ∙ ap (map (kept_record more)) (sym spot.comes)
        where
          fronts : take i s.records ≡ map (kept_record more) spot.front
          fronts = spot.taken ∙ kept_alike spot.front (λ r m. subst (Among r) (sym spot.whole) (joined_left spot.front spot.rest r m))

          rests : drop i s.records ≡ map (kept_record more) spot.rest
          rests = spot.dropped ∙ kept_alike spot.rest (λ r m. subst (Among r) (sym spot.whole) (joined_right spot.front spot.rest r m))

      text_kept : (i : ℕ) → Spot i → length (visible (applied_entries b later)) ≤ most
      text_kept i spot =
          let run = apply.run_kept s b events prepared st lv (InsertAs x at ch) (Insertion y) (may_apply at ch) entry may.room in
          let new = apply.text_told b later (lv ∷ prepared) run in
          let old = apply.text_told b events prepared st.run in
          let counted : count (λ (r : Record). r.effect) after ≡ suc (count (λ (r : Record). r.effect) (spot.front ++ spot.rest)) =
          ap (count (λ (r : Record). r.effect)) spot.comes ∙ count-fresh (λ (r : Record). r.effect) spot.front (fresh y) spot.rest refl in
          let same : count (λ (r : Record). r.effect) (spot.front ++ spot.rest) ≡ count (λ (r : Record). r.effect) records = ap (count (λ (r : Record). r.effect)) (sym spot.whole) in
          let room = may.room_in_text in
          omega (arith, new, old, counted, same, room)

      pub inserted : (i : ℕ) → Spot i → StandsFor (kept_with s i lv x h) b later (lv ∷ prepared)
      inserted i spot = record {
        run = apply.run_kept s b events prepared st lv (InsertAs x at ch) (Insertion y) (may_apply at ch) entry may.room;
        closed = apply.closed_kept s b events prepared st lv (InsertAs x at ch) (Insertion y) (may_apply at ch) entry may.room;
        part = apply.part_kept s b events prepared st lv (InsertAs x at ch) (Insertion y) (may_apply at ch) entry may.room;
        placed = apply.placed_kept s b events prepared st lv (InsertAs x at ch) (Insertion y) (may_apply at ch) entry may.room;
        base = st.base;
        records = records_kept i spot ∙ sym (ap (λ ms. map (kept_record ms) after) grows);
        children = subst (λ ms. AreChildren b ms (s.attached ++ child ∷ [])) (sym grows) children_kept;
        targets = targets_kept ∙ sym (ap (λ ms. map (kept_target ms) ms) grows);
        short_base = st.short_base;
        short_history = apply.short_kept s b events prepared st lv (InsertAs x at ch) (Insertion y) (may_apply at ch) entry may.room;
        short_text = text_kept i spot;
      }

      pub insertion_does : (i : ℕ) (spot : Spot i) → next_operation nat_eq b (tree_of nat_eq b events) a ≡ Ins (shown_in (take i s.records)) ch
      insertion_does i spot =
          spot.does ∙ ap (λ n. Ins n ch) (sym (ap shown_in spot.taken ∙ count-mapped kept (λ (w : Stretch). w.effect) spot.front))

-- by what the calls below answer
module _ (s : Kept) (b : ℕ) (events : List (Applied ℕ)) (prepared : List ℕ) (st : StandsFor s b events prepared) (at : ℕ) (l : Left) (left : IsLeft s.records at l) (lv : ℕ) (x : Id) where
  pub slot_fits : (p : List Step) × SlotIs s b events prepared st (slot_of s.base s.records s.attached l) x (new_path (order (part s b events prepared st)) p x) × (path_before (visible (part s b events prepared st)) at ≡ Some p)
  slot_fits =
      let q = left_told s b events prepared st at l left in
      (q.0, slot_told s b events prepared st at l q.0 q.1 q.2 x, q.2.before)

  module _ (agent : x.agent ≡ [] → ⊥) (may : CanInsert b events lv x) (new : Kept) (n ch : ℕ) (puts : Puts s new lv x (slot_of s.base s.records s.attached l) n) where
    pub inserted_by_put : StandsFor new b (events ++ next_of lv (InsertAs x at ch) prepared ∷ []) (lv ∷ prepared)
    inserted_by_put =
        let f = slot_fits in
        let h = slot_of s.base s.records s.attached l in
        subst (λ (w : Kept). StandsFor w b (events ++ next_of lv (InsertAs x at ch) prepared ∷ []) (lv ∷ prepared)) (sym puts.after)
        (inserted s b events prepared st lv x agent may at ch f.0 f.2 h f.1 puts.index
        (spot s b events prepared st lv x agent may at ch f.0 f.2 h f.1 puts.place puts.right puts.index puts.here))

    pub insertion_done : next_operation nat_eq b (tree_of nat_eq b events) (next_of lv (InsertAs x at ch) prepared) ≡ Ins n ch
    insertion_done =
        let f = slot_fits in
        let h = slot_of s.base s.records s.attached l in
        insertion_does s b events prepared st lv x agent may at ch f.0 f.2 h f.1 puts.index
        (spot s b events prepared st lv x agent may at ch f.0 f.2 h f.1 puts.place puts.right puts.index puts.here)
        ∙ ap (λ k. Ins k ch) (sym puts.before)

  pub asked : (x.agent ≡ [] → ⊥) → CanInsert b events lv x → (h : Slot) → h ≡ slot_of s.base s.records s.attached l → MayHang s lv x h
  asked agent may h e =
      let f = slot_fits.1 in
      subst (MayHang s lv x) (sym e)
      (record {
        parent = f.there;
        unused = unused s b events prepared st lv x agent may;
        new = unattached s b events prepared st lv x agent may;
        unrecorded = unrecorded s b events prepared st lv x agent may;
        last = f.last;
        room = few s b events prepared st lv x agent may;
      })

  -- the index is at most the number of visible characters
  pub left_in_range : at ≤ length (visible (prepared_entries b events prepared))
  left_in_range =
      let all = visible_told s b events prepared st in
      ⊎_elim
      (λ r. let none = r.0 in omega arith)
      (λ c.
      let above = count_above is_visible s.records c.0 c.1 c.2 (eq-eqb c.1.prepared 1 c.3) in
      let index = c.4 in
      omega (arith, all, above, index))
      left
