-- Where the characters of a whole history stand, by the state of a walk that forgot nothing.
use Rattle.std.proofs.Common.{◌≡◌, ℕ, suc, ◌+◌, ◌<◌, nat_eq, List, [], ◌∷◌, ◌++◌, length, map, take, Option, Some, None, IfSome, IfNone, option_map, inl, inr, refl, sym, ap, ◌∙◌, subst, append-nil, arith}
use Rattle.std.specs.Prelude.{slice_get}
use Rattle.std.proofs.lemmas.List.{length-map, map-append, take_all}
use Rattle.std.proofs.lemmas.List.Elements.{filter_map-append}
use Rattle.std.proofs.lemmas.Option.{slice_get-map}
use Rattle.ew_model.specs.declared.id.Id.{Id}
use Rattle.ew_model.specs.declared.event.Event.{Event}
use Rattle.ew_model.specs.declared.node.Node.TheVariants.{Event as event}
use Rattle.ew_model.specs.Sets.{Among}
use Rattle.ew_model.specs.Ancestors.{ids_of}
use Rattle.ew_model.specs.Entries.{Inserted, Entry, insertions, order}
use Rattle.ew_model.specs.Entries.Entry.{Insertion, Deletion, Mark}
use Rattle.ew_model.specs.Records.{inserts_as}
use Rattle.ew_model.specs.Tree.{Applied, Noted, based, all_entries, entries_over, tree}
use Rattle.ew_model.specs.Walks.{walked_from}
use Rattle.ew_model.proofs.ListParts.{element_there, take_next}
use Rattle.ew_model.proofs.PrefixLaws.{ordered_among}
use Rattle.ew_model.proofs.OperationLaws.{got}
use Rattle.ew_model.proofs.RunLaws.{Fits}
use Rattle.advance_retreat.specs.Kept.{Kept}
use Rattle.advance_retreat.specs.Placing.{AreInOrder, DeletesOf, IsNoDeletion}
use Rattle.advance_retreat.specs.Standing.{node_of, StandsFor}
use Rattle.advance_retreat.proofs.CharLaws.{own_event}
use Rattle.advance_retreat.proofs.Keeping.{notes, grown}
use Rattle.advance_retreat.proofs.Nodes.{IsOfTree, about_char, same_event, same_name}
use Rattle.advance_retreat.proofs.Placing.{char_event}
use Rattle.transform.specs.Placing.{order_ids, AreAt, deletion_by, deletions_in, ids_at, ArePairsAt, AreTargets, with_target}
use Rattle.transform.proofs.NamedAlike.{same_notes, same_entries, notes_at, paired_at, applied_of, own_id, name_at, walked_long}
use Rattle.ew_model.proofs.WalkLaws.{pairs}
use Rattle.ew_model.proofs.ListPlaces.{some_is}

-- the pairs are those of the events before a position
abbrev pub AreFirst : List Event → ℕ → List (ℕ × ℕ) → Type 0
AreFirst history p targets = ArePairsAt history targets (deletions_in (take p (tree history)))

module _ (history : List Event) (s : Kept) (prepared : List ℕ) (st : StandsFor s 0 (walked_from history 0) prepared) where
  abbrev events : List (Applied ℕ)
  events = walked_from history 0

  -- the notes under positions, and those under ids
  abbrev ns : List (Noted ℕ)
  ns = notes s 0 events prepared st

  abbrev ms : List (Noted Id)
  ms = tree history

  abbrev ids : List Id
  ids = ids_of history

  -- WHERE A CHARACTER IS INSERTED
  insertion_at : (n : Noted ℕ) (y : Inserted) → Among n ns → n.entry ≡ Insertion y → slice_get ids n.name ≡ Some y.id
  insertion_at n y m e =
      let source = (grown s 0 events prepared st).sources n m in
      let from = applied_of 0 [] [] history source.event source.there in
      let fits : Fits source.event.act (entries_over nat_eq 0 ns source.event.over) (Insertion y) = subst (Fits source.event.act (entries_over nat_eq 0 ns source.event.over)) e source.fits in
      let id : from.0.id ≡ y.id = own_id y.id from.0.id from.0.op (ap (inserts_as y.id) (sym from.2) ∙ fits.0) in
      let paired : Among (n.name, from.0.id) (pairs 0 history) = subst (λ (k : ℕ). Among (k, from.0.id) (pairs 0 history)) source.name from.1 in
      paired_at history (n.name, from.0.id) paired ∙ ap (λ (x : Id). Some x) id

  char_at : (z : Inserted) → Among z (insertions (all_entries 0 ns)) → (p : ℕ) → event p ≡ node_of ns z.id → slice_get ids p ≡ Some z.id
  char_at z m p is =
      let n = char_event s events prepared st z m in
      let same : n.0.name ≡ p = same_event n.0.name p (sym (own_event s 0 events prepared st n.0 z n.1 n.2) ∙ sym is) in
      ap (slice_get ids) (sym same) ∙ insertion_at n.0 z n.1 n.2

  -- THE ORDER
  all_same : all_entries 0 ns ≡ all_entries 0 ms
  all_same = ap (λ (es : List Entry). based 0 ++ es) (same_entries (pairs 0 history) ns ms (same_notes history))

  chars_at : (zs : List Inserted) (ps : List ℕ) → ((z : Inserted) → Among z zs → (p : ℕ) → event p ≡ node_of ns z.id → slice_get ids p ≡ Some z.id)
      → map event ps ≡ map (λ (z : Inserted). node_of ns z.id) zs → map (slice_get ids) ps ≡ map Some (map (λ (z : Inserted). z.id) zs)
  chars_at [] [] own e = refl
  chars_at [] (p ∷ ps) own e = let no : ⊥ = cc in absurd no
  chars_at (z ∷ zs) [] own e = let no : ⊥ = cc in absurd no
  chars_at (z ∷ zs) (p ∷ ps) own e =
      let first : event p ≡ node_of ns z.id = cc in
      let rest : map event ps ≡ map (λ (w : Inserted). node_of ns w.id) zs = cc in
      let here = own z (inl refl) p first in
      let later = chars_at zs ps (λ w m. own w (inr m)) rest in
      λ i. here i ∷ later i

  -- the positions in the order of the tree are those of the ids in the order of the history's tree
  pub placed_order : (ps : List ℕ) → AreInOrder ns ps → AreAt history ps (order_ids history)
  placed_order ps are =
      chars_at (order (all_entries 0 ns)) ps (λ z m. char_at z (ordered_among (all_entries 0 ns) z m)) are
      ∙ ap (λ (es : List Entry). map Some (map (λ (z : Inserted). z.id) (order es))) all_same

  -- WHAT DELETES WHAT
  many : length ns ≡ length history
  many = sym (length-map ns (λ (n : Noted ℕ). n.name)) ∙ ap (length {A = ℕ}) st.placed ∙ length-map events (λ (c : Applied ℕ). c.name) ∙ walked_long history

  -- the note of the event at a position
  record NoteAt (p : ℕ) : Type 0 where
    by_position : Noted ℕ
    by_id : Noted Id
    among : Among by_position ns
    named : by_position.name ≡ p
    there : slice_get ms p ≡ Some by_id
    id : slice_get ids p ≡ Some by_id.name
    same : by_position.entry ≡ by_id.entry

  note_at : (p : ℕ) → p < length history → NoteAt p
  note_at p within =
      let n = element_there ns p (omega (arith, within, many)) in
      let name : Some n.0.name ≡ Some p =
      sym (slice_get-map (λ (m : Noted ℕ). m.name) ns p ∙ ap (option_map (λ (m : Noted ℕ). m.name)) n.1)
      ∙ ap (λ (xs : List ℕ). slice_get xs p) st.placed ∙ name_at history p within in
      let named : n.0.name ≡ p = some_is n.0.name p name in
      let m = notes_at (pairs 0 history) ns ms p n.0 (same_notes history) n.1 in
      record {
        by_position = n.0;
        by_id = m.0;
        among = got ns p n.0 n.1;
        named = named;
        there = m.1;
        id = ap (slice_get ids) (sym named) ∙ paired_at history (n.0.name, m.0.name) m.2.0;
        same = m.2.1;
      }

  -- the deletions of one more event
  one_more : (p : ℕ) (a : NoteAt p) → deletions_in (take (suc p) ms) ≡ deletions_in (take p ms) ++ deletions_in (a.by_id ∷ [])
  one_more p a = ap deletions_in (take_next ms p a.by_id a.there) ∙ filter_map-append (λ (n : Noted Id). deletion_by n.name n.entry) (take p ms) (a.by_id ∷ [])

  none_by : (x : Id) (e : Entry) → ((t : Id) → e ≡ Deletion t → ⊥) → deletions_in (record { name = x; entry = e } ∷ []) ≡ []
  none_by x (Insertion y) none = refl
  none_by x (Deletion t) none = absurd (none t refl)
  none_by x Mark none = refl

  target_at : (p t : ℕ) (a : NoteAt p) → DeletesOf ns p t → (x : Id) × (a.by_id.entry ≡ Deletion x) × (slice_get ids t ≡ Some x)
  target_at p t a d =
      let g = grown s 0 events prepared st in
      let one : d.note ≡ a.by_position = same_name ns g.single d.note a.by_position d.there a.among (d.named ∙ sym a.named) in
      let of_tree : IsOfTree 0 ns (Deletion d.target) = subst (IsOfTree 0 ns) d.deletes (about_char 0 events ns g d.note d.there) in
      let here : slice_get ids t ≡ Some of_tree.0.id = char_at of_tree.0 of_tree.1 t (sym (ap (node_of ns) of_tree.2 ∙ d.inserts)) in
      (d.target, sym a.same ∙ ap (λ (n : Noted ℕ). n.entry) (sym one) ∙ d.deletes, here ∙ ap (λ (x : Id). Some x) of_tree.2)

  -- with the next they are those of one event more
  pub target_next : (p : ℕ) (targets : List (ℕ × ℕ)) (o : Option ℕ) → p < length history → IfSome o (DeletesOf ns p) → IfNone o (IsNoDeletion ns p) → AreFirst history p targets → AreFirst history (p + 1) (with_target targets p o)
  target_next p targets o within some none first =
      let next : suc p ≡ p + 1 = omega arith in
      subst (λ (k : ℕ). AreFirst history k (with_target targets p o)) next (by o some none)
    where
      a : NoteAt p
      a = note_at p within

      by : (o : Option ℕ) → IfSome o (DeletesOf ns p) → IfNone o (IsNoDeletion ns p) → AreFirst history (suc p) (with_target targets p o)
      by None some none =
          let quiet : deletions_in (a.by_id ∷ []) ≡ [] = none_by a.by_id.name a.by_id.entry (λ t is. none a.by_position a.among a.named t (a.same ∙ is)) in
          first
          ∙ ap (map (λ (d : Id × Id). (Some d.0, Some d.1))) (sym (one_more p a ∙ ap (λ (ds : List (Id × Id)). deletions_in (take p ms) ++ ds) quiet ∙ append-nil (deletions_in (take p ms))))
      by (Some t) some none =
          let d = target_at p t a some in
          let own : deletions_in (a.by_id ∷ []) ≡ (a.by_id.name, d.0) ∷ [] =
          ap (λ (e : Entry). deletions_in (record { name = a.by_id.name; entry = e } ∷ [])) d.1 in
          let last : ids_at history (p, t) ≡ (Some a.by_id.name, Some d.0) = λ i. (a.id i, d.2 i) in
          map-append (ids_at history) targets ((p, t) ∷ [])
          ∙ (λ i. first i ++ (last i ∷ []))
          ∙ sym (map-append (λ (c : Id × Id). (Some c.0, Some c.1)) (deletions_in (take p ms)) ((a.by_id.name, d.0) ∷ []))
          ∙ ap (map (λ (c : Id × Id). (Some c.0, Some c.1))) (sym (one_more p a ∙ ap (λ (ds : List (Id × Id)). deletions_in (take p ms) ++ ds) own))

  -- behind the last they are all
  long_tree : length ms ≡ length history
  long_tree = sym (length-map ms (λ (m : Noted Id). m.entry)) ∙ sym (ap (length {A = Entry}) (same_entries (pairs 0 history) ns ms (same_notes history))) ∙ length-map ns (λ (n : Noted ℕ). n.entry) ∙ many

  pub all_targets : (p : ℕ) (targets : List (ℕ × ℕ)) → p ≡ length history → AreFirst history p targets → AreTargets history targets
  all_targets p targets is first = subst (λ (ts : List (Noted Id)). ArePairsAt history targets (deletions_in ts)) (take_all p ms (omega (arith, is, long_tree))) first
