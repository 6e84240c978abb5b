-- What a kept state tells of the records that it stands for.
use Rattle.std.proofs.Common.{◌≡◌, ℕ, zero, suc, ◌+◌, ◌≤◌, Bool, true, false, cond, inl, inr, ⊎_elim, List, [], ◌∷◌, map, filter, find, length, Some, option_map, nat_eq, refl, sym, ap, ◌∙◌, subst, arith}
use Rattle.std.specs.List.{AllByRecursion}
use Rattle.std.proofs.lemmas.Bool.{false≢true, eq-eqb, eqb-true}
use Rattle.ew_model.specs.declared.id.Id.{Id}
use Rattle.ew_model.specs.declared.node.Node.TheVariants.{Root}
use Rattle.ew_model.specs.Ids.{id_eq}
use Rattle.ew_model.specs.Sets.{Among}
use Rattle.ew_model.specs.Entries.{Inserted, Entry, insertions, deletes, order, visible}
use Rattle.ew_model.specs.Entries.Entry.{Insertion, Deletion, Mark}
use Rattle.ew_model.specs.Tree.{based, Applied, Noted, all_entries, entries_over, tree_of}
use Rattle.ew_model.specs.Records.{Record, record_in, walker_records, applied_entries, prepared_entries, prepared_in, is_inserted, deletions_of, is_about, is_one}
use Rattle.ew_model.proofs.SetLaws.{among_map, map_among}
use Rattle.ew_model.proofs.SortingLaws.{all_from, length-sort}
use Rattle.ew_model.proofs.ListTests.{found_by}
use Rattle.ew_model.proofs.PrefixLaws.{ordered_among}
use Rattle.ew_model.proofs.RunLaws.{entry_of, Grown, named, run_grown}
use Rattle.ew_model.proofs.RecordLaws.{records_tell}
use Rattle.ew_model.proofs.StateLaws.{node_of as record_node, nodes_of}
use Rattle.walker_record.specs.Stretches.{Stretch}
use Rattle.fugue_place.specs.Attachments.{node_eq}
use Rattle.advance_retreat.specs.declared.target.Target.{Target}
use Rattle.advance_retreat.specs.Kept.{Kept, target_at}
use Rattle.character_runs.specs.States.{is_visible, visible_in, shown_in, HasRoom}
use Rattle.advance_retreat.specs.Standing.{node_of, kept_record, kept_target, about, is_applied, StandsFor}
use Rattle.character_runs.proofs.Lists.{count_few, length-push}
use Rattle.character_runs.proofs.Cuts.{length-mapped, count-mapped}
use Rattle.advance_retreat.proofs.Nodes.{base_node, IsOfTree, char_cases, char_apart, nodes_by_ids, same_name}
use Rattle.std.proofs.lemmas.List.{length-append}
use Rattle.ew_model.proofs.TextLengths.{length-insertions-le}

length-based : (b : ℕ) → length (based b) ≡ b
length-based zero = refl
length-based (suc b) = length-push (based b) (Insertion (base_node b)) ∙ ap suc (length-based b)

number_bound : (es : List Entry) (x : Id) → prepared_in es x ≤ suc (length es)
number_bound es x = at (is_inserted es x)
  where
    at : (b : Bool) → cond b (suc (deletions_of es x)) 0 ≤ suc (length es)
    at true = omega (arith, count_few (deletes x) es)
    at false = omega arith

length-order : (es : List Entry) → length (order es) ≡ length (insertions es)
unfolding order
length-order es = length-sort _ (insertions es)

module _ (s : Kept) (b : ℕ) (events : List (Applied ℕ)) (prepared : List ℕ) (st : StandsFor s b events prepared) where
  abbrev pub notes : List (Noted ℕ)
  notes = tree_of nat_eq b events

  abbrev pub rs : List Record
  rs = walker_records b events prepared

  abbrev pub all : List Entry
  all = all_entries b notes

  abbrev pub part : List Entry
  part = entries_over nat_eq b notes prepared

  pub grown : Grown b events notes
  grown = run_grown b events st.run

  pub record_char : (r : Record) → Among r rs → Among r.node (insertions all)
  record_char r m = ordered_among all r.node (subst (Among r.node) (nodes_of all part) (map_among record_node rs r m))

  -- COUNTS
  pub visible_told : visible_in s.records ≡ length (visible (prepared_entries b events prepared))
  visible_told =
      ap visible_in st.records ∙ count-mapped (kept_record notes) is_visible rs
      ∙ sym (length-mapped record_node (filter is_one rs)) ∙ ap length (records_tell b events prepared st.run).visible_nodes

  pub shown_told : shown_in s.records ≡ length (visible (applied_entries b events))
  shown_told =
      ap shown_in st.records ∙ count-mapped (kept_record notes) (λ (r : Stretch). r.effect) rs
      ∙ sym (length-mapped record_node (filter (λ (r : Record). r.effect) rs)) ∙ ap length (records_tell b events prepared st.run).effect_nodes

  length-notes : length notes ≡ length events
  length-notes = sym (length-mapped (λ (n : Noted ℕ). n.name) notes) ∙ ap length st.placed ∙ length-mapped (λ (c : Applied ℕ). c.name) events

  length-all : length all ≡ b + length events
  length-all = omega (arith, length-append (based b) (map entry_of notes), length-based b, length-mapped entry_of notes, length-notes)

  length-part : length part ≤ b + length events
  length-part = omega (arith, length-append (based b) (map entry_of (filter (named prepared) notes)), length-based b, length-mapped entry_of (filter (named prepared) notes), count_few (named prepared) notes, length-notes)

  pub records_few : length s.records ≤ b + length events
  records_few =
      let kept : length s.records ≡ length rs = ap length st.records ∙ length-mapped (kept_record notes) rs in
      let many : length rs ≡ length (order all) = length-mapped (record_in all part) (order all) in
      omega (arith, kept, many, length-order all, length-insertions-le all, length-all)

  -- each number of deletions may rise
  pub has_room : AllByRecursion HasRoom s.records
  has_room = subst (AllByRecursion HasRoom) (sym st.records) (all_from HasRoom (map (kept_record notes) rs) (λ k m.
      let r = among_map (kept_record notes) rs k m in
      let z = among_map (record_in all part) (order all) r.0 r.1 in
      let number : k.prepared ≡ prepared_in part z.0.id = ap (λ (w : Stretch). w.prepared) r.2 ∙ ap (λ (w : Record). w.prepared) z.2 in
      let short_base = st.short_base in
      let short_history = st.short_history in
      omega (arith, number, number_bound part z.0.id, length-part)))

  -- THE CHARACTER OF AN EVENT
  pub note_named : (lv : ℕ) → is_applied events lv → (n : Noted ℕ) × Among n notes × (n.name ≡ lv)
  note_named lv h =
      let c = found_by (λ (c : Applied ℕ). nat_eq c.name lv) events h in
      let there = subst (Among c.0.name) (sym st.placed) (map_among (λ (c : Applied ℕ). c.name) events c.0 c.1) in
      let n = among_map (λ (n : Noted ℕ). n.name) notes c.0.name there in
      (n.0, n.1, sym n.2 ∙ eqb-true c.0.name lv c.2)

  found_target : (n : Noted ℕ) → Among n notes → (ms : List (Noted ℕ)) → ((m : Noted ℕ) → Among m ms → Among m notes) → Among n ms → target_at (map (kept_target notes) ms) n.name ≡ Some (about notes n.entry)
  found_target n mn [] sub i = absurd i
  found_target n mn (m ∷ ms) sub i = at (nat_eq m.name n.name) refl (λ later. found_target n mn ms (λ k j. sub k (inr j)) later)
    where
      at : (c : Bool) → nat_eq m.name n.name ≡ c → (Among n ms → target_at (map (kept_target notes) ms) n.name ≡ Some (about notes n.entry))
          → option_map (λ (t : Target). t.node) (cond c (Some (kept_target notes m)) (find (λ (t : Target). nat_eq t.lv n.name) (map (kept_target notes) ms))) ≡ Some (about notes n.entry)
      at true h rest = ap (λ (w : Noted ℕ). Some (about notes w.entry)) (same_name notes grown.single m n (sub m (inl refl)) mn (eqb-true m.name n.name h))
      at false h rest = ⊎_elim (λ same. absurd (false≢true (sym h ∙ eq-eqb m.name n.name (sym (ap (λ (w : Noted ℕ). w.name) same))))) rest i

  pub target_told : (n : Noted ℕ) → Among n notes → target_at s.targets n.name ≡ Some (about notes n.entry)
  target_told n m = ap (λ ts. target_at ts n.name) st.targets ∙ found_target n m notes (λ k i. i) m

  same_char : (z : Inserted) → Among z (insertions all) → (r : Record) → Among r rs → node_eq (node_of notes r.node.id) (node_of notes z.id) ≡ id_eq z.id r.node.id
  same_char z there r m = nodes_by_ids b events notes grown r.node z (char_cases b events notes grown r.node (record_char r m)) (char_cases b events notes grown z there)

  -- no record is the root's
  pub root_apart : (r : Record) → Among r rs → node_eq (node_of notes r.node.id) Root ≡ false
  root_apart r m = char_apart b events notes grown r.node (char_cases b events notes grown r.node (record_char r m))

  -- its record is the one of its node
  pub about_told : (e : Entry) → IsOfTree b notes e → (r : Record) → Among r rs → node_eq (node_of notes r.node.id) (about notes e) ≡ is_about e r.node.id
  about_told (Insertion y) there r m = same_char y there r m
  about_told (Deletion t) there r m =
      ap (λ x. node_eq (node_of notes r.node.id) (node_of notes x)) (sym there.2) ∙ same_char there.0 there.1 r m ∙ ap (λ x. id_eq x r.node.id) there.2
  about_told Mark there r m = root_apart r m
