-- The characters of a state's tree: their nodes, paths and records.
use Rattle.std.proofs.Common.{◌≡◌, ℕ, ◌<◌, true, ⊎_elim, List, map, sym, ap, ◌∙◌, subst}
use Rattle.ew_model.specs.declared.node.Node.TheVariants.{Base, Event}
use Rattle.ew_model.specs.Sets.{Among}
use Rattle.ew_model.specs.Entries.{Inserted, insertions, order}
use Rattle.ew_model.specs.Entries.Entry.{Insertion}
use Rattle.ew_model.specs.Tree.{based, Applied, Noted}
use Rattle.ew_model.specs.Records.{Record, record_in, prepared_in}
use Rattle.ew_model.proofs.SetLaws.{among_map, joined_left}
use Rattle.ew_model.proofs.PlaceLaws.{among_insertions, insertion_among}
use Rattle.ew_model.proofs.RunLaws.{entry_of}
use Rattle.ew_model.proofs.StateLaws.{node_of as record_node, nodes_of}
use Rattle.fugue_place.specs.Attachments.{is_there, path_of}
use Rattle.fugue_place.proofs.PathLaws.{base_path_of}
use Rattle.advance_retreat.specs.Kept.{Kept}
use Rattle.advance_retreat.specs.Standing.{node_of, StandsFor}
use Rattle.advance_retreat.proofs.Nodes.{base_node, base_there, IsChar, char_cases, node_event, same_base, base_event}
use Rattle.advance_retreat.proofs.Keeping.{notes, rs, all, part, grown, record_char}
use Rattle.ew_model.proofs.ClearLaws.{stem_ordered}

module _ (s : Kept) (b : ℕ) (events : List (Applied ℕ)) (prepared : List ℕ) (st : StandsFor s b events prepared) where
  abbrev pub ns : List (Noted ℕ)
  ns = notes s b events prepared st

  abbrev pub IsOwn : Inserted → Type 0
  IsOwn z = IsChar b events ns (grown s b events prepared st) z

  pub own_char : (r : Record) → Among r (rs s b events prepared st) → IsOwn r.node
  own_char r m = char_cases b events ns (grown s b events prepared st) r.node (record_char s b events prepared st r m)

  pub own_event : (n : Noted ℕ) (y : Inserted) → Among n ns → n.entry ≡ Insertion y → node_of ns y.id ≡ Event n.name
  own_event n y m e = node_event b events ns (grown s b events prepared st) n y m e

  own_base : (i : ℕ) (z : Inserted) → z ≡ base_node i → node_of ns z.id ≡ Base i
  own_base i z e = ap (λ (w : Inserted). node_of ns w.id) e

  -- the path of a character's node
  pub char_path : (z : Inserted) → IsOwn z → path_of s.attached (node_of ns z.id) ≡ z.path
  char_path z own =
      ⊎_elim
      (λ i. ap (path_of s.attached) (own_base i.0 z i.2) ∙ base_path_of s.attached st.children.sound i.0 ∙ sym (ap (λ (w : Inserted). w.path) i.2))
      (λ n. ap (path_of s.attached) (own_event n.0 z n.1 n.2) ∙ st.children.paths n.0 z n.1 n.2)
      own

  pub char_there : (z : Inserted) → IsOwn z → is_there s.attached (node_of ns z.id) ≡ true
  char_there z own =
      ⊎_elim
      (λ i. ap (is_there s.attached) (own_base i.0 z i.2))
      (λ n. ap (is_there s.attached) (own_event n.0 z n.1 n.2) ∙ st.children.there n.0 z n.1 n.2)
      own

  pub char_low : (z : Inserted) → IsOwn z → (i : ℕ) → node_of ns z.id ≡ Base i → i < b
  char_low z own i e =
      ⊎_elim
      (λ j. subst (λ k. k < b) (same_base j.0 i (sym (own_base j.0 z j.2) ∙ e)) j.1)
      (λ n. absurd (base_event i n.0.name (sym e ∙ own_event n.0 z n.1 n.2)))
      own

  -- each character has a record
  pub record_of : (z : Inserted) → Among z (insertions (all s b events prepared st)) → (r : Record) × Among r (rs s b events prepared st) × (r.node ≡ z)
  record_of z m =
      let there = subst (Among z) (sym (nodes_of (all s b events prepared st) (part s b events prepared st))) (stem_ordered (all s b events prepared st) z m) in
      let r = among_map record_node (rs s b events prepared st) z there in
      (r.0, r.1, sym r.2)

  pub base_char : (i : ℕ) → i < b → Among (Insertion (base_node i)) (based b)
  base_char i lt = among_insertions (based b) (base_node i) (base_there b i lt)

  pub base_in_tree : (i : ℕ) → i < b → Among (base_node i) (insertions (all s b events prepared st))
  base_in_tree i lt = insertion_among (all s b events prepared st) (base_node i) (joined_left (based b) (map entry_of ns) (Insertion (base_node i)) (base_char i lt))

  pub number_of : (r : Record) → Among r (rs s b events prepared st) → r.prepared ≡ prepared_in (part s b events prepared st) r.node.id
  number_of r m =
      let z = among_map (record_in (all s b events prepared st) (part s b events prepared st)) (order (all s b events prepared st)) r m in
      ap (λ (w : Record). w.prepared) z.2 ∙ sym (ap (λ (w : Record). prepared_in (part s b events prepared st) w.node.id) z.2)
