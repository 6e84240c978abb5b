-- The nodes of the tree's characters, by their ids.
use Rattle.std.proofs.Common.{◌≡◌, ℕ, zero, suc, ◌<◌, Bool, true, false, cond, ◌⊎◌, inl, inr, ⊎_elim, List, [], ◌∷◌, ◌++◌, map, refl, sym, ap, ◌∙◌, subst, nat_eq, arith}
use Rattle.std.proofs.lemmas.Bool.{false≢true, eq-eqb}
use Rattle.std.proofs.lemmas.Bool.{cases_order}
use Rattle.ew_model.specs.declared.id.Id.{Id}
use Rattle.ew_model.specs.declared.node.Node.{Node}
use Rattle.ew_model.specs.declared.node.Node.TheVariants.{Root, Base, Event}
use Rattle.ew_model.specs.Ids.{id_eq}
use Rattle.ew_model.specs.Sets.{Among}
use Rattle.ew_model.specs.Entries.{Inserted, Entry, insertions}
use Rattle.ew_model.specs.Entries.Entry.{Insertion, Deletion, Mark}
use Rattle.ew_model.specs.Tree.{base_id, base_path, based, Applied, Noted, all_entries, entries_over}
use Rattle.ew_model.specs.Records.{inserts}
use Rattle.ew_model.proofs.SetLaws.{among_joined, joined_left, joined_right, among_map, map_among}
use Rattle.ew_model.proofs.SortingLaws.{all_at}
use Rattle.ew_model.proofs.ListTests.{same_truth}
use Rattle.ew_model.proofs.PlaceLaws.{among_insertions, insertion_among}
use Rattle.ew_model.proofs.PrefixLaws.{insertions-append, over_insertions}
use Rattle.ew_model.proofs.RunLaws.{id_itself, id_same, insertion_same, entry_of, Fits, Single, Grown}
use Rattle.ew_model.proofs.RecordLaws.{inserted_by}
use Rattle.fugue_place.specs.Attachments.{node_eq}
use Rattle.fugue_place.proofs.NodeLaws.{node_same, node_itself}
use Rattle.advance_retreat.specs.Standing.{base_or, event_of, node_of, about}

-- THE BASE
abbrev pub base_node : ℕ → Inserted
base_node i = record { id = base_id i; path = base_path i; ch = 0 }

pub base_next : (b : ℕ) → insertions (based (suc b)) ≡ insertions (based b) ++ base_node b ∷ []
base_next b = insertions-append (based b) (Insertion (base_node b) ∷ [])

pub base_is : (b : ℕ) (z : Inserted) → Among z (insertions (based b)) → (i : ℕ) × (i < b) × (z ≡ base_node i)
base_is zero z m = absurd m
base_is (suc b) z m =
    ⊎_elim
    (λ k. let older = base_is b z k in let lt : older.0 < b = older.1 in (older.0, omega arith, older.2))
    (λ k. ⊎_elim (λ e. (b, omega arith, e)) (λ no. absurd no) k)
    (among_joined (insertions (based b)) (base_node b ∷ []) z (subst (Among z) (base_next b) m))

pub base_there : (b i : ℕ) → i < b → Among (base_node i) (insertions (based b))
base_there zero i lt = absurd (omega arith)
base_there (suc b) i lt =
    subst (Among (base_node i)) (sym (base_next b))
    (⊎_elim
    (λ e. joined_right (insertions (based b)) (base_node b ∷ []) (base_node i) (inl (ap base_node e)))
    (λ k. ⊎_elim
    (λ below. joined_left (insertions (based b)) (base_node b ∷ []) (base_node i) (base_there b i below))
    (λ above. absurd (omega arith))
    k)
    (cases_order i b))

pub not_base : (agent : List ℕ) (seq : ℕ) (v : Node) → (agent ≡ [] → ⊥) → base_or agent seq v ≡ v
not_base [] seq v f = absurd (f refl)
not_base (c ∷ cs) seq v f = refl

pub same_base : (i j : ℕ) → Base i ≡ Base j → i ≡ j
same_base i j e = cc

pub same_event : (i j : ℕ) → Event i ≡ Event j → i ≡ j
same_event i j e = cc

pub base_event : (i j : ℕ) → Base i ≡ Event j → ⊥
base_event i j e = cc

-- notes with one name are one
pub same_name : (ns : List (Noted ℕ)) → Single ns → (m n : Noted ℕ) → Among m ns → Among n ns → m.name ≡ n.name → m ≡ n
same_name [] s m n i j e = absurd i
same_name (k ∷ ns) s m n i j e =
    ⊎_elim
    (λ a. ⊎_elim
    (λ c. a ∙ sym c)
    (λ later. absurd (false≢true (sym (all_at (λ (w : Noted ℕ). nat_eq w.name k.name ≡ false) ns n s.0 later) ∙ eq-eqb n.name k.name (sym e ∙ ap (λ (w : Noted ℕ). w.name) a))))
    j)
    (λ later. ⊎_elim
    (λ c. absurd (false≢true (sym (all_at (λ (w : Noted ℕ). nat_eq w.name k.name ≡ false) ns m s.0 later) ∙ eq-eqb m.name k.name (e ∙ ap (λ (w : Noted ℕ). w.name) c))))
    (λ both. same_name ns s.1 m n later both e)
    j)
    i

-- the character that an entry is about is one of the tree's
abbrev pub IsOfTree : ℕ → List (Noted ℕ) → Entry → Type 0
IsOfTree b notes (Insertion y) = Among y (insertions (all_entries b notes))
IsOfTree b notes (Deletion t) = (z : Inserted) × Among z (insertions (all_entries b notes)) × (z.id ≡ t)
IsOfTree b notes Mark = Unit {0}

module _ (b : ℕ) (events : List (Applied ℕ)) (notes : List (Noted ℕ)) (g : Grown b events notes) where
  -- a character of the base, or of an event's note
  abbrev pub IsChar : Inserted → Type 0
  IsChar z = ((i : ℕ) × (i < b) × (z ≡ base_node i)) ⊎ ((n : Noted ℕ) × Among n notes × (n.entry ≡ Insertion z))

  pub char_cases : (z : Inserted) → Among z (insertions (all_entries b notes)) → IsChar z
  char_cases z m =
      ⊎_elim
      (λ k. inl (base_is b z (insertion_among (based b) z k)))
      (λ k. let from = among_map entry_of notes (Insertion z) k in inr (from.0, from.1, sym from.2))
      (among_joined (based b) (map entry_of notes) (Insertion z) (among_insertions (all_entries b notes) z m))

  pub note_char : (n : Noted ℕ) (y : Inserted) → Among n notes → n.entry ≡ Insertion y → Among y (insertions (all_entries b notes))
  note_char n y m e =
      insertion_among (all_entries b notes) y (joined_right (based b) (map entry_of notes) (Insertion y) (subst (λ w. Among w (map entry_of notes)) e (map_among entry_of notes n m)))

  -- the node of an event's character
  event_here : (n : Noted ℕ) (y : Inserted) → Among n notes → n.entry ≡ Insertion y → (ms : List (Noted ℕ)) → ((m : Noted ℕ) → Among m ms → Among m notes) → Among n ms → event_of ms y.id ≡ Event n.name
  event_here n y mn e [] sub i = absurd i
  event_here n y mn e (m ∷ ms) sub i = at (inserts y.id m.entry) refl (λ later. event_here n y mn e ms (λ k j. sub k (inr j)) later)
    where
      at : (c : Bool) → inserts y.id m.entry ≡ c → (Among n ms → event_of ms y.id ≡ Event n.name) → cond c (Event m.name) (event_of ms y.id) ≡ Event n.name
      at true h rest = let by = inserted_by y.id m.entry h in ap (λ (w : Noted ℕ). Event w.name) (g.one_note m n (sub m (inl refl)) mn by.0 y by.1 e by.2)
      at false h rest = ⊎_elim (λ same. absurd (false≢true (sym h ∙ ap (λ (w : Noted ℕ). inserts y.id w.entry) (sym same) ∙ ap (inserts y.id) e ∙ id_itself y.id))) rest i

  pub node_event : (n : Noted ℕ) (y : Inserted) → Among n notes → n.entry ≡ Insertion y → node_of notes y.id ≡ Event n.name
  node_event n y m e = not_base y.id.agent y.id.seq (event_of notes y.id) ((g.sources n m).agent y e) ∙ event_here n y m e notes (λ k i. i) m

  node_base : (i : ℕ) (z : Inserted) → z ≡ base_node i → node_of notes z.id ≡ Base i
  node_base i z e = ap (λ (w : Inserted). node_of notes w.id) e

  -- characters with one node have one id
  ids_by_nodes : (z t : Inserted) → IsChar z → IsChar t → node_of notes z.id ≡ node_of notes t.id → z.id ≡ t.id
  ids_by_nodes z t cz ct e =
      ⊎_elim
      (λ i. ⊎_elim
      (λ j. let same : i.0 ≡ j.0 = same_base i.0 j.0 (sym (node_base i.0 z i.2) ∙ e ∙ node_base j.0 t j.2) in ap (λ (w : Inserted). w.id) i.2 ∙ ap base_id same ∙ sym (ap (λ (w : Inserted). w.id) j.2))
      (λ n. absurd (base_event i.0 n.0.name (sym (node_base i.0 z i.2) ∙ e ∙ node_event n.0 t n.1 n.2)))
      ct)
      (λ m. ⊎_elim
      (λ j. absurd (base_event j.0 m.0.name (sym (node_base j.0 t j.2) ∙ sym e ∙ node_event m.0 z m.1 m.2)))
      (λ n.
      let names : m.0.name ≡ n.0.name = same_event m.0.name n.0.name (sym (node_event m.0 z m.1 m.2) ∙ e ∙ node_event n.0 t n.1 n.2) in
      let one : m.0 ≡ n.0 = same_name notes g.single m.0 n.0 m.1 n.1 names in
      ap (λ (w : Inserted). w.id) (insertion_same z t (sym m.2 ∙ ap (λ (w : Noted ℕ). w.entry) one ∙ n.2)))
      ct)
      cz

  pub nodes_by_ids : (z t : Inserted) → IsChar z → IsChar t → node_eq (node_of notes z.id) (node_of notes t.id) ≡ id_eq t.id z.id
  nodes_by_ids z t cz ct =
      same_truth (node_eq (node_of notes z.id) (node_of notes t.id)) (id_eq t.id z.id)
      (λ h. ap (id_eq t.id) (ids_by_nodes z t cz ct (node_same (node_of notes z.id) (node_of notes t.id) h)) ∙ id_itself t.id)
      (λ h. ap (λ x. node_eq (node_of notes z.id) (node_of notes x)) (id_same t.id z.id h) ∙ node_itself (node_of notes z.id))

  -- none of them has the root as its node
  pub char_apart : (z : Inserted) → IsChar z → node_eq (node_of notes z.id) Root ≡ false
  char_apart z own =
      ⊎_elim
      (λ i. ap (λ (v : Node). node_eq v Root) (node_base i.0 z i.2))
      (λ n. ap (λ (v : Node). node_eq v Root) (node_event n.0 z n.1 n.2))
      own

  -- the character that a note is about
  about_at : (n : Noted ℕ) → Among n notes → (e : Entry) → n.entry ≡ e → IsOfTree b notes e
  about_at n m (Insertion y) e = note_char n y m e
  about_at n m (Deletion t) e =
      let source = g.sources n m in
      let fits : Fits source.event.act (entries_over nat_eq b notes source.event.over) (Deletion t) = subst (Fits source.event.act (entries_over nat_eq b notes source.event.over)) e source.fits in
      (fits.0, over_insertions nat_eq b notes source.event.over fits.0 fits.1, fits.2)
  about_at n m Mark e = tt

  pub about_char : (n : Noted ℕ) → Among n notes → IsOfTree b notes n.entry
  about_char n m = about_at n m n.entry refl

-- ONE MORE NOTE
-- where it inserts no character, it changes no node
module _ (note : Noted ℕ) (none : (x : Id) → inserts x note.entry ≡ false) where
  event_of-more : (notes : List (Noted ℕ)) (x : Id) → event_of (notes ++ note ∷ []) x ≡ event_of notes x
  event_of-more [] x = ap (λ (c : Bool). cond c (Event note.name) Root) (none x)
  event_of-more (n ∷ notes) x = ap (cond (inserts x n.entry) (Event n.name)) (event_of-more notes x)

  pub node_of-more : (notes : List (Noted ℕ)) (x : Id) → node_of (notes ++ note ∷ []) x ≡ node_of notes x
  node_of-more notes x = ap (base_or x.agent x.seq) (event_of-more notes x)

  pub about-more : (notes : List (Noted ℕ)) (e : Entry) → about (notes ++ note ∷ []) e ≡ about notes e
  about-more notes (Insertion y) = node_of-more notes y.id
  about-more notes (Deletion t) = node_of-more notes t
  about-more notes Mark = refl
