-- Which events insert characters.
use Rattle.std.proofs.Common.{◌≡◌, ℕ, zero, suc, ◌≤◌, true, false, ⊎_elim, List, [], ◌∷◌, ◌++◌, map, length, Option, Some, None, option_map, slice_get, refl, sym, ap, ◌∙◌, subst, append_assoc, arith}
use Rattle.std.specs.Prelude.{is_some}
use Rattle.std.proofs.lemmas.Bool.{false≢true, ltb-false}
use Rattle.std.proofs.lemmas.List.{length-map}
use Rattle.std.proofs.lemmas.Option.{slice_get-map}
use Rattle.ew_model.specs.declared.id.Id.{Id}
use Rattle.ew_model.specs.declared.event.Op.{Op}
use Rattle.ew_model.specs.declared.event.Op.TheVariants.{Ins, Del, Mark}
use Rattle.ew_model.specs.declared.event.Event.{Event}
use Rattle.ew_model.specs.Sets.{Among}
use Rattle.ew_model.specs.Ids.{id_eq}
use Rattle.ew_model.specs.Ancestors.{ancestors, ids_of}
use Rattle.ew_model.specs.Entries.{Inserted, Entry, order, visible}
use Rattle.ew_model.specs.Entries.Entry.{Insertion}
use Rattle.ew_model.specs.Places.{new_path, place}
use Rattle.ew_model.specs.Places.Act.{InsertAs}
use Rattle.ew_model.specs.Records.{inserts_as}
use Rattle.ew_model.specs.Texts.{text_at, visible_at}
use Rattle.ew_model.specs.Tree.{Noted, act_by, entries_over, next_entry, tree, tree_on}
use Rattle.ew_model.specs.Verdicts.{IsGood, IsGoodAfter, is_outside}
use Rattle.ew_model.proofs.CoverLaws.{ids_alike}
use Rattle.ew_model.proofs.EntryLaws.{LaidOut, entry_kept, none_held}
use Rattle.ew_model.proofs.EqualSets.{note_of_tree, tree_of_note}
use Rattle.ew_model.proofs.GoodLaws.{good_laid_out, next_from_good}
use Rattle.ew_model.proofs.ListParts.{element_there}
use Rattle.ew_model.proofs.OperationLaws.{got}
use Rattle.ew_model.proofs.RunLaws.{place_fits}
use Rattle.ew_model.proofs.SubgraphLaws.{one_event}
use Rattle.ew_model.proofs.TreeLaws.{entry_after}
use Rattle.event_graph.proofs.Counted.{event_there}
use Rattle.transform.proofs.NamedAlike.{own_id}
use Rattle.carets.specs.Sides.{all_chars, char_of}
use Rattle.carets.proofs.Held.{note_of, char_of_note}
use Rattle.carets.proofs.Sides.{chars_apart}
use Rattle.carets.proofs.UpTo.{own_char, char_told}
use Rattle.caret_places.specs.Indexes.{is_insertion}

-- AN INSERTION LEAVES A CHARACTER
leaves_char : (x : Id) (at ch : ℕ) (entries : List Entry) → at ≤ length (visible entries) → (z : Inserted) × (place (InsertAs x at ch) entries ≡ Some (Insertion z)) × (z.id ≡ x)
unfolding place
leaves_char x zero ch entries le = (record { id = x; path = new_path (order entries) [] x; ch = ch }, refl, refl)
leaves_char x (suc i) ch entries le =
    let c = element_there (visible entries) i (omega (arith, le)) in (
      record { id = x; path = new_path (order entries) c.0.path x; ch = ch },
      ap (λ (o : Option Inserted). option_map (λ p. Insertion (record { id = x; path = new_path (order entries) p x; ch = ch })) (option_map (λ (y : Inserted). y.path) o)) c.1,
      refl,
    )

-- the entry of the event e, as an insertion's
pub record LeavesChar (history : List Event) (e : Event) : Type 0 where
  pub char : Inserted
  pub entry : entry_after 0 history e ≡ Some (Insertion char)
  pub id : char.id ≡ e.id

next_leaves : (before : List Event) (e : Event) (at ch : ℕ) → is_outside (length (text_at before e.parents)) e.op ≡ false → e.op ≡ Ins at ch → LeavesChar before e
unfolding next_entry text_at visible_at tree
next_leaves before e at ch inside op =
    let entries = entries_over id_eq 0 (tree_on 0 before) (ancestors before e.parents) in
    let long = length-map (visible entries) (λ (z : Inserted). z.ch) in
    let low : at ≤ length (text_at before e.parents) = ltb-false (length (text_at before e.parents)) at (sym (ap (is_outside (length (text_at before e.parents))) op) ∙ inside) in
    let left = leaves_char e.id at ch entries (omega (arith, low, long)) in
    record {
      char = left.0;
      entry = ap (λ (o : Op). place (act_by e.id o) entries) op ∙ left.1;
      id = left.2;
    }

good_leaves : (before later : List Event) (e : Event) (at ch : ℕ) → IsGoodAfter before later → LaidOut before later → Among e later → e.op ≡ Ins at ch → LeavesChar (before ++ later) e
good_leaves before [] e at ch good laid m op = absurd m
good_leaves before (g ∷ later) e at ch good laid m op =
    ⊎_elim
    (λ same.
    let own : g.op ≡ Ins at ch = ap (λ (k : Event). k.op) (sym same) ∙ op in
    let left = next_leaves before g at ch (next_from_good before g good.0).range own in
    let kept : entry_after 0 (before ++ g ∷ later) g ≡ entry_after 0 before g = entry_kept 0 before (g ∷ later) g laid.1 (none_held before (g ∷ later) laid) in
    subst (LeavesChar (before ++ g ∷ later)) (sym same) (record { char = left.char; entry = kept ∙ left.entry; id = left.id }))
    (λ rest. subst (λ (h : List Event). LeavesChar h e) (append_assoc before (g ∷ []) later) (good_leaves (before ++ g ∷ []) later e at ch good.1 laid.2 rest op))
    m

insertion_left : (history : List Event) (e : Event) (at ch : ℕ) → IsGood history → Among e history → e.op ≡ Ins at ch → (z : Inserted) × Among z (all_chars history) × (z.id ≡ e.id)
unfolding IsGood tree
insertion_left history e at ch good m op =
    let laid = good_laid_out history good in
    let left = good_leaves [] history e at ch good laid m op in
    let note : Noted Id = record { name = e.id; entry = Insertion left.char } in
    (left.char, char_of_note history left.char note (tree_of_note history note e laid m refl left.entry) refl, left.id)

-- A CHARACTER IS LEFT BY AN INSERTION
pub record IsLeftBy (history : List Event) (z : Inserted) (e : Event) : Type 0 where
  pub there : Among e history
  pub id : e.id ≡ z.id
  pub inserts : inserts_as z.id (act_by e.id e.op) ≡ true

pub event_of_char : (history : List Event) (z : Inserted) → IsGood history → Among z (all_chars history) → (e : Event) × IsLeftBy history z e
unfolding tree next_entry
event_of_char history z good m =
    let n = note_of history z m in
    let from = note_of_tree history n.0 (good_laid_out history good) n.1 in
    let e : Event = from.0 in
    let fits = place_fits (act_by e.id e.op) (entries_over id_eq 0 (tree_on 0 history) (ancestors history e.parents)) (Insertion z) (from.3 ∙ ap (λ (w : Entry). Some w) n.2) in
    (e, record { there = from.1; id = own_id z.id e.id e.op fits.0; inserts = fits.0 })

-- THE EVENT AT A POSITION
module _ (history : List Event) (good : IsGood history) (p : ℕ) (x : Id) (op : Op) (id_at : slice_get (ids_of history) p ≡ Some x) (op_at : slice_get (map (λ (e : Event). e.op) history) p ≡ Some op) where
  the_event : (e : Event) × Among e history × (e.id ≡ x) × (e.op ≡ op)
  the_event =
      let found = event_there history p x id_at in
      let e : Event = found.0 in
      let own : Some e.op ≡ Some op = ap (option_map (λ (k : Event). k.op)) (sym found.1) ∙ sym (slice_get-map (λ (k : Event). k.op) history p) ∙ op_at in
      (e, got history p e found.1, found.2, same_some e.op op own)
    where
      same_some : (a b : Op) → Some a ≡ Some b → a ≡ b
      same_some a b e = cc

  inserts_char : (at ch : ℕ) → op ≡ Ins at ch → is_some (char_of (all_chars history) x) ≡ true
  inserts_char at ch is =
      let e = the_event in
      let z = insertion_left history e.0 at ch good e.1 (e.3 ∙ is) in
      ap (λ (i : Id). is_some (char_of (all_chars history) i)) (sym (z.2 ∙ e.2))
      ∙ ap (λ (o : Option Inserted). is_some o) (own_char (all_chars history) z.0 (chars_apart history good) z.1)

  inserts_none : (inserts_as x (act_by x op) ≡ true → ⊥) → is_some (char_of (all_chars history) x) ≡ false
  inserts_none other = at (char_of (all_chars history) x) refl
    where
      at : (o : Option Inserted) → char_of (all_chars history) x ≡ o → is_some o ≡ false
      at None q = refl
      at (Some z) q =
          let told = char_told (all_chars history) x z q in
          let left = event_of_char history z good told.0 in
          let f : Event = left.0 in
          let e = the_event in
          let one : f ≡ e.0 = one_event [] history f e.0 (good_laid_out history good) left.1.there e.1 (ap (id_eq f.id) (e.2 ∙ sym told.1 ∙ sym left.1.id) ∙ ids_alike.refl f.id) in
          absurd (other (inserts_here f e.0 z one left.1.inserts told.1 e.2 e.3))
        where
          inserts_here : (f e : Event) (z : Inserted) → f ≡ e → inserts_as z.id (act_by f.id f.op) ≡ true → z.id ≡ x → e.id ≡ x → e.op ≡ op → inserts_as x (act_by x op) ≡ true
          inserts_here f e z one inserts id own is = (λ i. inserts_as (sym id i) (act_by ((sym own ∙ ap (λ (k : Event). k.id) (sym one)) i) ((sym is ∙ ap (λ (k : Event). k.op) (sym one)) i))) ∙ inserts

-- it inserted a character where its operation says so
pub char_where_inserted : (history : List Event) (p : ℕ) (x : Id) (op : Op) → IsGood history → slice_get (ids_of history) p ≡ Some x → slice_get (map (λ (e : Event). e.op) history) p ≡ Some op → is_some (char_of (all_chars history) x) ≡ is_insertion op
char_where_inserted history p x (Ins at ch) good id_at op_at = inserts_char history good p x (Ins at ch) id_at op_at at ch refl
char_where_inserted history p x (Del at) good id_at op_at = inserts_none history good p x (Del at) id_at op_at (λ e. false≢true e)
char_where_inserted history p x (Mark label) good id_at op_at = inserts_none history good p x (Mark label) id_at op_at (λ e. false≢true e)
