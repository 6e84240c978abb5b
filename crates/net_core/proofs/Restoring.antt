-- The events of an undo are such as the types can hold.
use Rattle.std.proofs.Common.{◌≡◌, ℕ, ◌+◌, ◌<◌, ◌^◌, Bool, true, false, inl, inr, List, [], ◌∷◌, ◌++◌, map, length, Option, Some, None, option_map, refl, sym, ap, ◌∙◌, subst, arith}
use Rattle.std.specs.Char.{IsScalar}
use Rattle.std.specs.List.{AllByRecursion, cons_option, filter_map, slice_get}
use Rattle.std.proofs.lemmas.List.{length-append, length-map}
use Rattle.std.proofs.lemmas.List.Sums.{count_by-le-length}
use Rattle.ew_model.specs.declared.id.Id.{Id}
use Rattle.ew_model.specs.declared.event.Op.{Op}
use Rattle.ew_model.specs.declared.event.Op.TheVariants as op
use Rattle.ew_model.specs.declared.event.Event.{Event}
use Rattle.ew_model.specs.Ancestors.{ancestors}
use Rattle.ew_model.specs.Entries.{Inserted, Entry, order, visible}
use Rattle.ew_model.specs.Entries.Entry.{Insertion, Deletion}
use Rattle.ew_model.specs.Ids.{id_eq}
use Rattle.ew_model.specs.Kept.{IsKept}
use Rattle.ew_model.specs.Limits.{AreLimits, LimitNumbers}
use Rattle.ew_model.specs.Names.{is_name}
use Rattle.ew_model.specs.Paths.{Step, path_lt}
use Rattle.ew_model.specs.Places.{path_before, new_path, place}
use Rattle.ew_model.specs.Sets.{Among}
use Rattle.ew_model.specs.Sound.{AreSound, IsSound, IsSoundOp}
use Rattle.ew_model.specs.Tree.{Noted, act_by, all_entries, entries_over, next_entry, tree_on, tree}
use Rattle.ew_model.specs.Verdicts.{IsGood}
use Rattle.ew_model.proofs.EditLaws.{ops_long}
use Rattle.ew_model.proofs.EntryLaws.{LaidOut}
use Rattle.ew_model.proofs.EqualSets.{note_of_tree}
use Rattle.ew_model.proofs.GoodLaws.{good_laid_out}
use Rattle.ew_model.proofs.PlaceLaws.{among_insertions}
use Rattle.ew_model.proofs.PrefixLaws.{ordered_among}
use Rattle.ew_model.proofs.SetLaws.{among_map}
use Rattle.ew_model.proofs.SortingLaws.{all_at}
use Rattle.ew_model.proofs.TextLengths.{text_is_short}
use Rattle.undo_definitions.specs.Undoing.{change_about, change_of, events_of_undo, index_among, ops_of_undo, undo_refusal}
use Rattle.undo_definitions.specs.Wanted.{chars_in_order, is_gone, is_wanted, wanted}
use Rattle.undo_definitions.proofs.Undos.{undos_leave_wanted}
use Rattle.net_core.proofs.Sounding.{ops_made}

-- an entry that an operation leaves has the operation's letter
letter_left : (x : Id) (o : Op) (entries : List Entry) (z : Inserted) → IsSoundOp o → place (act_by x o) entries ≡ Some (Insertion z) → IsScalar z.ch
unfolding place
letter_left x (op.Ins i ch) entries z s e = at (path_before (visible entries) i) e
  where
    at : (p : Option (List Step)) → option_map (λ q. Insertion (record { id = x; path = new_path (order entries) q x; ch = ch })) p ≡ Some (Insertion z) → IsScalar z.ch
    at None e = let no : ⊥ = cc in absurd no
    at (Some q) e =
        let y : Inserted = record { id = x; path = new_path (order entries) q x; ch = ch } in
        let same : y ≡ z = cc in
        subst (λ (w : Inserted). IsScalar w.ch) same s.1
letter_left x (op.Del i) entries z s e = at (slice_get (visible entries) i) e
  where
    at : (c : Option Inserted) → option_map (λ (target : Inserted). Deletion target.id) c ≡ Some (Insertion z) → IsScalar z.ch
    at None e = let no : ⊥ = cc in absurd no
    at (Some c) e = let no : ⊥ = cc in absurd no
letter_left x (op.Mark label) entries z s e = let no : ⊥ = cc in absurd no

letters_sound : (history : List Event) → IsGood history → AreSound history → (z : Inserted) → Among z (chars_in_order history) → IsScalar z.ch
unfolding next_entry tree
letters_sound history good sound z m =
    let laid : LaidOut [] history = good_laid_out history good in
    let all = all_entries 0 (tree_on 0 history) in
    let note = among_map (λ (k : Noted Id). k.entry) (tree_on 0 history) (Insertion z) (among_insertions all z (ordered_among all z m)) in
    let from = note_of_tree history note.0 laid note.1 in
    let f : Event = from.0 in
    letter_left f.id f.op (entries_over id_eq 0 (tree_on 0 history) (ancestors history f.parents)) z (all_at IsSound history f sound from.1).op (from.3 ∙ ap (λ w. Some w) (sym note.2))

-- what is done about a character
change_sound : (at ch : ℕ) (gone want : Bool) → at < 2 ^ 32 → IsScalar ch → (o : Op) → change_of at ch gone want ≡ Some o → IsSoundOp o
change_sound at ch false true small s o e = let no : ⊥ = cc in absurd no
change_sound at ch false false small s o e = let is : op.Del at ≡ o = cc in subst IsSoundOp is small
change_sound at ch true true small s o e = let is : op.Ins at ch ≡ o = cc in subst IsSoundOp is (small, s)
change_sound at ch true false small s o e = let no : ⊥ = cc in absurd no

changes_sound : (f : Inserted → Option Op) (zs : List Inserted) → ((z : Inserted) → Among z zs → (o : Op) → f z ≡ Some o → IsSoundOp o) → AllByRecursion IsSoundOp (filter_map f zs)
changes_sound f [] h = tt
changes_sound f (z ∷ zs) h = by (f z) refl (changes_sound f zs (λ y m. h y (inr m)))
  where
    by : (o : Option Op) → f z ≡ o → AllByRecursion IsSoundOp (filter_map f zs) → AllByRecursion IsSoundOp (cons_option o (filter_map f zs))
    by None is more = more
    by (Some o) is more = (h z (inl refl) o is, more)

ops_sound : (history : List Event) (undone : List Id) → IsGood history → AreSound history → length (wanted history undone) < 2 ^ 32 → AllByRecursion IsSoundOp (ops_of_undo history undone)
unfolding ops_of_undo
ops_sound history undone good sound few =
    changes_sound (change_about history undone) (chars_in_order history) (λ z m.
    let index = count_by-le-length (λ (y : Inserted). path_lt y.path z.path) (wanted history undone) in
    change_sound (index_among (wanted history undone) z) z.ch (is_gone history z) (is_wanted history undone z) (omega (arith, index, few)) (letters_sound history good sound z m))

-- the events of an undo that isn't refused
module _ (limits : LimitNumbers) (held waiting : List Event) (agent : List ℕ) (are : AreLimits limits) (kept : IsKept limits held waiting) (sound : AreSound held) (name : is_name agent ≡ true) where
  pub restoring_sound : (undone : List Id) → undo_refusal limits held undone ≡ None → AreSound (events_of_undo held agent undone)
  restoring_sound undone none =
      let made = events_of_undo held agent undone in
      let good = kept.orderly.good in
      let left = undos_leave_wanted limits held agent undone good none in
      let room = left.room kept.few in
      let long = length-append held made in
      let many = ops_long held agent (ops_of_undo held undone) in
      let short = text_is_short (held ++ made) left.good in
      let text = ap length left.text ∙ length-map (wanted held undone) (λ (z : Inserted). z.ch) in
      ops_made limits held waiting agent are kept sound name (ops_of_undo held undone) (omega (arith, room, long, many, are.few_events))
      (ops_sound held undone good sound (omega (arith, room, short, text, are.few_events)))
