-- An undo leaves the text of the other events, where these are a history of their own; and it is the same in histories with the same
-- events.
use Rattle.std.proofs.Common.{◌≡◌, ℕ, ◌+◌, Bool, true, false, not, ◌&&◌, ⊎_elim, List, [], ◌∷◌, ◌++◌, map, filter, filter_map, length, None, refl, sym, ap, ◌∙◌, subst}
use Rattle.std.specs.List.{list_any, cons_option}
use Rattle.std.proofs.lemmas.Bool.{false≢true, false_from_ne_true}
use Rattle.std.proofs.lemmas.List.Elements.{filter_agree}
use Rattle.ew_model.specs.declared.id.Id.{Id}
use Rattle.ew_model.specs.declared.event.Op.{Op}
use Rattle.ew_model.specs.declared.event.Event.{Event}
use Rattle.ew_model.specs.Sets.{Among, SameElements}
use Rattle.ew_model.specs.Ids.{id_eq, is_among}
use Rattle.ew_model.specs.Ancestors.{ids_of, is_held, version_events, ancestors}
use Rattle.ew_model.specs.Entries.{Inserted, Entry, deletes, visible}
use Rattle.ew_model.specs.Texts.{visible_at, text_at, text_of}
use Rattle.ew_model.specs.Tree.{Noted, all_entries, tree_on, tree}
use Rattle.ew_model.specs.Verdicts.{IsGood}
use Rattle.ew_model.specs.Edits.{count_of, chain_of, events_of_ops}
use Rattle.ew_model.proofs.CoverLaws.{event_of, held_by, held_of, ids_alike, among_here}
use Rattle.ew_model.proofs.EditLaws.{ops_long}
use Rattle.ew_model.proofs.EntryLaws.{LaidOut, none_held}
use Rattle.ew_model.proofs.EqualSets.{note_of_tree, same_text_of, same_tree, same_mapped, tree_apart}
use Rattle.ew_model.proofs.GoodLaws.{good_laid_out}
use Rattle.ew_model.proofs.KeptLaws.{good_before}
use Rattle.ew_model.proofs.ListTests.{filter_alike, same_truth}
use Rattle.ew_model.proofs.PlaceLaws.{same_any, same_order}
use Rattle.ew_model.proofs.RulingLaws.{good_parents}
use Rattle.ew_model.proofs.SetLaws.{among_joined, joined_left, among_filter, filter_among, map_among}
use Rattle.ew_model.proofs.SortingLaws.{all_at}
use Rattle.ew_model.proofs.SubgraphLaws.{one_event, closed_taken, taken_by_id, version_laid_out, subgraph_text}
use Rattle.ew_model.proofs.VersionLaws.{version_named}
use Rattle.undo_definitions.specs.Wanted.{ids_from, chars_in_order, is_gone, left_by_others, is_wanted, wanted, events_of_others}
use Rattle.undo_definitions.specs.Undoing.{change_of, index_among, change_about, ops_of_undo, events_of_undo, undo_refusal}
use Rattle.undo_definitions.specs.UndoLaws.{UndosLeaveOthersText, UndosGoBack, UndosAreUndone, EqualSetsUndoAlike}
use Rattle.undo_definitions.proofs.Undos.{undo_made, undo_text}
use Rattle.undo_definitions.proofs.Wants.{wanted_by_others}
use Rattle.ew_model.proofs.ClearingLaw.{laid_rest}

-- THE EVENTS THAT AREN'T UNDONE
not_true : (b : Bool) → not b ≡ true → b ≡ false
not_true true e = absurd (false≢true e)
not_true false e = refl

module _ (history others : List Event) (undone : List Id) (good : IsGood history) (others_good : IsGood others) (same : SameElements others (events_of_others undone history)) where
  laid : LaidOut [] history
  laid = good_laid_out history good

  is_one : (f : Event) → Among f others → Among f history × (is_among undone f.id ≡ false)
  is_one f m = let kept = among_filter (λ (e : Event). not (is_among undone e.id)) history f (same.there f m) in (kept.0, not_true (is_among undone f.id) kept.1)

  -- an event of the history under an id that the others hold is one of them
  one_of_others : (f : Event) → Among f history → is_held others f.id ≡ true → Among f others
  one_of_others f m h =
      let g = event_of others f.id h in
      subst (λ (e : Event). Among e others) (sym (one_event [] history f g.0 laid m (is_one g.0 g.1).0 g.2)) g.1

  -- they are a version
  version_others : SameElements (version_events history (ids_of others)) others
  version_others = record {
    there = λ f m. closed_taken (λ e. Among e others) history (ids_of others) (λ e k named. one_of_others e k named) (λ g e mg k parent. one_of_others e k (good_parents others others_good g mg e.id parent)) f m;
    back = λ f m. version_named history (ids_of others) f (is_one f m).0 (held_of others f m);
  }

  -- whose ids are those that aren't undone
  version_ids : (n : Noted Id) → Among n (tree_on 0 history) → not (is_among undone n.name) ≡ list_any (id_eq n.name) (ancestors history (ids_of others))
  version_ids n m =
      let note = note_of_tree history n laid m in
      let f = note.0 in
      let among : Id → Bool = λ x. is_among (ancestors history (ids_of others)) x in
      let named = note.2 in
      same_truth (not (is_among undone n.name)) (among n.name)
      (λ e.
      let mine : Among f others = same.back f (filter_among (λ (g : Event). not (is_among undone g.id)) history f note.1 (ap (λ x. not (is_among undone x)) (sym named) ∙ e)) in
      ap among named ∙ among_here (ancestors history (ids_of others)) f.id (map_among (λ (g : Event). g.id) (version_events history (ids_of others)) f (version_others.back f mine)))
      (λ e.
      let taken = taken_by_id history (ids_of others) f laid note.1 (ap among (sym named) ∙ e) in
      ap (λ x. not (is_among undone x)) named ∙ ap not (is_one f (version_others.there f taken)).1)

  left_is_version : map (λ (z : Inserted). z.ch) (visible (left_by_others undone (tree history))) ≡ text_at history (ids_of others)
  unfolding tree text_at visible_at
  left_is_version =
      ap (λ (notes : List (Noted Id)). map (λ (z : Inserted). z.ch) (visible (all_entries 0 notes)))
      (filter_alike (λ (n : Noted Id). not (is_among undone n.name)) (λ n. list_any (id_eq n.name) (ancestors history (ids_of others))) (tree_on 0 history) version_ids)

  pub others_text : map (λ z. z.ch) (wanted history undone) ≡ text_of others
  others_text =
      ap (map (λ (z : Inserted). z.ch)) (wanted_by_others history undone good)
      ∙ left_is_version
      ∙ subgraph_text history (ids_of others) laid
      ∙ same_text_of (version_events history (ids_of others)) others (version_laid_out history (ids_of others) laid) (good_laid_out others others_good) version_others

-- The law of others' text.
pub undos_leave_others_text : UndosLeaveOthersText
undos_leave_others_text limits history others agent undone good others_good same none =
    undo_text limits history agent undone good none ∙ others_text history others undone good others_good same

-- THE LAST EVENTS
-- the events before the last ones are those with other ids
others_before : (before last : List Event) → LaidOut [] (before ++ last) → SameElements before (events_of_others (ids_of last) (before ++ last))
others_before before last h = record {
  there = λ f m.
      filter_among (λ (e : Event). not (is_among (ids_of last) e.id)) (before ++ last) f (joined_left before last f m)
      (ap not (false_from_ne_true (is_among (ids_of last) f.id) (λ e. let g = event_of last f.id e in apart f g.0 m g.1 g.2)));
  back = λ f m.
      let kept = among_filter (λ (e : Event). not (is_among (ids_of last) e.id)) (before ++ last) f m in
      ⊎_elim (λ k. k) (λ k. absurd (false≢true (sym (not_true (is_held last f.id) kept.1) ∙ held_of last f k))) (among_joined before last f kept.0);
}
  where
    apart : (f g : Event) → Among f before → Among g last → id_eq f.id g.id ≡ true → ⊥
    apart f g mf mg e =
        false≢true (sym (all_at (λ k. is_held before k.id ≡ false) last g (none_held before last (laid_rest [] before last h)) mg) ∙ held_by before g.id f mf (ids_alike.symm g.id f.id ∙ e))

-- The law of last events.
pub undos_go_back : UndosGoBack
unfolding IsGood
undos_go_back limits before last agent good none =
    undos_leave_others_text limits (before ++ last) before agent (ids_of last) good (good_before [] before last good) (others_before before last (good_laid_out (before ++ last) good)) none

-- the ids of the events of an agent's operations
chain_ids : (agent : List ℕ) (n : ℕ) (parents : List Id) (ops : List Op) → ids_of (chain_of agent n parents ops) ≡ ids_from agent n (length ops)
chain_ids agent n parents [] = refl
chain_ids agent n parents (o ∷ ops) = ap (λ (xs : List Id). record { agent = agent; seq = n } ∷ xs) (chain_ids agent (n + 1) (record { agent = agent; seq = n } ∷ []) ops)

pub ids_of_ops : (history : List Event) (agent : List ℕ) (ops : List Op) → ids_of (events_of_ops history agent ops) ≡ ids_from agent (count_of history agent) (length ops)
unfolding events_of_ops
ids_of_ops history agent ops = chain_ids agent _ _ ops

-- The law of an undo of an undo.
pub undos_are_undone : UndosAreUndone
undos_are_undone limits history agent other undone good none =
    let undo = events_of_undo history agent undone in
    let made : ids_of undo ≡ ids_from agent (count_of history agent) (length undo) =
    ids_of_ops history agent (ops_of_undo history undone) ∙ ap (ids_from agent (count_of history agent)) (sym (ops_long history agent (ops_of_undo history undone))) in
    subst (λ ids. undo_refusal limits (history ++ undo) ids ≡ None → text_of ((history ++ undo) ++ events_of_undo (history ++ undo) other ids) ≡ text_of history) made
    (undos_go_back limits history undo other (undo_made limits history agent undone good none).good)

-- THE SAME EVENTS
same_filtered : {X : Type 0} (p : X → Bool) (xs ys : List X) → SameElements xs ys → SameElements (filter p xs) (filter p ys)
same_filtered p xs ys s = record {
  there = λ z m. let kept = among_filter p xs z m in filter_among p ys z (s.there z kept.0) kept.1;
  back = λ z m. let kept = among_filter p ys z m in filter_among p xs z (s.back z kept.0) kept.1;
}

module _ (xs ys : List Event) (undone : List Id) (good_xs : IsGood xs) (good_ys : IsGood ys) (s : SameElements xs ys) where
  abbrev entry_of : Noted Id → Entry
  entry_of n = n.entry

  same_notes : SameElements (tree xs) (tree ys)
  unfolding tree
  same_notes = same_tree xs ys (good_laid_out xs good_xs) (good_laid_out ys good_ys) s

  same_chars : chars_in_order xs ≡ chars_in_order ys
  unfolding tree
  same_chars =
      same_order (all_entries 0 (tree_on 0 xs)) (all_entries 0 (tree_on 0 ys)) (tree_apart xs (good_laid_out xs good_xs)) (tree_apart ys (good_laid_out ys good_ys))
      (same_mapped entry_of (tree_on 0 xs) (tree_on 0 ys) (same_tree xs ys (good_laid_out xs good_xs) (good_laid_out ys good_ys) s))

  same_gone : (z : Inserted) → is_gone xs z ≡ is_gone ys z
  same_gone z = same_any (deletes z.id) (all_entries 0 (tree xs)) (all_entries 0 (tree ys)) (same_mapped entry_of (tree xs) (tree ys) same_notes)

  same_wants : (z : Inserted) → is_wanted xs undone z ≡ is_wanted ys undone z
  same_wants z =
      let by_others : Noted Id → Bool = λ n. not (is_among undone n.name) in
      ap (λ b. not (is_among undone z.id) && not b)
      (same_any (deletes z.id) (left_by_others undone (tree xs)) (left_by_others undone (tree ys)) (same_mapped entry_of (filter by_others (tree xs)) (filter by_others (tree ys)) (same_filtered by_others (tree xs) (tree ys) same_notes)))

  pub same_wanted : wanted xs undone ≡ wanted ys undone
  unfolding wanted
  same_wanted = filter_agree (is_wanted xs undone) (is_wanted ys undone) same_wants (chars_in_order xs) ∙ ap (filter (is_wanted ys undone)) same_chars

  same_change : (z : Inserted) → change_about xs undone z ≡ change_about ys undone z
  same_change z = λ i. change_of (index_among (same_wanted i) z) z.ch (same_gone z i) (same_wants z i)

  same_changes : (zs : List Inserted) → filter_map (change_about xs undone) zs ≡ filter_map (change_about ys undone) zs
  same_changes [] = refl
  same_changes (z ∷ zs) = λ i. cons_option (same_change z i) (same_changes zs i)

  pub same_ops : ops_of_undo xs undone ≡ ops_of_undo ys undone
  unfolding ops_of_undo
  same_ops = same_changes (chars_in_order xs) ∙ ap (filter_map (change_about ys undone)) same_chars

-- The law of equal sets.
pub equal_sets_undo_alike : EqualSetsUndoAlike
equal_sets_undo_alike xs ys undone good_xs good_ys s = (same_wanted xs ys undone good_xs good_ys s, same_ops xs ys undone good_xs good_ys s)
