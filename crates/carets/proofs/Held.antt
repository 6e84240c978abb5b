-- The characters of a history that another holds are the other's too.
use Rattle.std.proofs.Common.{◌≡◌, true, List, [], refl, sym, ◌∙◌, subst}
use Rattle.ew_model.specs.declared.event.Event.{Event}
use Rattle.ew_model.specs.declared.id.Id.{Id}
use Rattle.ew_model.specs.Sets.{Among}
use Rattle.ew_model.specs.Ids.{id_eq, is_among}
use Rattle.ew_model.specs.Ancestors.{is_held, version_events}
use Rattle.ew_model.specs.Entries.{Inserted, Entry}
use Rattle.ew_model.specs.Entries.Entry.{Insertion}
use Rattle.ew_model.specs.Tree.{Noted, all_entries, tree}
use Rattle.ew_model.specs.Verdicts.{IsGood}
use Rattle.ew_model.proofs.CoverLaws.{event_of, equal_through}
use Rattle.ew_model.proofs.EqualSets.{note_of_tree, tree_of_note}
use Rattle.ew_model.proofs.GoodLaws.{good_laid_out}
use Rattle.ew_model.proofs.PlaceLaws.{among_insertions, insertion_among}
use Rattle.ew_model.proofs.RulingLaws.{good_parents}
use Rattle.ew_model.proofs.RunLaws.{id_itself}
use Rattle.ew_model.proofs.SetLaws.{among_map, map_among}
use Rattle.ew_model.proofs.SubgraphLaws.{IsPart, closed_taken, one_event, part_entries}
use Rattle.ew_model.proofs.TreeLaws.{entry_after}
use Rattle.carets.specs.SideLaws.{IsHeldBy}
use Rattle.carets.specs.Sides.{all_chars}

-- a character of a history is that of a note, and back
pub note_of : (history : List Event) (z : Inserted) → Among z (all_chars history) → (n : Noted Id) × Among n (tree history) × (n.entry ≡ Insertion z)
note_of history z m =
    let n = among_map (λ (k : Noted Id). k.entry) (tree history) (Insertion z) (among_insertions (all_entries 0 (tree history)) z m) in
    (n.0, n.1, sym n.2)

pub char_of_note : (history : List Event) (z : Inserted) (n : Noted Id) → Among n (tree history) → n.entry ≡ Insertion z → Among z (all_chars history)
char_of_note history z n m e =
    insertion_among (all_entries 0 (tree history)) z (subst (λ (w : Entry). Among w (all_entries 0 (tree history))) e (map_among (λ (k : Noted Id). k.entry) (tree history) n m))

module _ (xs ys : List Event) (good_xs : IsGood xs) (good_ys : IsGood ys) (held : IsHeldBy xs ys) where
  pub part : IsPart xs ys
  part = record { laid = good_laid_out xs good_xs; whole = good_laid_out ys good_ys; there = held }

  -- an event of the whole under an id that the part holds is one of the part
  one_of_part : (f : Event) (x : Id) → Among f ys → id_eq f.id x ≡ true → is_held xs x ≡ true → Among f xs
  one_of_part f x m same h =
      let g = event_of xs x h in
      subst (λ (e : Event). Among e xs) (sym (one_event [] ys f g.0 part.whole m (held g.0 g.1) (equal_through f.id x g.0.id same g.2))) g.1

  parent_held : (e f : Event) → Among e xs → Among f ys → is_among e.parents f.id ≡ true → Among f xs
  parent_held e f me mf parent = one_of_part f f.id mf (id_itself f.id) (good_parents xs good_xs e me f.id parent)

  closed : (e f : Event) → Among e xs → Among f (version_events ys e.parents) → Among f xs
  closed e f me mf = closed_taken (λ g. Among g xs) ys e.parents (λ g m parent. parent_held e g me m parent) (λ g h mg m parent. parent_held g h mg m parent) f mf

  pub same_entry : (f : Event) → Among f xs → entry_after 0 ys f ≡ entry_after 0 xs f
  same_entry = part_entries xs ys [] xs part closed refl part.laid (λ f m. absurd m)

  notes_held : (n : Noted Id) → Among n (tree xs) → Among n (tree ys)
  unfolding tree
  notes_held n m =
      let from = note_of_tree xs n part.laid m in
      tree_of_note ys n from.0 part.whole (held from.0 from.1) from.2 (same_entry from.0 from.1 ∙ from.3)

  -- a character is at its path in both
  pub chars_held : (z : Inserted) → Among z (all_chars xs) → Among z (all_chars ys)
  chars_held z m = let n = note_of xs z m in char_of_note ys z n.0 (notes_held n.0 n.1) n.2
