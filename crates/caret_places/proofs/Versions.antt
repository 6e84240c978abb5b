-- The text of a version, as that of its events.
use Rattle.std.proofs.Common.{◌≡◌, ◌⊎◌, inl, inr, ⊎_elim, ℕ, zero, suc, ◌+◌, ◌<◌, ◌≤◌, true, List, [], ◌∷◌, length, Some, None, option_map, slice_get, refl, sym, ap, ◌∙◌, subst, arith}
use Rattle.std.proofs.lemmas.Option.{slice_get_past}
use Rattle.ew_model.specs.declared.id.Id.{Id}
use Rattle.ew_model.specs.declared.event.Event.{Event}
use Rattle.ew_model.specs.Sets.{Among}
use Rattle.ew_model.specs.Ids.{id_eq, is_among}
use Rattle.ew_model.specs.Ancestors.{ancestors, ids_of, version_events}
use Rattle.ew_model.specs.Entries.{Inserted, visible}
use Rattle.ew_model.specs.Texts.{visible_at}
use Rattle.ew_model.specs.Tree.{entries_over, tree, tree_on}
use Rattle.ew_model.specs.Verdicts.{IsGood}
use Rattle.ew_model.proofs.AgentLaws.{within_ids}
use Rattle.ew_model.proofs.EntryLaws.{points_back}
use Rattle.ew_model.proofs.EqualSets.{version_apart}
use Rattle.ew_model.proofs.GoodLaws.{good_laid_out}
use Rattle.ew_model.proofs.ListTests.{any_from}
use Rattle.ew_model.proofs.LocalEdit.{KnowsAll, all_known}
use Rattle.ew_model.proofs.PlaceLaws.{same_visible}
use Rattle.ew_model.proofs.SetLaws.{map_among}
use Rattle.ew_model.proofs.SortingLaws.{all_from}
use Rattle.ew_model.proofs.SubgraphLaws.{part_entries, part_over, taken_within, version_closed, version_is_part}
use Rattle.ew_model.proofs.TextLaws.{ids_equal}
use Rattle.ew_model.proofs.TreeLaws.{entry_after}
use Rattle.transform.specs.Placing.{AreAt}
use Rattle.transform.specs.Places.{shown_ids}
use Rattle.transform.proofs.TextOrder.{as_many, place_at}
use Rattle.carets.specs.declared.caret.Caret.TheVariants.{Behind}
use Rattle.carets.specs.Sides.{text_chars, caret_in}

-- A VERSION
-- its characters are those of its events as a history
same_chars : (history : List Event) (version : List Id) → IsGood history → text_chars (version_events history version) ≡ visible_at history version
unfolding visible_at tree
same_chars history version good =
    let h = good_laid_out history good in
    let part = version_events history version in
    let p = version_is_part history version h in
    let entries : (f : Event) → Among f part → entry_after 0 history f ≡ entry_after 0 part f = part_entries part history [] part p (version_closed history version h) refl p.laid (λ f m. absurd m) in
    let same = part_over part history version p (λ f m. m) (λ f m a. entries f m) in
    let all : KnowsAll part (ancestors part version) = all_from (λ f. is_among (ancestors part version) f.id ≡ true) part (λ f m.
    any_from (id_eq f.id) (ancestors part version) f.id (map_among (λ (x : Event). x.id) (version_events part version) f (taken_within history part version (points_back [] part p.laid) (λ g k. k) f m)) (ids_equal.refl f.id)) in
    sym (
    sym (same_visible (entries_over id_eq 0 (tree_on 0 part) (ancestors part version)) (entries_over id_eq 0 (tree_on 0 history) (ancestors history version))
    (version_apart part (ancestors part version) p.laid) (version_apart history (ancestors history version) h) same)
    ∙ ap visible (all_known part (ancestors part version) p.laid all)
    )

pub part_chars : (history part : List Event) (version : List Id) → IsGood history → part ≡ version_events history version → text_chars part ≡ visible_at history version
part_chars history part version good is = ap text_chars is ∙ same_chars history version good

-- A CARET
module _ (history : List Event) (text : List ℕ) (are : AreAt history text (shown_ids history)) where
  pub text_long : length text ≡ length (text_chars history)
  text_long = as_many (ids_of history) (text_chars history) text are

  pub within_text : (before p : ℕ) → slice_get text before ≡ Some p → p < length history
  within_text before p at = let z = place_at (ids_of history) (text_chars history) text before p are at in within_ids history p z.0.id z.2

  pub behind_char : (before p : ℕ) (x : Id) → slice_get text before ≡ Some p → slice_get (ids_of history) p ≡ Some x → Some (Behind x) ≡ caret_in (text_chars history) (before + 1)
  behind_char before p x at id =
      let z = place_at (ids_of history) (text_chars history) text before p are at in
      let next : suc before ≡ before + 1 = omega arith in
      let own : Some x ≡ Some z.0.id = sym id ∙ z.2 in
      ap (option_map (λ (i : Id). Behind i)) own
      ∙ ap (option_map (λ (w : Inserted). Behind w.id)) (sym z.1)
      ∙ ap (caret_in (text_chars history)) next

  pub behind_none : (before : ℕ) → length text ≤ before → None ≡ caret_in (text_chars history) (before + 1)
  behind_none before past =
      let next : suc before ≡ before + 1 = omega arith in
      ap (option_map (λ (w : Inserted). Behind w.id)) (sym (slice_get_past (text_chars history) before (omega (arith, past, text_long))))
      ∙ ap (caret_in (text_chars history)) next

-- where there is no caret, the index is past the end
pub no_caret : (chars : List Inserted) (at : ℕ) → None ≡ caret_in chars at → length chars < at
no_caret chars zero none = let no : ⊥ = cc in absurd no
no_caret chars (suc i) none = by (element chars i)
  where
    element : (zs : List Inserted) (i : ℕ) → ((z : Inserted) × (slice_get zs i ≡ Some z)) ⊎ (length zs ≤ i)
    element [] i = inr (omega arith)
    element (z ∷ zs) zero = inl (z, refl)
    element (z ∷ zs) (suc i) = ⊎_elim (λ found. inl found) (λ past. inr (omega (arith, past))) (element zs i)

    by : ((z : Inserted) × (slice_get chars i ≡ Some z)) ⊎ (length chars ≤ i) → length chars < suc i
    by found = ⊎_elim
        (λ found. let caret : None ≡ Some (Behind found.0.id) = none ∙ ap (option_map (λ (w : Inserted). Behind w.id)) found.1 in let no : ⊥ = cc in absurd no)
        (λ past. omega (arith, past)) found
