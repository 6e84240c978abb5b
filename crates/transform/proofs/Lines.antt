-- An event at a critical cut, which knows all events before it, does to the text what it says.
use Rattle.std.proofs.Common.{◌≡◌, ℕ, ◌+◌, ◌<◌, ◌≤◌, true, false, ◌||◌, List, [], ◌∷◌, ◌++◌, length, map, take, drop, Some, refl, sym, ap, ◌∙◌, subst, arith}
use Rattle.std.specs.Prelude.{slice_get}
use Rattle.std.proofs.lemmas.Bool.{ltb-false, leb-false}
use Rattle.std.proofs.lemmas.List.{drop_all, length-take, length-take-le}
use Rattle.std.proofs.lemmas.List.Edits.{length-insert, length-remove}
use Rattle.std.proofs.lemmas.List.Folds.{list_any-append}
use Rattle.ew_model.specs.declared.id.Id.{Id}
use Rattle.ew_model.specs.declared.event.Op.{Op}
use Rattle.ew_model.specs.declared.event.Op.TheVariants as op
use Rattle.ew_model.specs.declared.event.Event.{Event}
use Rattle.ew_model.specs.Ids.{id_eq, is_among}
use Rattle.ew_model.specs.Ancestors.{is_held, ancestors}
use Rattle.ew_model.specs.Cuts.{is_critical}
use Rattle.ew_model.specs.Entries.{Inserted, Entry, visible}
use Rattle.ew_model.specs.Operations.{next_operation, operations, changed_by}
use Rattle.ew_model.specs.Texts.{text_at, text_of, visible_at}
use Rattle.ew_model.specs.TextLaws.{own_change}
use Rattle.ew_model.specs.Touches.{touches}
use Rattle.ew_model.specs.TouchLaws.{prepared_from}
use Rattle.ew_model.specs.Tree.{applied, tree, tree_on}
use Rattle.ew_model.specs.Verdicts.{IsGood, is_outside}
use Rattle.ew_model.specs.Walks.{base_at, positions_among, walked_after}
use Rattle.ew_model.proofs.EntryLaws.{LaidOut, ancestors_held}
use Rattle.ew_model.proofs.KeptLaws.{held_joined}
use Rattle.ew_model.proofs.ListTests.{same_truth}
use Rattle.ew_model.proofs.LocalEdit.{IsInRange, KnowsAll, all_known, local_operation, same_index}
use Rattle.ew_model.proofs.OperationLaws.{text_of-push}
use Rattle.ew_model.proofs.TextLengths.{text_is_short}
use Rattle.advance_retreat.specs.Kept.{Kept}
use Rattle.advance_retreat.specs.Standing.{StandsFor}
use Rattle.event_graph.specs.Keeping.{IsAdmitted}
use Rattle.event_graph.proofs.Admitted.{admitted_at}
use Rattle.transform.specs.Changing.{length_by}
use Rattle.transform.specs.Reaching.{InLine, IsBehind, IsReadyAt}
use Rattle.transform.proofs.AtPlaces.{critical_next, laid_front, laid_next, new_there}
use Rattle.transform.proofs.Counting.{all_held, touched_once}
use Rattle.transform.proofs.CutFronts.{knows_front}
use Rattle.transform.proofs.Fronts.{prepared_next}
use Rattle.transform.proofs.Judging.{good_more, in_range}
use Rattle.transform.proofs.Sides.{length_front, take_next}
use Rattle.transform.proofs.Steps.{operations_next}

-- WHAT AN OPERATION IN RANGE DOES
own_index : (len : ℕ) (o : Op) → is_outside len o ≡ false → IsInRange len o × (same_index o ≡ own_change o)
own_index len (op.Ins at ch) h = (ltb-false len at h, refl)
own_index len (op.Del at) h = (let k = leb-false len at h in omega (arith, k), refl)
own_index len (op.Mark label) h = (tt, refl)

length_changed : (o : Op) (text : List ℕ) → is_outside (length text) o ≡ false → length (changed_by (own_change o) text) ≡ length_by o (length text)
length_changed (op.Ins at ch) text h = length-insert text at ch (ltb-false (length text) at h)
length_changed (op.Del at) text h = omega (arith, length-remove text at (leb-false (length text) at h))
length_changed (op.Mark label) text h = refl

-- where an event knows all, the text at its parents is the whole
known_text : (front : List Event) (e : Event) → LaidOut [] front → KnowsAll front (ancestors front e.parents) → text_at front e.parents ≡ text_of front
unfolding text_at text_of visible_at tree
known_text front e laid knows = ap (λ (es : List Entry). map (λ (x : Inserted). x.ch) (visible es)) (all_known front (ancestors front e.parents) laid knows)

module _ (history : List Event) (n : ℕ) (e : Event) (admitted : IsAdmitted history) (at : slice_get history n ≡ Some e) (critical : is_critical history n ≡ true) where
  abbrev pub front : List Event
  front = take n history

  long : length front ≡ n
  long = length_front history n e at

  next : take (n + 1) history ≡ front ++ e ∷ []
  next = take_next history n e at

  pub knows : KnowsAll front (ancestors front e.parents)
  knows = knows_front front e (laid_next history admitted n e at) (ap (is_critical (front ++ e ∷ [])) long ∙ critical_next history admitted n e at n (omega arith) critical)

  pub whole_text : text_at front e.parents ≡ text_of front
  whole_text = known_text front e (laid_front history admitted n) knows

  pub good_next : IsGood front → is_outside (base_at history n) e.op ≡ false → IsGood (take (n + 1) history)
  good_next good within =
      subst IsGood (sym next) (good_more front e good (in_range front e (base_at history n) (admitted_at history n e admitted at) (ap (length {A = ℕ}) (sym whole_text)) within))

  own : is_outside (base_at history n) e.op ≡ false → next_operation id_eq 0 (tree_on 0 front) (applied front e) ≡ own_change e.op
  own within = let o = own_index (base_at history n) e.op within in local_operation front e (laid_front history admitted n) knows o.0 ∙ o.1

  -- its operation is its own index
  pub own_operation : is_outside (base_at history n) e.op ≡ false → operations (take (n + 1) history) ≡ operations front ++ own_change e.op ∷ []
  own_operation within = ap operations next ∙ operations_next front e ∙ ap (λ o. operations front ++ o ∷ []) (own within)

  pub own_length : is_outside (base_at history n) e.op ≡ false → base_at history (n + 1) ≡ length_by e.op (base_at history n)
  own_length within =
      ap (λ (es : List Event). length (text_of es)) next
      ∙ ap (length {A = ℕ}) (text_of-push front e (laid_next history admitted n e at))
      ∙ ap (λ o. length (changed_by o (text_of front))) (own within)
      ∙ length_changed e.op (text_of front) within

  -- and it is touched once
  pub touched_alone : (from : ℕ) → from ≤ n → ((x : Id) → is_among (prepared_from front from) x ≡ is_held front x) → touches (take (n + 1) history) from ≡ touches front from + 1
  touched_alone from low prepared = ap (λ (es : List Event). touches es from) next ∙ touched_once front from e (omega (arith, low, long)) prepared knows

  all_known_ids : (x : Id) → is_among (ancestors front e.parents) x ≡ is_held front x
  all_known_ids x = same_truth (is_among (ancestors front e.parents) x) (is_held front x) (ancestors_held front e.parents x) (all_held front (ancestors front e.parents) knows x)

  -- all events up to it are prepared behind it
  pub prepared_all : (from : ℕ) → from ≤ n → (x : Id) → is_among (prepared_from (take (n + 1) history) from) x ≡ is_held (take (n + 1) history) x
  prepared_all from low x =
      ap (λ ids. is_among ids x) (ap (λ (es : List Event). prepared_from es from) next ∙ prepared_next front from e (omega (arith, low, long)) (new_there history admitted n e at))
      ∙ list_any-append (id_eq x) (ancestors front e.parents) (e.id ∷ [])
      ∙ ap (λ b. b || is_among (e.id ∷ []) x) (all_known_ids x)
      ∙ sym (held_joined front (e ∷ []) x)
      ∙ ap (λ (es : List Event). is_held es x) (sym next)

  -- A walk that came to a critical cut goes on in line where the next place is one too.
  pub goes_in_line : (from len after : ℕ) (state : Kept) → from ≤ n → IsGood front → len ≡ base_at history n → is_outside len e.op ≡ false → after ≡ length_by e.op len → n + 1 < length history → is_critical history (n + 1) ≡ true
      → InLine history from (n + 1) after state × (operations (take (n + 1) history) ≡ operations front ++ own_change e.op ∷ [])
  goes_in_line from len after state low good is within then more critical_more =
      let fits : is_outside (base_at history n) e.op ≡ false = ap (λ m. is_outside m e.op) (sym is) ∙ within in (
        record {
          behind = record { low = omega arith; critical = critical_more; good = good_next good fits };
          long = then ∙ ap (length_by e.op) is ∙ sym (own_length fits);
          prepared = prepared_all from low;
          begins = λ same. let no : ⊥ = omega (arith, same, low) in absurd no;
          goes_on = λ behind. more;
        },
        own_operation fits,
      )

-- the text before a place is no longer than the place says
pub base_low : (history : List Event) (n : ℕ) → IsGood (take n history) → base_at history n ≤ n
base_low history n good = omega (arith, text_is_short (take n history) good, length-take n history)

-- A fresh state is ready at a critical cut.
pub fresh : (history : List Event) (n len : ℕ) (state : Kept) → n ≤ length history → IsBehind history n n → len ≡ base_at history n → StandsFor state len [] [] → IsReadyAt history n n state
fresh history n len state within behind is stands =
    let front = take n history in
    let none : drop n front ≡ [] = drop_all n front (omega (arith, length-take-le n history within)) in
    record {
      behind = behind;
      stands = λ e at.
          subst (λ (es : List Event). StandsFor state (base_at history n) (walked_after n (take n front) [] es) (positions_among (ancestors front e.parents) n es)) (sym none)
          (subst (λ b. StandsFor state b [] []) is stands);
    }
