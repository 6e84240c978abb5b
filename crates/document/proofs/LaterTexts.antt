-- What the operations of the later events of a good history do to the text of the first.
use Rattle.std.proofs.Common.{◌≡◌, ℕ, ◌≤◌, true, List, [], ◌++◌, length, take, drop, Option, None, option_map, sym, ap, subst, ◌∙◌, arith}
use Rattle.std.proofs.lemmas.List.{take-append-drop}
use Rattle.ew_model.specs.declared.event.Event.{Event}
use Rattle.ew_model.specs.declared.text_op.TextOp.{TextOp}
use Rattle.ew_model.specs.Cuts.{is_critical, latest_cut}
use Rattle.ew_model.specs.Operations.{changed_by_all, operations}
use Rattle.ew_model.specs.TextLaws.{AllFit}
use Rattle.ew_model.specs.Texts.{text_of}
use Rattle.ew_model.specs.Touches.{touches}
use Rattle.ew_model.specs.Verdicts.{IsGood, first_bad}
use Rattle.ew_model.specs.Walks.{base_at}
use Rattle.ew_model.proofs.CutLaws.{latest_at_most, latest_critical}
use Rattle.ew_model.proofs.FirstBadLaws.{good_has_no_bad}
use Rattle.ew_model.proofs.FitLaw.{operations_fit}
use Rattle.ew_model.proofs.GoodLaws.{operations_make_text}
use Rattle.transform.specs.Walking.{bad_at, judged_of, walked_of}
use Rattle.transform.proofs.Replays.{none_before}
use Rattle.transform.proofs.WholeWalks.{front_good}
use Rattle.rope.proofs.RunChanges.{change_both}
use Rattle.replica.proofs.LengthLaws.{operations_front}
use Rattle.replica.proofs.RoundTexts.{fit_behind}

-- THE CUT
-- The walk goes over the events that are held, and begins at this cut.
module _ (held graph : List Event) (count cut : ℕ) (same : graph ≡ held) (is : cut ≡ latest_cut graph count) where
  -- it is critical
  pub cut_critical : is_critical graph cut ≡ true
  cut_critical = ap (is_critical graph) is ∙ latest_critical graph count

  -- and isn't above the number
  pub cut_low : cut ≤ count
  cut_low = omega (arith, is, latest_at_most graph count)

  -- the events below are good
  pub cut_good : IsGood held → IsGood (take cut graph)
  cut_good good = subst (λ (es : List Event). IsGood (take cut es)) (sym same) (front_good held cut good)

  -- and the base is as long as their text
  pub cut_base : (base : ℕ) → base ≡ length (text_of (take cut held)) → base ≡ base_at graph cut
  cut_base base long = long ∙ ap (λ (es : List Event). length (text_of (take cut es))) (sym same)

  -- the touches are those behind the latest cut
  pub cut_touches : touches graph cut ≡ touches held (latest_cut held count)
  cut_touches = ap (touches graph) is ∙ ap (λ (es : List Event). touches es (latest_cut es count)) same

-- THE WALK
-- A walk over good events doesn't stop. So
module _ (held graph : List Event) (stopped : Option (ℕ × ℕ)) (same : graph ≡ held) (good : IsGood held) (told : option_map bad_at stopped ≡ first_bad graph) where
  none_stops : stopped ≡ None
  none_stops = none_before stopped (told ∙ ap first_bad same ∙ (good_has_no_bad held).0 good)

  -- it answers the operations of all later events,
  pub later_operations : (count : ℕ) (ops : List TextOp) → ops ≡ drop count (operations (walked_of graph stopped)) → ops ≡ drop count (operations held)
  later_operations count ops are =
      are
      ∙ ap (λ (o : Option (ℕ × ℕ)). drop count (operations (walked_of graph o))) none_stops
      ∙ ap (λ (es : List Event). drop count (operations es)) same

  -- and judges all.
  pub all_judged : (cut : ℕ) → touches (judged_of graph stopped) cut ≡ touches graph cut
  all_judged cut = ap (λ (o : Option (ℕ × ℕ)). touches (judged_of graph o) cut) none_stops

-- THE TEXT
module _ (history : List Event) (count : ℕ) (ops : List TextOp) (good : IsGood history) (are : ops ≡ drop count (operations history)) where
  abbrev first : List TextOp
  first = operations (take count history)

  parts : operations history ≡ first ++ ops
  parts = sym (take-append-drop count (operations history)) ∙ (λ i. sym (operations_front history count) i ++ sym are i)

  before : changed_by_all first [] ≡ text_of (take count history)
  before = sym (operations_make_text (take count history) (front_good history count good))

  -- Each of them fits where it is done,
  pub later_fit : AllFit (text_of (take count history)) ops
  later_fit =
      subst (λ (t : List ℕ). AllFit t ops) before
      (fit_behind first ops [] (subst (AllFit []) parts (operations_fit history good)))

  -- and they leave the text of all events.
  pub later_text : changed_by_all ops (text_of (take count history)) ≡ text_of history
  later_text =
      ap (changed_by_all ops) (sym before)
      ∙ sym (change_both first ops [])
      ∙ ap (λ (os : List TextOp). changed_by_all os []) (sym parts)
      ∙ sym (operations_make_text history good)
