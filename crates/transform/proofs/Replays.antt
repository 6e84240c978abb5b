-- A walk over good events goes over all of them.
use Rattle.std.proofs.Common.{◌≡◌, ℕ, List, Option, Some, None, drop, option_map, refl, ap, ◌∙◌}
use Rattle.ew_model.specs.declared.event.Event.{Event}
use Rattle.ew_model.specs.declared.text_op.TextOp.{TextOp}
use Rattle.ew_model.specs.Operations.{operations}
use Rattle.ew_model.specs.Touches.{touches}
use Rattle.ew_model.specs.Verdicts.{IsGood, first_bad}
use Rattle.ew_model.proofs.FirstBadLaws.{good_has_no_bad}
use Rattle.transform.specs.Walking.{bad_at, walked_of, judged_of}

-- a walk that stops has a verdict
pub none_before : (stopped : Option (ℕ × ℕ)) → option_map bad_at stopped ≡ None → stopped ≡ None
none_before None h = refl
none_before (Some stop) h = let no : ⊥ = cc in absurd no

module _ (history : List Event) (stopped : Option (ℕ × ℕ)) (good : IsGood history) (told : option_map bad_at stopped ≡ first_bad history) where
  -- it doesn't stop
  none_stops : stopped ≡ None
  none_stops = none_before stopped (told ∙ (good_has_no_bad history).0 good)

  -- it answers all operations
  pub all_operations : (ops : List TextOp) → ops ≡ drop 0 (operations (walked_of history stopped)) → ops ≡ operations history
  all_operations ops are = are ∙ ap (λ (o : Option (ℕ × ℕ)). operations (walked_of history o)) none_stops

  -- and takes all steps
  pub all_touches : touches (judged_of history stopped) 0 ≡ touches history 0
  all_touches = ap (λ (o : Option (ℕ × ℕ)). touches (judged_of history o) 0) none_stops
