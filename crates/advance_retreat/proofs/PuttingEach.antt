-- New nodes that came one after another, each right behind the one before.
use Rattle.std.proofs.Common.{◌≡◌, ℕ, zero, suc, ◌+◌, ◌<◌, ◌≤◌, List, [], ◌∷◌, ◌++◌, sym, ap, ◌∙◌, subst, arith, append_assoc, append-nil}
use Rattle.ew_model.specs.declared.id.Id.{Id}
use Rattle.ew_model.specs.declared.node.Node.TheVariants.{Event}
use Rattle.walker_record.specs.Stretches.{Stretch}
use Rattle.fugue_place.specs.declared.child.Side.TheVariants.{Right as right}
use Rattle.fugue_place.specs.declared.child.Attached.{Attached}
use Rattle.fugue_place.specs.declared.neighbour.Place.TheVariants.{After}
use Rattle.fugue_place.specs.Attachments.{AreAttached}
use Rattle.fugue_place.specs.Heirs.{id_on, heir_on, heirs_on, AreNew}
use Rattle.fugue_place.specs.Neighbours.{IsPlaceOfNew}
use Rattle.fugue_place.proofs.HeirRuns.{heirs_more}
use Rattle.fugue_place.proofs.HeirStates.{next_place}
use Rattle.character_runs.specs.Spots.{ComeEach}
use Rattle.advance_retreat.specs.declared.target.Target.{Target}
use Rattle.advance_retreat.specs.Hanging.{IsNewest, PutEach}
use Rattle.advance_retreat.specs.Kept.{Kept, typed_target, typed_targets}
use Rattle.advance_retreat.proofs.TypedRuns.{typed_more}

module _ (s : Kept) (x : Id) (position count : ℕ) (sound : AreAttached [] s.attached) (newest : IsNewest s.attached position x) (new : AreNew s.attached position count) where
  -- what is kept once so many came, with these records
  abbrev pub kept_on : List Stretch → ℕ → Kept
  kept_on records k = record { base = s.base; records = records; attached = s.attached ++ heirs_on x position k; targets = s.targets ++ typed_targets position k; lost = s.lost }

  place_on : (k : ℕ) → k < count → IsPlaceOfNew (s.attached ++ heirs_on x position k) (Event (position + k)) right (id_on x (k + 1)) (After (Event (position + k)))
  place_on k lt =
      subst (λ (y : Id). IsPlaceOfNew (s.attached ++ heirs_on y position k) (Event (position + k)) right (id_on y (k + 1)) (After (Event (position + k)))) newest.3
      (next_place s.attached newest.0 newest.1 position newest.2 sound count new k lt)

  attached_on : (k : ℕ) → s.attached ++ heirs_on x position (suc k) ≡ (s.attached ++ heirs_on x position k) ++ heir_on x position k ∷ []
  attached_on k = ap (λ (xs : List Attached). s.attached ++ xs) (heirs_more x position k) ∙ sym (append_assoc s.attached (heirs_on x position k) (heir_on x position k ∷ []))

  targets_on : (k : ℕ) → s.targets ++ typed_targets position (suc k) ≡ (s.targets ++ typed_targets position k) ++ typed_target position k ∷ []
  targets_on k = ap (λ (ts : List Target). s.targets ++ ts) (typed_more position k) ∙ sym (append_assoc s.targets (typed_targets position k) (typed_target position k ∷ []))

  pub puts_each : (k seen n : ℕ) (records : List Stretch) → k ≤ count → ComeEach s.records records position seen k n → PutEach s (kept_on records k) x position seen k n
  puts_each zero seen n records le come = λ i. record { base = s.base; records = come i; attached = append-nil s.attached i; targets = append-nil s.targets i; lost = s.lost }
  puts_each (suc k) seen n records le come = (
    kept_on come.0 k,
    puts_each k seen n come.0 (omega arith) come.1,
    (
      record {
        place = After (Event (position + k));
        index = come.2.0.index;
        right = place_on k (omega arith);
        here = come.2.0.here;
        within = come.2.0.within;
        before = come.2.0.before;
        after = λ i. record { base = s.base; records = come.2.0.after i; attached = attached_on k i; targets = targets_on k i; lost = s.lost };
      },
      come.2.1,
    ),
  )
