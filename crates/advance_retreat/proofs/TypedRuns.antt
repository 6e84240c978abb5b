-- Insertions that come behind a run of insertions.
use Rattle.std.proofs.Common.{◌≡◌, ℕ, zero, suc, ◌+◌, ◌<◌, ◌^◌, List, [], ◌∷◌, ◌++◌, length, map, refl, sym, ap, ◌∙◌, subst, arith, append_assoc, append-nil}
use Rattle.std.specs.List.{range_with_len}
use Rattle.std.proofs.lemmas.List.{length-map, map-append}
use Rattle.std.proofs.lemmas.List.FromFn.{length-range_with_len}
use Rattle.ew_model.specs.declared.node.Node.{Node}
use Rattle.ew_model.specs.declared.node.Node.TheVariants.{Event}
use Rattle.ew_model.proofs.Ranges.{range_more}
use Rattle.advance_retreat.specs.declared.line.Way.{Way}
use Rattle.advance_retreat.specs.declared.line.Way.TheVariants.{Up}
use Rattle.advance_retreat.specs.declared.run.Run.{Run}
use Rattle.advance_retreat.specs.declared.target.Target.{Target}
use Rattle.advance_retreat.specs.Kept.{typed_target, typed_targets}
use Rattle.advance_retreat.specs.Runs.{node_from, events_in, HasNodes, AreRuns, GoesOn, IsTypedTo}
use Rattle.advance_retreat.proofs.RunChanges.{with_more, lengthened}

-- one more of them
pub typed_more : (position n : ℕ) → typed_targets position (suc n) ≡ typed_targets position n ++ typed_target position n ∷ []
typed_more position n =
    let same : 0 + n ≡ n = omega arith in
    ap (map (typed_target position)) (range_more 0 n) ∙ map-append (typed_target position) (range_with_len 0 n) ((0 + n) ∷ []) ∙ ap (λ (k : ℕ). typed_targets position n ++ typed_target position k ∷ []) same

pub typed_many : (position n : ℕ) → length (typed_targets position n) ≡ n
typed_many position n = length-map (range_with_len 0 n) (typed_target position) ∙ length-range_with_len 0 n

module _ (rs : List Run) (r : Run) (position count : ℕ) (are : AreRuns 0 (rs ++ r ∷ [])) (typed : IsTypedTo r position) (few : position + count < 2 ^ 32) where
  abbrev grown : ℕ → Run
  grown n = with_more r (r.more + n)

  goes_on : (n : ℕ) → n < count → GoesOn (grown n) (position + n + 1) (Event (position + n + 1))
  goes_on n lt =
      let last = typed.last in
      let here : position + n + 1 ≡ r.first + suc (r.more + n) = omega (arith, last) in
      record {
        next = omega (arith, last);
        character = record {
          node = ap Event here ∙ (λ i. node_from (sym typed.way i) (sym typed.node i) (suc (r.more + n)));
          nodes = subst (λ (w : Way). HasNodes w r.node (suc (r.more + n))) (sym typed.way) (subst (λ (v : Node). HasNodes Up v (suc (r.more + n))) (sym typed.node) (omega (arith, last, few, lt)));
        };
      }

  typed_to : (n : ℕ) → n < count + 1 → AreRuns 0 (rs ++ grown n ∷ []) × (events_in (rs ++ grown n ∷ []) ≡ events_in (rs ++ r ∷ []) ++ typed_targets position n)
  typed_to zero lt =
      let none : r.more ≡ r.more + 0 = omega arith in
      let same : r ≡ grown 0 = λ i. record { first = r.first; more = none i; node = r.node; way = r.way } in
      (subst (λ (x : Run). AreRuns 0 (rs ++ x ∷ [])) same are, ap (λ (x : Run). events_in (rs ++ x ∷ [])) (sym same) ∙ sym (append-nil (events_in (rs ++ r ∷ []))))
  typed_to (suc n) lt =
      let ih = typed_to n (omega (arith, lt)) in
      let more : r.more + suc n ≡ suc (r.more + n) = omega arith in
      let made = lengthened rs (grown n) (grown n) (position + n + 1) (r.more + suc n) (Event (position + n + 1)) ih.0 refl refl (omega (arith, few, lt)) (goes_on n (omega (arith, lt))) more in (
        made.0,
        made.1
            ∙ ap (λ (ts : List Target). ts ++ typed_target position n ∷ []) ih.1
            ∙ append_assoc (events_in (rs ++ r ∷ [])) (typed_targets position n) (typed_target position n ∷ [])
            ∙ ap (λ (ts : List Target). events_in (rs ++ r ∷ []) ++ ts) (sym (typed_more position n)),
      )

  pub typed_runs : AreRuns 0 (rs ++ grown count ∷ [])
  typed_runs = (typed_to count (omega arith)).0

  pub typed_events : events_in (rs ++ grown count ∷ []) ≡ events_in (rs ++ r ∷ []) ++ typed_targets position count
  typed_events = (typed_to count (omega arith)).1
