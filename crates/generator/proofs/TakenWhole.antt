-- A good history that is received where nothing waits, and where there is room for each event that isn't held, is taken whole.
use Rattle.std.proofs.Common.{◌≡◌, ℕ, zero, suc, ◌*◌, ◌<◌, ◌≤◌, nat_le, Bool, true, false, ◌⊎◌, inl, inr, ⊎_elim, List, [], ◌∷◌, ◌++◌, length, Option, Some, None, refl, sym, ap, ◌∙◌, subst, arith, append-nil}
use Rattle.std.specs.List.{list_any}
use Rattle.std.specs.Bool.{then_some}
use Rattle.std.proofs.lemmas.Bool.{false≢true, cases_Bool}
use Rattle.std.proofs.lemmas.Bool.Decides.{nat_tests}
use Rattle.ew_model.specs.declared.event.Event.{Event}
use Rattle.ew_model.specs.Ancestors.{is_held}
use Rattle.ew_model.specs.Arrival.{Desk, arrive, desk_of, judgement_of, judgements, most_judgements, next_judgement}
use Rattle.ew_model.specs.Events.{event_eq}
use Rattle.ew_model.specs.Ids.{id_eq}
use Rattle.ew_model.specs.Kept.{IsOrderly}
use Rattle.ew_model.specs.Limits.{LimitNumbers}
use Rattle.ew_model.specs.Sets.{Among}
use Rattle.ew_model.specs.Verdicts.{Ruling, IsGood, IsGoodAfter, first_row, id_rows, later_rows, parent_rows, range_rows, size_rows}
use Rattle.ew_model.specs.Verdicts.Ruling.{Repeat, Good, GraphFull}
use Rattle.ew_model.proofs.ArrivalRuns.{no_id}
use Rattle.ew_model.proofs.CoverLaws.{event_of, ids_alike}
use Rattle.ew_model.proofs.KeptLaws.{good-push, kept_next, no_repeat}
use Rattle.ew_model.proofs.ListTests.{any_from}
use Rattle.ew_model.proofs.MergeSteps.{IsTakenIn, first_judged, none_judged, nothing_taken, one_taken, repeat_row, same_event}
use Rattle.ew_model.proofs.RoundLaws.{then}
use Rattle.ew_model.proofs.RulingLaws.{IsRight, next_right, stays}
use Rattle.ew_model.proofs.SetLaws.{among_joined, joined_left, joined_right}
use Rattle.history_laws.proofs.FirstRows.{not_full, row_off}

module _ (limits : LimitNumbers) (U : Event → Type 0) (one : (f g : Event) → U f → U g → id_eq f.id g.id ≡ true → f ≡ g)
    (room : (held : List Event) (x : Event) → IsGood held → ((z : Event) → Among z held → U z) → U x → is_held held x.id ≡ false → length held < limits.events) where
  -- the event is a repeat, or good
  two_ways : (held before : List Event) (x : Event) → IsGood held → ((z : Event) → Among z held → U z) → U x → IsGood before → ((z : Event) → Among z before → Among z held)
      → IsGoodAfter before (x ∷ []) → ((first_row (id_rows held [] x ++ later_rows limits true held x) ≡ Repeat) × Among x held)
      ⊎ (first_row (id_rows held [] x ++ later_rows limits true held x) ≡ Good)
  unfolding id_rows size_rows parent_rows range_rows
  two_ways held before x good in_held u good_before sub after = ⊎_elim again new (cases_Bool (is_held (held ++ []) x.id))
    where
      right : IsRight before x
      right = next_right before x after.0

      again : is_held (held ++ []) x.id ≡ true → ((first_row (id_rows held [] x ++ later_rows limits true held x) ≡ Repeat) × Among x held)
          ⊎ (first_row (id_rows held [] x ++ later_rows limits true held x) ≡ Good)
      again there =
          let g = event_of (held ++ []) x.id there in
          let old : Among g.0 held = subst (Among g.0) (append-nil held) g.1 in
          let it : g.0 ≡ x = one g.0 x (in_held g.0 old) u (ids_alike.symm g.0.id x.id ∙ g.2) in
          let here : Among x (held ++ []) = subst (λ z. Among z (held ++ [])) it g.1 in
          inl (repeat_row _ _ (later_rows limits true held x) (any_from (event_eq x) (held ++ []) x here (same_event x)), subst (λ z. Among z held) it old)

      new : is_held (held ++ []) x.id ≡ false → ((first_row (id_rows held [] x ++ later_rows limits true held x) ≡ Repeat) × Among x held)
          ⊎ (first_row (id_rows held [] x ++ later_rows limits true held x) ≡ Good)
      new free =
          let fresh : is_held held x.id ≡ false = ap (λ (l : List Event). is_held l x.id) (sym (append-nil held)) ∙ free in
          inr
          (no_id (list_any (event_eq x) (held ++ [])) (is_held (held ++ []) x.id) (later_rows limits true held x) (no_repeat (held ++ []) x free) free
          ∙ row_off (parent_rows held x) (nat_le limits.events (length held)) GraphFull (range_rows held x) (not_full limits.events (length held) (room held x good in_held u fresh))
          ∙ sym (stays before held x good_before good sub right.ready) ∙ right.good)

  merge_all : (n : ℕ) (held before later : List Event) (s : Bool) → 2 * length later ≤ n → IsGood held → IsGood before → IsGoodAfter before later
      → ((z : Event) → Among z before → Among z held) → ((z : Event) → Among z held → U z) → ((z : Event) → Among z later → U z)
      → IsTakenIn U held later (judgements limits true n (record { held = held; waiting = []; coming = later; is_settling = s }))
  unfolding IsGood
  merge_all zero held before [] s h good good_before after sub in_held in_later = nothing_taken U held s in_held
  merge_all zero held before (x ∷ later) s h good good_before after sub in_held in_later = absurd (omega (arith, h))
  merge_all (suc n) held before [] s h good good_before after sub in_held in_later =
      subst (IsTakenIn U held []) (sym (ap (then limits true n (record { held = held; waiting = []; coming = []; is_settling = s })) (none_judged limits held s))) (nothing_taken U held s in_held)
  merge_all (suc n) held before (x ∷ later) s h good good_before after sub in_held in_later =
      subst (IsTakenIn U held (x ∷ later)) (sym steps) (⊎_elim
      (λ repeat. again repeat
      (merge_all n held (before ++ x ∷ []) later true (omega (arith, h)) good good_on after.1 (goes_on held (λ z m. m) repeat.1) in_held (λ z m. in_later z (inr m))))
      (λ fine. new fine
      (merge_all n (held ++ x ∷ []) (before ++ x ∷ []) later true (omega (arith, h)) (next_good fine) good_on after.1 (goes_on (held ++ x ∷ []) wider here)
      (λ z m. ⊎_elim (λ k. in_held z k) (λ k. ⊎_elim (λ q. subst U (sym q) (in_later x (inl refl))) (λ no. absurd no) k) (among_joined held (x ∷ []) z m))
      (λ z m. in_later z (inr m))))
      (two_ways held before x good in_held (in_later x (inl refl)) good_before sub (after.0, tt)))
    where
      d : Desk
      d = record { held = held; waiting = []; coming = x ∷ later; is_settling = s }

      rest : Desk
      rest = record { held = held; waiting = []; coming = later; is_settling = true }

      first : Ruling
      first = first_row (id_rows held [] x ++ later_rows limits true held x)

      judged_so : next_judgement limits true d ≡ Some (judgement_of limits rest x first)
      judged_so = first_judged limits held x later s

      steps : judgements limits true (suc n) d ≡ then limits true n d (Some (judgement_of limits rest x first))
      steps = ap (then limits true n d) judged_so

      good_on : IsGood (before ++ x ∷ [])
      good_on = good-push [] before x good_before after.0

      goes_on : (more : List Event) → ((z : Event) → Among z held → Among z more) → Among x more → (z : Event) → Among z (before ++ x ∷ []) → Among z more
      goes_on more m here z k =
          ⊎_elim (λ j. m z (sub z j)) (λ j. ⊎_elim (λ q. subst (λ w. Among w more) (sym q) here) (λ no. absurd no) j) (among_joined before (x ∷ []) z k)

      wider : (z : Event) → Among z held → Among z (held ++ x ∷ [])
      wider z m = joined_left held (x ∷ []) z m

      here : Among x (held ++ x ∷ [])
      here = joined_right held (x ∷ []) x (inl refl)

      next_good : first ≡ Good → IsGood (held ++ x ∷ [])
      next_good fine =
          let all = subst (λ (r : Ruling). next_judgement limits true d ≡ Some (judgement_of limits rest x r)) fine judged_so in
          let kept : IsOrderly held [] = record { good = good; fresh = tt; apart = tt } in
          (kept_next limits d (judgement_of limits rest x Good) kept all).good

      again : (first ≡ Repeat) × Among x held → IsTakenIn U held later (judgements limits true n rest) → IsTakenIn U held (x ∷ later) (then limits true n d (Some (judgement_of limits rest x first)))
      again repeat taken =
          subst (λ (r : Ruling). IsTakenIn U held (x ∷ later) (then limits true n d (Some (judgement_of limits rest x r)))) (sym repeat.0)
          (one_taken U held held x later Repeat (judgements limits true n rest) refl (λ z m. m) repeat.1 taken)

      new : first ≡ Good → IsTakenIn U (held ++ x ∷ []) later (judgements limits true n (record { held = held ++ x ∷ []; waiting = []; coming = later; is_settling = true }))
          → IsTakenIn U held (x ∷ later) (then limits true n d (Some (judgement_of limits rest x first)))
      new fine taken =
          subst (λ (r : Ruling). IsTakenIn U held (x ∷ later) (then limits true n d (Some (judgement_of limits rest x r)))) (sym fine)
          (one_taken U held (held ++ x ∷ []) x later Good (judgements limits true n (record { held = held ++ x ∷ []; waiting = []; coming = later; is_settling = true })) refl wider here taken)

  -- the whole history is taken
  pub taken_whole : (held events : List Event) → IsGood held → IsGood events → ((z : Event) → Among z held → U z) → ((z : Event) → Among z events → U z)
      → IsTakenIn U held events (arrive limits held [] events)
  unfolding arrive IsGood
  taken_whole held events good good_events in_held in_events =
      merge_all (most_judgements (desk_of held [] events)) held [] events false (omega arith) good tt good_events (λ z no. absurd no) in_held in_events
