-- A good history that is received where nothing waits is taken whole, unless an event clashes or the history is full.
use Rattle.std.proofs.Common.{◌≡◌, ℕ, zero, suc, ◌*◌, ◌≤◌, Bool, true, false, ◌⊎◌, inl, inr, ⊎_elim, List, [], ◌∷◌, ◌++◌, length, Option, Some, refl, sym, ap, ◌∙◌, subst, arith, append-nil}
use Rattle.std.specs.List.{list_any}
use Rattle.std.specs.Bool.{then_some}
use Rattle.std.proofs.lemmas.Bool.{false≢true, cases_Bool}
use Rattle.ew_model.specs.declared.event.Event.{Event}
use Rattle.ew_model.specs.Sets.{Among}
use Rattle.ew_model.specs.Events.{event_eq}
use Rattle.ew_model.specs.Ancestors.{is_held}
use Rattle.ew_model.specs.Limits.{LimitNumbers}
use Rattle.ew_model.specs.Verdicts.{Ruling, IsGood, IsGoodAfter, first_row, id_rows, later_rows}
use Rattle.ew_model.specs.Arrival.{Desk, Outcome, judgement_of, next_judgement, judgements, most_judgements, desk_of, arrive}
use Rattle.ew_model.specs.Kept.{IsOrderly}
use Rattle.ew_model.specs.Verdicts.Ruling.{Repeat, Clash, Good, GraphFull}
use Rattle.ew_model.proofs.SetLaws.{among_joined, joined_left, joined_right}
use Rattle.ew_model.proofs.KeptLaws.{good-push, kept_next, no_repeat}
use Rattle.ew_model.proofs.ArrivalRuns.{no_id}
use Rattle.ew_model.proofs.RoundLaws.{then}
use Rattle.ew_model.proofs.RulingLaws.{IsRight, next_right, stays}
use Rattle.ew_model.specs.MergeLaw.{NoneClashes, HistoriesMergeUnlessTheyClash}
use Rattle.ew_model.proofs.MergeSteps.{IsTakenIn, repeat_row, good_or_full, first_judged, none_judged, nothing_taken, one_taken}
use Rattle.ew_model.proofs.SameEvents.{event_among}

clash_row : (b c : Bool) (rows : List (Option Ruling)) → b ≡ false → c ≡ true → first_row (then_some b Repeat ∷ then_some c Clash ∷ rows) ≡ Clash
clash_row true c rows h k = absurd (false≢true (sym h))
clash_row false true rows h k = refl
clash_row false false rows h k = absurd (false≢true k)

-- where its id is held it is a repeat, or it clashes
known_ways : (limits : LimitNumbers) (held : List Event) (x : Event) → is_held (held ++ []) x.id ≡ true
    → ((first_row (id_rows held [] x ++ later_rows limits true held x) ≡ Repeat) × Among x held) ⊎ (first_row (id_rows held [] x ++ later_rows limits true held x) ≡ Clash)
unfolding id_rows
known_ways limits held x known =
    ⊎_elim
    (λ there. inl (repeat_row (list_any (event_eq x) (held ++ [])) (is_held (held ++ []) x.id) (later_rows limits true held x) there, subst (Among x) (append-nil held) (event_among x (held ++ []) there)))
    (λ other. inr (clash_row (list_any (event_eq x) (held ++ [])) (is_held (held ++ []) x.id) (later_rows limits true held x) other known))
    (cases_Bool (list_any (event_eq x) (held ++ [])))

-- where it isn't, it is good, or the history is full
new_ways : (limits : LimitNumbers) (held before : List Event) (x : Event) → IsOrderly held [] → IsGood before → ((z : Event) → Among z before → Among z held) → IsRight before x → is_held (held ++ []) x.id ≡ false
    → (first_row (id_rows held [] x ++ later_rows limits true held x) ≡ Good) ⊎ (first_row (id_rows held [] x ++ later_rows limits true held x) ≡ GraphFull)
unfolding id_rows
new_ways limits held before x kept good sub right free =
    let later : first_row (id_rows held [] x ++ later_rows limits true held x) ≡ first_row (later_rows limits true held x) =
    no_id (list_any (event_eq x) (held ++ [])) (is_held (held ++ []) x.id) (later_rows limits true held x) (no_repeat (held ++ []) x free) free in
    ⊎_elim (λ q. inl (later ∙ q)) (λ q. inr (later ∙ q)) (good_or_full limits held x (sym (stays before held x good kept.good sub right.ready) ∙ right.good))

module _ (limits : LimitNumbers) (U : Event → Type 0) where
  merge_all : (n : ℕ) (held before later : List Event) (s : Bool) → 2 * length later ≤ n → IsOrderly held [] → IsGood before → IsGoodAfter before later
      → ((z : Event) → Among z before → Among z held) → ((z : Event) → Among z held → U z) → ((z : Event) → Among z later → U z)
      → NoneClashes (judgements limits true n (record { held = held; waiting = []; coming = later; is_settling = s })).answers
      → IsTakenIn U held later (judgements limits true n (record { held = held; waiting = []; coming = later; is_settling = s }))
  unfolding IsGood
  merge_all zero held before [] s h kept good after sub in_held in_later none = nothing_taken U held s in_held
  merge_all zero held before (x ∷ later) s h kept good after sub in_held in_later none = absurd (omega (arith, h))
  merge_all (suc n) held before [] s h kept good after sub in_held in_later none =
      subst (IsTakenIn U held []) (sym (ap (then limits true n (record { held = held; waiting = []; coming = []; is_settling = s })) (none_judged limits held s))) (nothing_taken U held s in_held)
  merge_all (suc n) held before (x ∷ later) s h kept good after sub in_held in_later none =
      let d : Desk = record { held = held; waiting = []; coming = x ∷ later; is_settling = s } in
      let rest : Desk = record { held = held; waiting = []; coming = later; is_settling = true } in
      let first = first_row (id_rows held [] x ++ later_rows limits true held x) in
      let judged_so = first_judged limits held x later s in
      let steps : judgements limits true (suc n) d ≡ then limits true n d (Some (judgement_of limits rest x first)) = ap (then limits true n d) judged_so in
      let right = next_right before x after.0 in
      let good_on : IsGood (before ++ x ∷ []) = good-push [] before x good after.0 in
      let goes_on = λ (more : List Event) (m : (z : Event) → Among z held → Among z more) (here : Among x more) (z : Event) (k : Among z (before ++ x ∷ [])). ⊎_elim (λ j. m z (sub z j)) (λ j. ⊎_elim (λ q. subst (λ w. Among w more) (sym q) here) (λ no. absurd no) j) (among_joined before (x ∷ []) z k) in
      let so = λ (r : Ruling) (q : first ≡ r) (f : NoneClashes (then limits true n d (Some (judgement_of limits rest x r))).answers → IsTakenIn U held (x ∷ later) (then limits true n d (Some (judgement_of limits rest x r)))).
      subst (λ (p : Ruling). NoneClashes (then limits true n d (Some (judgement_of limits rest x p))).answers → IsTakenIn U held (x ∷ later) (then limits true n d (Some (judgement_of limits rest x p)))) (sym q) f in
      subst (λ (o : Outcome). NoneClashes o.answers → IsTakenIn U held (x ∷ later) o) (sym steps)
      (⊎_elim
      (λ known. ⊎_elim
      (λ again. so Repeat again.0 (λ nf. one_taken U held held x later Repeat (judgements limits true n rest) refl (λ z m. m) again.1
      (merge_all n held (before ++ x ∷ []) later true (omega (arith, h)) kept good_on after.1 (goes_on held (λ z m. m) again.1) in_held (λ z m. in_later z (inr m)) nf.1)))
      (λ clash. so Clash clash (λ nf. absurd (false≢true (sym nf.0))))
      (known_ways limits held x known))
      (λ free. ⊎_elim
      (λ fine.
      let all = subst (λ (r : Ruling). next_judgement limits true d ≡ Some (judgement_of limits rest x r)) fine judged_so in
      let next_kept : IsOrderly (held ++ x ∷ []) [] = kept_next limits d (judgement_of limits rest x Good) kept all in
      let wider = λ (z : Event) (m : Among z held). joined_left held (x ∷ []) z m in
      let here = joined_right held (x ∷ []) x (inl refl) in
      so Good fine (λ nf. one_taken U held (held ++ x ∷ []) x later Good (judgements limits true n (record { held = held ++ x ∷ []; waiting = []; coming = later; is_settling = true })) refl wider here
      (merge_all n (held ++ x ∷ []) (before ++ x ∷ []) later true (omega (arith, h)) next_kept good_on after.1 (goes_on (held ++ x ∷ []) wider here)
      (λ z m. ⊎_elim (λ k. in_held z k) (λ k. ⊎_elim (λ q. subst U (sym q) (in_later x (inl refl))) (λ no. absurd no) k) (among_joined held (x ∷ []) z m)) (λ z m. in_later z (inr m)) nf.1)))
      (λ full. so GraphFull full (λ nf. absurd (false≢true (sym nf.0))))
      (new_ways limits held before x kept good sub right free))
      (cases_Bool (is_held (held ++ []) x.id)))
      none

-- The law of merging by the answers.
pub merge_unless_clash : HistoriesMergeUnlessTheyClash
unfolding arrive IsGood
merge_unless_clash limits held events good_held good_events none =
    let U = λ (z : Event). Among z (held ++ events) in
    let d = desk_of held [] events in
    let t = merge_all limits U (most_judgements d) held [] events false (omega arith) (record { good = good_held; fresh = tt; apart = tt }) tt good_events (λ z no. absurd no) (λ z m. joined_left held events z m) (λ z m. joined_right held events z m) none in
    record {
      in_order = t.in_order;
      taken = t.taken;
      waiting = t.waiting;
      whole = record { there = t.given; back = λ z m. ⊎_elim (λ k. t.old z k) (λ k. t.new z k) (among_joined held events z m) };
    }
