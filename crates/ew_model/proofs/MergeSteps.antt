-- A good history that is received where nothing waits is taken whole.
use Rattle.std.proofs.Common.{◌≡◌, ℕ, zero, suc, ◌*◌, ◌≤◌, nat_le, Bool, true, false, ◌&&◌, ◌⊎◌, inl, inr, ⊎_elim, List, [], ◌∷◌, ◌++◌, map, length, Option, Some, None, refl, sym, ap, ◌∙◌, subst, arith, append-nil}
use Rattle.std.specs.List.{list_any, AllByRecursion}
use Rattle.std.specs.Bool.{then_some}
use Rattle.std.proofs.lemmas.Bool.{false≢true, cases_Bool, eq-eqb}
use Rattle.std.specs.Cmp.Lexicographic.{pointwise}
use Rattle.ew_model.specs.declared.id.Id.{Id}
use Rattle.ew_model.specs.declared.event.Op.{Op}
use Rattle.ew_model.specs.declared.event.Op.TheVariants as op
use Rattle.ew_model.specs.declared.event.Event.{Event}
use Rattle.ew_model.specs.Sets.{Among}
use Rattle.ew_model.specs.Ids.{id_eq}
use Rattle.ew_model.specs.Events.{op_eq, event_eq}
use Rattle.ew_model.specs.Ancestors.{is_held}
use Rattle.ew_model.specs.Limits.{LimitNumbers}
use Rattle.ew_model.specs.Verdicts.{Ruling, IsGood, IsGoodAfter, first_row, id_rows, parent_rows, size_rows, range_rows, later_rows}
use Rattle.ew_model.specs.Arrival.{Desk, Answer, Outcome, judgement_of, next_judgement, judgements, with_answer, most_judgements, desk_of, arrive}
use Rattle.ew_model.specs.Kept.{IsOrderly}
use Rattle.ew_model.specs.Verdicts.Ruling.{Repeat, Clash, Good, GraphFull}
use Rattle.ew_model.specs.ArrivalLaw.{NoneFull}
use Rattle.ew_model.specs.MergeLaw.{is_taken, HistoriesMerge}
use Rattle.ew_model.proofs.SetLaws.{among_joined, joined_left, joined_right}
use Rattle.ew_model.proofs.VersionLaws.{any_from}
use Rattle.ew_model.proofs.KeptLaws.{good-push, no_repeat}
use Rattle.ew_model.proofs.CoverLaws.{ids_alike, event_of}
use Rattle.ew_model.proofs.IdLaws.{names_equal}
use Rattle.ew_model.proofs.ArrivalRuns.{no_id}
use Rattle.ew_model.proofs.RoundLaws.{then}
use Rattle.ew_model.proofs.KeptLaws.{kept_next}
use Rattle.ew_model.proofs.RulingLaws.{IsRight, next_right, ruled, stays}

-- an event equals itself
same_parents : (ids : List Id) → pointwise id_eq ids ids ≡ true
same_parents [] = refl
same_parents (x ∷ ids) = λ i. ids_alike.refl x i && same_parents ids i

same_op : (o : Op) → op_eq o o ≡ true
same_op (op.Ins at ch) = λ i. eq-eqb at at refl i && eq-eqb ch ch refl i
same_op (op.Del at) = eq-eqb at at refl
same_op (op.Mark label) = names_equal.refl label

pub same_event : (e : Event) → event_eq e e ≡ true
same_event e = λ i. ids_alike.refl e.id i && same_parents e.parents i && same_op e.op i

pub repeat_row : (b c : Bool) (rows : List (Option Ruling)) → b ≡ true → first_row (then_some b Repeat ∷ then_some c Clash ∷ rows) ≡ Repeat
repeat_row true c rows h = refl
repeat_row false c rows h = absurd (false≢true h)

-- one row more
row_between : (rows : List (Option Ruling)) (b : Bool) (q : Ruling) (more : List (Option Ruling)) → first_row (rows ++ more) ≡ Good → (first_row (rows ++ then_some b q ∷ more) ≡ Good) ⊎ (first_row (rows ++ then_some b q ∷ more) ≡ q)
row_between [] true q more h = inr refl
row_between [] false q more h = inl h
row_between (None ∷ rows) b q more h = row_between rows b q more h
row_between (Some p ∷ rows) b q more h = inl h

pub good_or_full : (limits : LimitNumbers) (held : List Event) (e : Event) → ruled held e ≡ Good → (first_row (later_rows limits true held e) ≡ Good) ⊎ (first_row (later_rows limits true held e) ≡ GraphFull)
unfolding parent_rows size_rows range_rows
good_or_full limits held e h = row_between (parent_rows held e) (nat_le limits.events (length held)) GraphFull (range_rows held e) h

-- the first of the events to come, where nothing waits
pub first_judged : (limits : LimitNumbers) (held : List Event) (x : Event) (later : List Event) (s : Bool)
    → next_judgement limits true (record { held = held; waiting = []; coming = x ∷ later; is_settling = s })
    ≡ Some (judgement_of limits (record { held = held; waiting = []; coming = later; is_settling = true }) x (first_row (id_rows held [] x ++ later_rows limits true held x)))
unfolding next_judgement
first_judged limits held x later true = refl
first_judged limits held x later false = refl

pub none_judged : (limits : LimitNumbers) (held : List Event) (s : Bool) → next_judgement limits true (record { held = held; waiting = []; coming = []; is_settling = s }) ≡ None
unfolding next_judgement
none_judged limits held true = refl
none_judged limits held false = refl

-- how it is judged: it is a repeat, or good, or the list is full
three_ways : (limits : LimitNumbers) (held before : List Event) (x : Event) → IsOrderly held [] → IsGood before → ((z : Event) → Among z before → Among z held) → IsRight before x → ((g : Event) → Among g held → id_eq g.id x.id ≡ true → g ≡ x)
    → ((first_row (id_rows held [] x ++ later_rows limits true held x) ≡ Repeat) × Among x held) ⊎ ((first_row (id_rows held [] x ++ later_rows limits true held x) ≡ Good) ⊎ (first_row (id_rows held [] x ++ later_rows limits true held x) ≡ GraphFull))
unfolding id_rows
three_ways limits held before x kept good sub right one =
    ⊎_elim
    (λ there.
    let g = event_of (held ++ []) x.id there in
    let it : g.0 ≡ x = one g.0 (subst (Among g.0) (append-nil held) g.1) (ids_alike.symm g.0.id x.id ∙ g.2) in
    let here : Among x (held ++ []) = subst (λ z. Among z (held ++ [])) it g.1 in
    inl (repeat_row (list_any (event_eq x) (held ++ [])) (is_held (held ++ []) x.id) (later_rows limits true held x) (any_from (event_eq x) (held ++ []) x here (same_event x)), subst (Among x) (append-nil held) here))
    (λ free.
    let later : first_row (id_rows held [] x ++ later_rows limits true held x) ≡ first_row (later_rows limits true held x) =
    no_id (list_any (event_eq x) (held ++ [])) (is_held (held ++ []) x.id) (later_rows limits true held x) (no_repeat (held ++ []) x free) free in
    inr (⊎_elim (λ q. inl (later ∙ q)) (λ q. inr (later ∙ q)) (good_or_full limits held x (sym (stays before held x good kept.good sub right.ready) ∙ right.good))))
    (cases_Bool (is_held (held ++ []) x.id))

-- what judging the later events does
pub record IsTakenIn (U : Event → Type 0) (held later : List Event) (o : Outcome) : Type 0 where
  pub in_order : map (λ (a : Answer). a.event) o.answers ≡ later
  pub taken : AllByRecursion (λ (a : Answer). is_taken a.ruling ≡ true) o.answers
  pub waiting : o.desk.waiting ≡ []
  pub old : (z : Event) → Among z held → Among z o.desk.held
  pub new : (z : Event) → Among z later → Among z o.desk.held
  pub given : (z : Event) → Among z o.desk.held → U z

pub nothing_taken : (U : Event → Type 0) (held : List Event) (s : Bool) → ((z : Event) → Among z held → U z) → IsTakenIn U held [] (record { desk = record { held = held; waiting = []; coming = []; is_settling = s }; answers = [] })
nothing_taken U held s f = record { in_order = refl; taken = tt; waiting = refl; old = λ z m. m; new = λ z no. absurd no; given = f }

pub one_taken : (U : Event → Type 0) (held more : List Event) (x : Event) (later : List Event) (r : Ruling) (o : Outcome) → is_taken r ≡ true → ((z : Event) → Among z held → Among z more) → Among x more → IsTakenIn U more later o → IsTakenIn U held (x ∷ later) (with_answer (record { event = x; ruling = r }) o)
one_taken U held more x later r o y sub here t = record {
  in_order = ap (λ (es : List Event). x ∷ es) t.in_order;
  taken = (y, t.taken);
  waiting = t.waiting;
  old = λ z m. t.old z (sub z m);
  new = λ z m. ⊎_elim (λ q. subst (λ w. Among w o.desk.held) (sym q) (t.old x here)) (λ k. t.new z k) m;
  given = t.given;
}

module _ (limits : LimitNumbers) (U : Event → Type 0) (one : (f g : Event) → U f → U g → id_eq f.id g.id ≡ true → f ≡ g) where
  merge_all : (n : ℕ) (held before later : List Event) (s : Bool) → 2 * length later ≤ n → IsOrderly held [] → IsGood before → IsGoodAfter before later
      → ((z : Event) → Among z before → Among z held) → ((z : Event) → Among z held → U z) → ((z : Event) → Among z later → U z)
      → NoneFull (judgements limits true n (record { held = held; waiting = []; coming = later; is_settling = s })).answers
      → IsTakenIn U held later (judgements limits true n (record { held = held; waiting = []; coming = later; is_settling = s }))
  unfolding IsGood
  merge_all zero held before [] s h kept good after sub in_held in_later none = nothing_taken U held s in_held
  merge_all zero held before (x ∷ later) s h kept good after sub in_held in_later none = absurd (omega (arith, h))
  merge_all (suc n) held before [] s h kept good after sub in_held in_later none =
      subst (IsTakenIn U held []) (sym (ap (then limits true n (record { held = held; waiting = []; coming = []; is_settling = s })) (none_judged limits held s))) (nothing_taken U held s in_held)
  merge_all (suc n) held before (x ∷ later) s h kept good after sub in_held in_later none =
      let d : Desk = record { held = held; waiting = []; coming = x ∷ later; is_settling = s } in
      let rest : Desk = record { held = held; waiting = []; coming = later; is_settling = true } in
      let first = first_row (id_rows held [] x ++ later_rows limits true held x) in
      let judged_so = first_judged limits held x later s in
      let steps : judgements limits true (suc n) d ≡ then limits true n d (Some (judgement_of limits rest x first)) = ap (then limits true n d) judged_so in
      let right = next_right before x after.0 in
      let good_on : IsGood (before ++ x ∷ []) = good-push [] before x good after.0 in
      let goes_on = λ (more : List Event) (m : (z : Event) → Among z held → Among z more) (here : Among x more) (z : Event) (k : Among z (before ++ x ∷ [])). ⊎_elim (λ j. m z (sub z j)) (λ j. ⊎_elim (λ q. subst (λ w. Among w more) (sym q) here) (λ no. absurd no) j) (among_joined before (x ∷ []) z k) in
      subst (λ (o : Outcome). NoneFull o.answers → IsTakenIn U held (x ∷ later) o) (sym steps)
      (⊎_elim
      (λ again. subst (λ (r : Ruling). NoneFull (then limits true n d (Some (judgement_of limits rest x r))).answers → IsTakenIn U held (x ∷ later) (then limits true n d (Some (judgement_of limits rest x r)))) (sym again.0)
      (λ nf. one_taken U held held x later Repeat (judgements limits true n rest) refl (λ z m. m) again.1
      (merge_all n held (before ++ x ∷ []) later true (omega (arith, h)) kept good_on after.1 (goes_on held (λ z m. m) again.1) in_held (λ z m. in_later z (inr m)) nf.1)))
      (λ other. ⊎_elim
      (λ fine.
      let all = subst (λ (r : Ruling). next_judgement limits true d ≡ Some (judgement_of limits rest x r)) fine judged_so in
      let next_kept : IsOrderly (held ++ x ∷ []) [] = kept_next limits d (judgement_of limits rest x Good) kept all in
      let wider = λ (z : Event) (m : Among z held). joined_left held (x ∷ []) z m in
      let here = joined_right held (x ∷ []) x (inl refl) in
      subst (λ (r : Ruling). NoneFull (then limits true n d (Some (judgement_of limits rest x r))).answers → IsTakenIn U held (x ∷ later) (then limits true n d (Some (judgement_of limits rest x r)))) (sym fine)
      (λ nf. one_taken U held (held ++ x ∷ []) x later Good (judgements limits true n (record { held = held ++ x ∷ []; waiting = []; coming = later; is_settling = true })) refl wider here
      (merge_all n (held ++ x ∷ []) (before ++ x ∷ []) later true (omega (arith, h)) next_kept good_on after.1 (goes_on (held ++ x ∷ []) wider here)
      (λ z m. ⊎_elim (λ k. in_held z k) (λ k. ⊎_elim (λ q. subst U (sym q) (in_later x (inl refl))) (λ no. absurd no) k) (among_joined held (x ∷ []) z m)) (λ z m. in_later z (inr m)) nf.1)))
      (λ full. subst (λ (r : Ruling). NoneFull (then limits true n d (Some (judgement_of limits rest x r))).answers → IsTakenIn U held (x ∷ later) (then limits true n d (Some (judgement_of limits rest x r)))) (sym full)
      (λ nf. absurd (false≢true (sym nf.0))))
      other)
      (three_ways limits held before x kept good sub right (λ g m q. one g x (in_held g m) (in_later x (inl refl)) q)))
      none

-- The law of merging a history.
pub histories_merge : HistoriesMerge
unfolding arrive IsGood
histories_merge limits held events good_held good_events one none =
    let U = λ (z : Event). Among z (held ++ events) in
    let d = desk_of held [] events in
    let t = merge_all limits U one (most_judgements d) held [] events false (omega arith) (record { good = good_held; fresh = tt; apart = tt }) tt good_events (λ z no. absurd no) (λ z m. joined_left held events z m) (λ z m. joined_right held events z m) none in
    record {
      in_order = t.in_order;
      taken = t.taken;
      waiting = t.waiting;
      whole = record { there = t.given; back = λ z m. ⊎_elim (λ k. t.old z k) (λ k. t.new z k) (among_joined held events z m) };
    }
