-- What is known of every event while events are judged: it is still to come, or held, or waits, or was refused and would be again.
use Rattle.std.proofs.Common.{◌≡◌, ℕ, zero, suc, Bool, true, false, cond, ◌||◌, ◌⊎◌, inl, inr, ⊎_elim, List, [], ◌∷◌, ◌++◌, find, Option, Some, None, refl, sym, ap, ◌∙◌, subst}
use Rattle.std.specs.List.{list_any}
use Rattle.std.specs.Bool.{then_some}
use Rattle.std.specs.Option.{option_map_or}
use Rattle.std.proofs.lemmas.Bool.{false≢true, or_parts, or_from, cases_Bool}
use Rattle.ew_model.specs.declared.event.Event.{Event}
use Rattle.ew_model.specs.Sets.{Among}
use Rattle.ew_model.specs.Ids.{id_eq}
use Rattle.ew_model.specs.Events.{event_eq}
use Rattle.ew_model.specs.Ancestors.{is_held}
use Rattle.ew_model.specs.Limits.{LimitNumbers}
use Rattle.ew_model.specs.Verdicts.{Ruling, first_row, id_rows, IsGood, later_rows}
use Rattle.ew_model.specs.Arrival.{Desk, Judgement, is_ready, without_ready, at_the_pool, desk_after, judgement_of, judge_coming, judge_ready, next_judgement, judgements, with_answer}
use Rattle.ew_model.specs.Kept.{IsOrderly}
use Rattle.ew_model.specs.Verdicts.Ruling.{Repeat, Clash, SelfParent, TooManyParents, ParentsUnsorted, Unknown, PoolFull, NotReduced, Skipped, GraphFull, OutOfRange, Good}
use Rattle.ew_model.specs.ArrivalLaw.{is_full, NoneFull, NoneReady}
use Rattle.ew_model.proofs.SetLaws.{among_joined, joined_left, joined_right}
use Rattle.ew_model.proofs.SortingLaws.{all_at}
use Rattle.ew_model.proofs.VersionLaws.{find_none}
use Rattle.ew_model.proofs.ArrivalLaws.{is_unknown, ready_found}
use Rattle.ew_model.proofs.KeptLaws.{held_joined, kept_next, no_repeat}
use Rattle.ew_model.proofs.CoverLaws.{ids_alike, event_of, held_of}
use Rattle.ew_model.proofs.RulingLaws.{is_malformed, ruled, ruled_cases, ruled_by_later, pool_kept, ready_more, stays}

-- it was refused, and would be again: by its form, or by its ancestors, which are held
abbrev pub Refused : List Event → List Event → Event → Type 0
Refused old held u =
    (is_held held u.id ≡ false)
    × (((is_malformed u ≡ true) × (Among u old → is_ready held u ≡ true)) ⊎ ((is_ready held u ≡ true) × (ruled held u ≡ Good → ⊥)))

abbrev pub Accounted : List Event → List Event → List Event → Event → Type 0
Accounted old held waiting u = Among u held ⊎ (Among u waiting ⊎ Refused old held u)

-- The given events are those of U; old ones waited at the start.
pub record IsRun (U : Event → Type 0) (old : List Event) (d : Desk) : Type 0 where
  pub kept : IsOrderly d.held d.waiting
  pub of_held : (u : Event) → Among u d.held → U u
  pub of_coming : (u : Event) → Among u d.coming → U u
  pub of_waiting : (u : Event) → Among u d.waiting → U u × ((is_malformed u ≡ false) ⊎ Among u old)
  pub of_old : (u : Event) → Among u old → U u × Accounted old d.held d.waiting u
  pub each : (u : Event) → U u → Among u d.coming ⊎ Accounted old d.held d.waiting u
  pub still : d.is_settling ≡ false → NoneReady d.held d.waiting

-- a desk that a judgement of e leaves
record IsNextDesk (U : Event → Type 0) (old : List Event) (e : Event) (d next : Desk) : Type 0 where
  kept : IsOrderly next.held next.waiting
  settling : next.is_settling ≡ true
  given : U e
  there : Accounted old next.held next.waiting e
  grown : (u : Event) → Among u d.held → Among u next.held
  left : (u : Event) → Among u d.waiting → (u ≡ e) ⊎ Among u next.waiting
  to_come : (u : Event) → Among u d.coming → (u ≡ e) ⊎ Among u next.coming
  refused : (u : Event) → U u → Refused old d.held u → (u ≡ e) ⊎ Refused old next.held u
  was_held : (u : Event) → Among u next.held → (u ≡ e) ⊎ Among u d.held
  was_waiting : (u : Event) → Among u next.waiting → ((u ≡ e) × (is_malformed e ≡ false)) ⊎ Among u d.waiting
  was_coming : (u : Event) → Among u next.coming → Among u d.coming

accounted_next : (U : Event → Type 0) (old : List Event) (e : Event) (d next : Desk) → IsNextDesk U old e d next → (u : Event) → U u → Accounted old d.held d.waiting u → Accounted old next.held next.waiting u
accounted_next U old e d next s u given (inl h) = inl (s.grown u h)
accounted_next U old e d next s u given (inr (inl w)) = ⊎_elim (λ q. subst (Accounted old next.held next.waiting) (sym q) s.there) (λ m. inr (inl m)) (s.left u w)
accounted_next U old e d next s u given (inr (inr r)) = ⊎_elim (λ q. subst (Accounted old next.held next.waiting) (sym q) s.there) (λ m. inr (inr m)) (s.refused u given r)

run_on : (U : Event → Type 0) (old : List Event) (e : Event) (d next : Desk) → IsRun U old d → IsNextDesk U old e d next → IsRun U old next
run_on U old e d next r s = record {
  kept = s.kept;
  of_held = λ u m. ⊎_elim (λ q. subst U (sym q) s.given) (λ k. r.of_held u k) (s.was_held u m);
  of_coming = λ u m. r.of_coming u (s.was_coming u m);
  of_waiting = λ u m. ⊎_elim (λ q. (subst U (sym q.0) s.given, inl (ap is_malformed q.0 ∙ q.1))) (λ k. r.of_waiting u k) (s.was_waiting u m);
  of_old = λ u m. let o = r.of_old u m in (o.0, accounted_next U old e d next s u o.0 o.1);
  each = λ u g. ⊎_elim
      (λ c. ⊎_elim (λ q. inr (subst (Accounted old next.held next.waiting) (sym q) s.there)) (λ k. inl k) (s.to_come u c))
      (λ a. inr (accounted_next U old e d next s u g a))
      (r.each u g);
  still = λ q. absurd (false≢true (sym q ∙ s.settling));
}

-- of a found event and the others that wait
found_at : (b : Bool) (held : List Event) (x : Event) (waiting : List Event) (e : Event) → cond b (Some x) (find (is_ready held) waiting) ≡ Some e
    → (find (is_ready held) waiting ≡ Some e → Among e waiting × ((u : Event) → Among u waiting → (u ≡ e) ⊎ Among u (without_ready held waiting)) × ((u : Event) → Among u (without_ready held waiting) → Among u waiting))
    → Among e (x ∷ waiting) × ((u : Event) → Among u (x ∷ waiting) → (u ≡ e) ⊎ Among u (cond b waiting (x ∷ without_ready held waiting))) × ((u : Event) → Among u (cond b waiting (x ∷ without_ready held waiting)) → Among u (x ∷ waiting))
found_at true held x waiting e q f = let same : x ≡ e = cc in (inl (sym same), λ u m. ⊎_elim (λ a. inl (a ∙ same)) (λ k. inr k) m, λ u m. inr m)
found_at false held x waiting e q f = let more = f q in (
  inr more.0,
  λ u m. ⊎_elim (λ a. inr (inl a)) (λ k. ⊎_elim (λ a. inl a) (λ j. inr (inr j)) (more.1 u k)) m,
  λ u m. ⊎_elim (λ a. inl a) (λ k. inr (more.2 u k)) m,
)

found_there : (held waiting : List Event) (e : Event) → find (is_ready held) waiting ≡ Some e → Among e waiting × ((u : Event) → Among u waiting → (u ≡ e) ⊎ Among u (without_ready held waiting)) × ((u : Event) → Among u (without_ready held waiting) → Among u waiting)
found_there held [] e q = let no : ⊥ = cc in absurd no
found_there held (x ∷ waiting) e q = found_at (is_ready held x) held x waiting e q (λ k. found_there held waiting e k)

pushed : (xs : List Event) (e u : Event) → Among u (xs ++ e ∷ []) → (u ≡ e) ⊎ Among u xs
pushed xs e u m = ⊎_elim (λ k. inr k) (λ k. ⊎_elim (λ q. inl q) (λ no. absurd no) k) (among_joined xs (e ∷ []) u m)

pushed_last : (xs : List Event) (e : Event) → Among e (xs ++ e ∷ [])
pushed_last xs e = joined_right xs (e ∷ []) e (inl refl)

-- what is refused stays so when another event is appended
module _ (U : Event → Type 0) (old : List Event) (one : (f g : Event) → U f → U g → id_eq f.id g.id ≡ true → f ≡ g) where
  refused_on : (held : List Event) (e u : Event) → IsGood held → IsGood (held ++ e ∷ []) → U u → U e → Refused old held u → (u ≡ e) ⊎ Refused old (held ++ e ∷ []) u
  refused_on held e u good more gu ge r = at (cases_Bool (id_eq u.id e.id)) r.1
    where
      sub : (z : Event) → Among z held → Among z (held ++ e ∷ [])
      sub z m = joined_left held (e ∷ []) z m

      free : id_eq u.id e.id ≡ false → is_held (held ++ e ∷ []) u.id ≡ false
      free q = held_joined held (e ∷ []) u.id ∙ or_from (is_held held u.id) (id_eq u.id e.id || false) r.0 (or_from (id_eq u.id e.id) false q refl)

      at : (id_eq u.id e.id ≡ true) ⊎ (id_eq u.id e.id ≡ false) → ((is_malformed u ≡ true) × (Among u old → is_ready held u ≡ true)) ⊎ ((is_ready held u ≡ true) × (ruled held u ≡ Good → ⊥)) → (u ≡ e) ⊎ Refused old (held ++ e ∷ []) u
      at (inl q) s = inl (one u e gu ge q)
      at (inr q) (inl s) = inr (free q, inl (s.0, λ m. ready_more held (held ++ e ∷ []) u sub (s.1 m)))
      at (inr q) (inr s) = inr (free q, inr (ready_more held (held ++ e ∷ []) u sub s.0, λ g. s.1 (stays held (held ++ e ∷ []) u good more sub s.0 ∙ g)))

  -- The desk after a ruling on e, which is taken from what waits or is to come.
  module _ (d : Desk) (less coming : List Event) (e : Event) (run : IsRun U old d) (given : U e)
      (left : (u : Event) → Among u d.waiting → (u ≡ e) ⊎ Among u less) (in_waiting : (u : Event) → Among u less → Among u d.waiting)
      (to_come : (u : Event) → Among u d.coming → (u ≡ e) ⊎ Among u coming) (in_coming : (u : Event) → Among u coming → Among u d.coming) where
    abbrev rest : Desk
    rest = record { held = d.held; waiting = less; coming = coming; is_settling = true }

    appended : IsOrderly (d.held ++ e ∷ []) less → IsRun U old (record { held = d.held ++ e ∷ []; waiting = less; coming = coming; is_settling = true })
    appended k = run_on U old e d (record { held = d.held ++ e ∷ []; waiting = less; coming = coming; is_settling = true }) run (record {
      kept = k;
      settling = refl;
      given = given;
      there = inl (pushed_last d.held e);
      grown = λ u m. joined_left d.held (e ∷ []) u m;
      left = left;
      to_come = to_come;
      refused = λ u g r. refused_on d.held e u run.kept.good k.good g given r;
      was_held = λ u m. pushed d.held e u m;
      was_waiting = λ u m. inr (in_waiting u m);
      was_coming = in_coming;
    })

    put_last : is_malformed e ≡ false → IsOrderly d.held (less ++ e ∷ []) → IsRun U old (record { held = d.held; waiting = less ++ e ∷ []; coming = coming; is_settling = true })
    put_last b k = run_on U old e d (record { held = d.held; waiting = less ++ e ∷ []; coming = coming; is_settling = true }) run (record {
      kept = k;
      settling = refl;
      given = given;
      there = inr (inl (pushed_last less e));
      grown = λ u m. m;
      left = λ u m. ⊎_elim (λ q. inl q) (λ j. inr (joined_left less (e ∷ []) u j)) (left u m);
      to_come = to_come;
      refused = λ u g r. inr r;
      was_held = λ u m. inr m;
      was_waiting = λ u m. ⊎_elim (λ q. inl (q, b)) (λ j. inr (in_waiting u j)) (pushed less e u m);
      was_coming = in_coming;
    })

    answered : Accounted old d.held less e → IsOrderly d.held less → IsRun U old rest
    answered a k = run_on U old e d rest run (record {
      kept = k;
      settling = refl;
      given = given;
      there = a;
      grown = λ u m. m;
      left = left;
      to_come = to_come;
      refused = λ u g r. inr r;
      was_held = λ u m. inr m;
      was_waiting = λ u m. inr (in_waiting u m);
      was_coming = in_coming;
    })

    by_ruling : (r : Ruling) → (is_unknown r ≡ true → is_malformed e ≡ false) → ((r ≡ Good → ⊥) → is_unknown r ≡ false → Accounted old d.held less e) → IsOrderly (desk_after r e rest).held (desk_after r e rest).waiting → IsRun U old (desk_after r e rest)
    by_ruling Good f g k = appended k
    by_ruling (Unknown p) f g k = put_last (f refl) k
    by_ruling Repeat f g k = answered (g (λ q. let no : ⊥ = cc in no) refl) k
    by_ruling Clash f g k = answered (g (λ q. let no : ⊥ = cc in no) refl) k
    by_ruling SelfParent f g k = answered (g (λ q. let no : ⊥ = cc in no) refl) k
    by_ruling TooManyParents f g k = answered (g (λ q. let no : ⊥ = cc in no) refl) k
    by_ruling ParentsUnsorted f g k = answered (g (λ q. let no : ⊥ = cc in no) refl) k
    by_ruling PoolFull f g k = answered (g (λ q. let no : ⊥ = cc in no) refl) k
    by_ruling NotReduced f g k = answered (g (λ q. let no : ⊥ = cc in no) refl) k
    by_ruling Skipped f g k = answered (g (λ q. let no : ⊥ = cc in no) refl) k
    by_ruling GraphFull f g k = answered (g (λ q. let no : ⊥ = cc in no) refl) k
    by_ruling (OutOfRange len) f g k = answered (g (λ q. let no : ⊥ = cc in no) refl) k

    -- the rows behind those by the id
    by_rows : (limits : LimitNumbers) → is_held d.held e.id ≡ false → (r : Ruling) → first_row (later_rows limits true d.held e) ≡ r → is_full r ≡ false → (is_malformed e ≡ true → Among e old → is_ready d.held e ≡ true) → IsOrderly (desk_after r e rest).held (desk_after r e rest).waiting → IsRun U old (desk_after r e rest)
    by_rows limits new r q full known k =
        let same : ruled d.held e ≡ r = ruled_by_later limits d.held e r q full in
        let cases = ruled_cases d.held e r same in
        by_ruling r
        (λ u. ⊎_elim (λ bad. absurd (false≢true (sym bad.2 ∙ u))) (λ right. right.0) cases)
        (λ n u. ⊎_elim
        (λ bad. inr (inr (new, inl (bad.0, known bad.0))))
        (λ right. inr (inr (new, inr (⊎_elim (λ v. absurd (false≢true (sym u ∙ v))) (λ y. y) right.1, λ g. n (sym same ∙ g)))))
        cases)
        k

    -- an event whose id is held or waits
    by_id : Accounted old d.held less e → (r : Ruling) → is_unknown r ≡ false → IsOrderly (desk_after r e rest).held (desk_after r e rest).waiting → IsRun U old (desk_after r e rest)
    by_id a r n k = by_ruling r (λ u. absurd (false≢true (sym n ∙ u))) (λ g u. a) k

id_known : (b c : Bool) (rows : List (Option Ruling)) → c ≡ true → is_unknown (first_row (then_some b Repeat ∷ then_some c Clash ∷ rows)) ≡ false
id_known true c rows q = refl
id_known false true rows q = refl
id_known false false rows q = absurd (false≢true q)

pub no_id : (b c : Bool) (rows : List (Option Ruling)) → b ≡ false → c ≡ false → first_row (then_some b Repeat ∷ then_some c Clash ∷ rows) ≡ first_row rows
no_id b c rows p q = λ i. first_row (then_some (p i) Repeat ∷ then_some (q i) Clash ∷ rows)

module _ (U : Event → Type 0) (old : List Event) (one : (f g : Event) → U f → U g → id_eq f.id g.id ≡ true → f ≡ g) where
  first_next : (x : Event) (coming : List Event) (u : Event) → Among u (x ∷ coming) → (u ≡ x) ⊎ Among u coming
  first_next x coming u m = m

  -- what was refused by its form and waited at the start is ready
  old_ready : (d : Desk) (x : Event) → IsRun U old d → is_held d.held x.id ≡ false → is_held d.waiting x.id ≡ false → Among x old → is_ready d.held x ≡ true
  old_ready d x run new free m = at (run.of_old x m).1
    where
      there : (xs : List Event) → Among x xs → is_held xs x.id ≡ true
      there xs k = held_of xs x k

      at : Accounted old d.held d.waiting x → is_ready d.held x ≡ true
      at (inl h) = absurd (false≢true (sym new ∙ there d.held h))
      at (inr (inl w)) = absurd (false≢true (sym free ∙ there d.waiting w))
      at (inr (inr (n, inl b))) = b.1 m
      at (inr (inr (n, inr b))) = b.0

  run_coming : (limits : LimitNumbers) (d : Desk) (coming : List Event) (j : Judgement) → IsRun U old d → d.coming ≡ coming → judge_coming limits true d coming ≡ Some j → IsOrderly j.desk.held j.desk.waiting → is_full j.answer.ruling ≡ false → IsRun U old j.desk
  unfolding id_rows
  run_coming limits d [] j run c e kept full = let no : ⊥ = cc in absurd no
  run_coming limits d (x ∷ coming) j run c e kept full =
      let first = first_row (id_rows d.held d.waiting x ++ later_rows limits true d.held x) in
      let after : Desk = record { held = d.held; waiting = d.waiting; coming = coming; is_settling = true } in
      let given : U x = run.of_coming x (subst (Among x) (sym c) (inl refl)) in
      let to_come : (u : Event) → Among u d.coming → (u ≡ x) ⊎ Among u coming = λ u m. first_next x coming u (subst (Among u) c m) in
      let in_coming : (u : Event) → Among u coming → Among u d.coming = λ u m. subst (Among u) (sym c) (inr m) in
      let same : judgement_of limits after x first ≡ j = cc in
      subst (λ (i : Judgement). IsOrderly i.desk.held i.desk.waiting → is_full i.answer.ruling ≡ false → IsRun U old i.desk) same
      (λ k f.
      let is : at_the_pool limits d.waiting first ≡ first = pool_kept limits d.waiting first f in
      subst (λ (r : Ruling). IsOrderly (desk_after r x after).held (desk_after r x after).waiting → IsRun U old (desk_after r x after)) (sym is)
      (λ l. ⊎_elim
      (λ there.
      let g = event_of (d.held ++ d.waiting) x.id there in
      let spot = among_joined d.held d.waiting g.0 g.1 in
      let it : g.0 ≡ x = one g.0 x (⊎_elim (λ m. run.of_held g.0 m) (λ m. (run.of_waiting g.0 m).0) spot) given (ids_alike.symm g.0.id x.id ∙ g.2) in
      by_id U old one d d.waiting coming x run given (λ u m. inr m) (λ u m. m) to_come in_coming
      (⊎_elim (λ m. inl (subst (λ z. Among z d.held) it m)) (λ m. inr (inl (subst (λ z. Among z d.waiting) it m))) spot)
      first (id_known (list_any (event_eq x) (d.held ++ d.waiting)) (is_held (d.held ++ d.waiting) x.id) (later_rows limits true d.held x) there) l)
      (λ free.
      let parts = or_parts (is_held d.held x.id) (is_held d.waiting x.id) (sym (held_joined d.held d.waiting x.id) ∙ free) in
      let later : first ≡ first_row (later_rows limits true d.held x) = no_id (list_any (event_eq x) (d.held ++ d.waiting)) (is_held (d.held ++ d.waiting) x.id) (later_rows limits true d.held x) (no_repeat (d.held ++ d.waiting) x free) free in
      by_rows U old one d d.waiting coming x run given (λ u m. inr m) (λ u m. m) to_come in_coming
      limits parts.0 first (sym later) (sym (ap is_full is) ∙ f) (λ b m. old_ready d x run parts.0 parts.1 m) l)
      (cases_Bool (is_held (d.held ++ d.waiting) x.id)))
      k)
      kept full

  run_ready : (limits : LimitNumbers) (d : Desk) (o : Option Event) (j : Judgement) → IsRun U old d → ((e : Event) → o ≡ Some e → find (is_ready d.held) d.waiting ≡ Some e) → judge_ready limits true d o ≡ Some j → IsOrderly j.desk.held j.desk.waiting → is_full j.answer.ruling ≡ false → IsRun U old j.desk
  run_ready limits d None j run f e kept full = run_coming limits d d.coming j run refl e kept full
  run_ready limits d (Some x) j run f e kept full =
      let less = without_ready d.held d.waiting in
      let after : Desk = record { held = d.held; waiting = less; coming = d.coming; is_settling = true } in
      let found = f x refl in
      let there = found_there d.held d.waiting x found in
      let first = first_row (later_rows limits true d.held x) in
      let same : judgement_of limits after x first ≡ j = cc in
      subst (λ (i : Judgement). IsOrderly i.desk.held i.desk.waiting → is_full i.answer.ruling ≡ false → IsRun U old i.desk) same
      (λ k g.
      let is : at_the_pool limits less first ≡ first = pool_kept limits less first g in
      subst (λ (r : Ruling). IsOrderly (desk_after r x after).held (desk_after r x after).waiting → IsRun U old (desk_after r x after)) (sym is)
      (λ l. by_rows U old one d less d.coming x run (run.of_waiting x there.0).0 there.1 there.2 (λ u m. inr m) (λ u m. m)
      limits (all_at (λ w. is_held d.held w.id ≡ false) d.waiting x run.kept.fresh there.0) first refl (sym (ap is_full is) ∙ g) (λ b m. (ready_found d.held d.waiting x found).0) l)
      k)
      kept full

  -- A judgement that meets no full list keeps it.
  run_next : (limits : LimitNumbers) (d : Desk) (j : Judgement) → IsRun U old d → next_judgement limits true d ≡ Some j → is_full j.answer.ruling ≡ false → IsRun U old j.desk
  unfolding next_judgement
  run_next limits d j run e full = run_ready limits d (cond d.is_settling (find (is_ready d.held) d.waiting) None) j run (settled d.is_settling) e (kept_next limits d j run.kept e) full
    where
      settled : (b : Bool) (x : Event) → cond b (find (is_ready d.held) d.waiting) None ≡ Some x → find (is_ready d.held) d.waiting ≡ Some x
      settled true x h = h
      settled false x h = let no : ⊥ = cc in absurd no

  run_step : (limits : LimitNumbers) (n : ℕ) (d : Desk) (o : Option Judgement) → IsRun U old d
      → ((j : Judgement) → o ≡ Some j → is_full j.answer.ruling ≡ false → NoneFull (judgements limits true n j.desk).answers → IsRun U old (judgements limits true n j.desk).desk)
      → NoneFull (option_map_or (λ j. with_answer j.answer (judgements limits true n j.desk)) o (record { desk = d; answers = [] })).answers
      → IsRun U old (option_map_or (λ j. with_answer j.answer (judgements limits true n j.desk)) o (record { desk = d; answers = [] })).desk
  run_step limits n d None run f h = run
  run_step limits n d (Some j) run f h = f j refl h.0 h.1

  pub run_all : (limits : LimitNumbers) (n : ℕ) (d : Desk) → IsRun U old d → NoneFull (judgements limits true n d).answers → IsRun U old (judgements limits true n d).desk
  run_all limits zero d run h = run
  run_all limits (suc n) d run h = run_step limits n d (next_judgement limits true d) run (λ j e full more. run_all limits n j.desk (run_next limits d j run e full) more) h

-- where nothing is left to judge nothing is to come, and no waiting event is ready
none_coming : (limits : LimitNumbers) (d : Desk) (coming : List Event) → judge_coming limits true d coming ≡ None → coming ≡ []
none_coming limits d [] e = refl
none_coming limits d (x ∷ coming) e = let no : ⊥ = cc in absurd no

none_ready : (limits : LimitNumbers) (d : Desk) (o : Option Event) → judge_ready limits true d o ≡ None → (o ≡ None) × (d.coming ≡ [])
none_ready limits d None e = (refl, none_coming limits d d.coming e)
none_ready limits d (Some x) e = let no : ⊥ = cc in absurd no

pub ended : (limits : LimitNumbers) (d : Desk) → next_judgement limits true d ≡ None → (d.is_settling ≡ false → NoneReady d.held d.waiting) → NoneReady d.held d.waiting × (d.coming ≡ [])
unfolding next_judgement
ended limits d e still =
    let parts = none_ready limits d (cond d.is_settling (find (is_ready d.held) d.waiting) None) e in
    (at d.is_settling refl parts.0, parts.1)
  where
    at : (b : Bool) → d.is_settling ≡ b → cond b (find (is_ready d.held) d.waiting) None ≡ None → NoneReady d.held d.waiting
    at true q h = find_none (is_ready d.held) d.waiting h
    at false q h = still q
