-- What all judgements leave of events that were good where they were made.
use Rattle.std.proofs.Common.{◌≡◌, ℕ, zero, suc, Bool, true, false, cond, ◌⊎◌, inl, inr, ⊎_elim, List, [], ◌∷◌, ◌++◌, find, Option, Some, None, refl, sym, ap, ◌∙◌, subst}
use Rattle.std.specs.List.{AllByRecursion, position_or_len}
use Rattle.std.proofs.lemmas.Bool.{cond-true}
use Rattle.std.proofs.lemmas.List.Folds.{find_at}
use Rattle.ew_model.specs.declared.event.Event.{Event}
use Rattle.ew_model.specs.Arrival.{Desk, Judgement, Outcome, arrive, at_the_pool, desk_after, desk_of, is_ready, judge_coming, judge_ready, judgement_of, judgements, most_judgements, next_judgement, without_ready}
use Rattle.ew_model.specs.ArrivalLaw.{NoneReady}
use Rattle.ew_model.specs.Ids.{id_eq}
use Rattle.ew_model.specs.Kept.{IsOrderly}
use Rattle.ew_model.specs.Limits.{LimitNumbers}
use Rattle.ew_model.specs.Sets.{Among}
use Rattle.ew_model.specs.Verdicts.{Ruling, first_row, id_rows, later_rows}
use Rattle.ew_model.specs.Verdicts.Ruling.{Unknown, Good}
use Rattle.ew_model.proofs.ArrivalLaws.{ready_found}
use Rattle.ew_model.proofs.KeptLaws.{kept_next}
use Rattle.ew_model.proofs.OperationLaws.{got}
use Rattle.ew_model.proofs.RoundLaws.{then}
use Rattle.ew_model.proofs.SetLaws.{among_joined}
use Rattle.ew_model.proofs.VersionLaws.{find_none}
use Rattle.net_core.specs.Laws.{IsRoomRefusal}
use Rattle.net_core.proofs.Arriving.{IsFrom, IsTurn, by_way}
use Rattle.net_core.proofs.Elsewhere.{WasGood}
use Rattle.net_core.proofs.Judging.{coming_way, ready_way}

-- what is to come stays
still_coming : (r : Ruling) (e : Event) (d : Desk) → d.coming ≡ (desk_after r e d).coming
still_coming Good e d = refl
still_coming (Unknown p) e d = refl
still_coming r e d = refl

-- the ready event that is found first, and the others
less_waits : (held waiting : List Event) (z : Event) → Among z (without_ready held waiting) → Among z waiting
less_waits held [] z m = absurd m
less_waits held (x ∷ waiting) z m = at (is_ready held x) m (λ k. less_waits held waiting z k)
  where
    at : (b : Bool) → Among z (cond b waiting (x ∷ without_ready held waiting)) → (Among z (without_ready held waiting) → Among z waiting) → Among z (x ∷ waiting)
    at true k more = inr k
    at false k more = ⊎_elim (λ q. inl q) (λ n. inr (more n)) k

others_wait : (held waiting : List Event) (e : Event) → find (is_ready held) waiting ≡ Some e → (z : Event) → Among z waiting
    → (z ≡ e) ⊎ Among z (without_ready held waiting)
others_wait held [] e found z m = absurd m
others_wait held (x ∷ waiting) e found z m = at (is_ready held x) found (λ q k. others_wait held waiting e q z k)
  where
    at : (b : Bool) → cond b (Some x) (find (is_ready held) waiting) ≡ Some e
        → (find (is_ready held) waiting ≡ Some e → Among z waiting → (z ≡ e) ⊎ Among z (without_ready held waiting))
        → (z ≡ e) ⊎ Among z (cond b waiting (x ∷ without_ready held waiting))
    at true q more = let same : x ≡ e = cc in ⊎_elim (λ k. inl (k ∙ same)) (λ k. inr k) m
    at false q more = ⊎_elim (λ k. inr (inl k)) (λ k. ⊎_elim (λ n. inl n) (λ n. inr (inr n)) (more q k)) m

module _ (U : Event → Type 0) (one : (f g : Event) → U f → U g → id_eq f.id g.id ≡ true → f ≡ g) (was : (e : Event) → U e → WasGood U e) (limits : LimitNumbers) where
  turn_coming : (d : Desk) (coming : List Event) (j : Judgement) → IsFrom U d → d.coming ≡ coming → (d.is_settling ≡ true → NoneReady d.held d.waiting)
      → judge_coming limits true d coming ≡ Some j → IsOrderly j.desk.held j.desk.waiting → IsTurn U d j
  turn_coming d [] j from c none e kept = let no : ⊥ = cc in absurd no
  turn_coming d (x ∷ coming) j from c none e kept =
      let first = first_row (id_rows d.held d.waiting x ++ later_rows limits true d.held x) in
      let r = at_the_pool limits d.waiting first in
      let rest : Desk = record { held = d.held; waiting = d.waiting; coming = coming; is_settling = true } in
      let given : U x = from.of_coming x (subst (Among x) (sym c) (inl refl)) in
      let same : judgement_of limits rest x first ≡ j = cc in
      let takes : d.coming ≡ x ∷ (desk_after r x rest).coming = c ∙ ap (λ (w : List Event). x ∷ w) (still_coming r x rest) in
      let way = coming_way U one was limits d.held from.of_held from.kept.good d.waiting from.of_waiting x given in
      subst (λ (i : Judgement). IsOrderly i.desk.held i.desk.waiting → IsTurn U d i) same
      (λ k. by_way U d rest x given from refl refl (λ z m. m) (λ z m. inr m) (λ z m. subst (Among z) (sym c) (inr m)) r
      (⊎_elim (λ again. inl (again.0, ⊎_elim (λ m. inl m) (λ m. inr (m, c)) (among_joined d.held d.waiting x again.1))) (λ other. inr other) way)
      (inl (takes, none)) k)
      kept

  turn_ready : (d : Desk) (o : Option Event) (j : Judgement) → IsFrom U d → ((e : Event) → o ≡ Some e → find (is_ready d.held) d.waiting ≡ Some e)
      → (o ≡ None → d.is_settling ≡ true → NoneReady d.held d.waiting)
      → judge_ready limits true d o ≡ Some j → IsOrderly j.desk.held j.desk.waiting → IsTurn U d j
  turn_ready d None j from f none e kept = turn_coming d d.coming j from refl (none refl) e kept
  turn_ready d (Some x) j from f none e kept =
      let less = without_ready d.held d.waiting in
      let rest : Desk = record { held = d.held; waiting = less; coming = d.coming; is_settling = true } in
      let found = f x refl in
      let ready = (ready_found d.held d.waiting x found).0 in
      let first = first_row (later_rows limits true d.held x) in
      let r = at_the_pool limits less first in
      let given : U x = from.of_waiting x (got d.waiting (position_or_len (is_ready d.held) d.waiting) x (sym (find_at (is_ready d.held) d.waiting) ∙ found)) in
      let same : judgement_of limits rest x first ≡ j = cc in
      subst (λ (i : Judgement). IsOrderly i.desk.held i.desk.waiting → IsTurn U d i) same
      (λ k. by_way U d rest x given from refl refl (less_waits d.held d.waiting) (others_wait d.held d.waiting x found) (λ z m. m) r
      (inr (⊎_elim (λ q. inl (ap (at_the_pool limits less) q)) (λ q. inr (inl (ap (at_the_pool limits less) q)))
      (ready_way U one was limits d.held from.of_held from.kept.good x given ready)))
      (inr (still_coming r x rest, ready)) k)
      kept

  -- The next judgement.
  pub turn_next : (d : Desk) (j : Judgement) → IsFrom U d → next_judgement limits true d ≡ Some j → IsTurn U d j
  unfolding next_judgement
  turn_next d j from e = turn_ready d (cond d.is_settling (find (is_ready d.held) d.waiting) None) j from (settled d.is_settling) none e
      (kept_next limits d j from.kept e)
    where
      settled : (b : Bool) (x : Event) → cond b (find (is_ready d.held) d.waiting) None ≡ Some x → find (is_ready d.held) d.waiting ≡ Some x
      settled true x h = h
      settled false x h = let no : ⊥ = cc in absurd no

      none : cond d.is_settling (find (is_ready d.held) d.waiting) None ≡ None → d.is_settling ≡ true → NoneReady d.held d.waiting
      none h settling = find_none (is_ready d.held) d.waiting (sym (cond-true _ _ _ settling) ∙ h)

  -- what judgements leave
  pub record AreTurns (d : Desk) (o : Outcome) : Type 0 where
    pub whence : IsFrom U o.desk
    pub grown : (e : Event) → Among e d.held → Among e o.desk.held
    pub room : AllByRecursion IsRoomRefusal o.answers

  turns_on : (n : ℕ) (d : Desk) (o : Option Judgement) → IsFrom U d → ((j : Judgement) → o ≡ Some j → IsTurn U d j × AreTurns j.desk (judgements limits true n j.desk))
      → AreTurns d (then limits true n d o)
  turns_on n d None from f = record { whence = from; grown = λ e m. m; room = tt }
  turns_on n d (Some j) from f =
      let both = f j refl in
      record { whence = both.1.whence; grown = λ e m. both.1.grown e (both.0.grown e m); room = (both.0.room, both.1.room) }

  pub turns : (n : ℕ) (d : Desk) → IsFrom U d → AreTurns d (judgements limits true n d)
  turns zero d from = record { whence = from; grown = λ e m. m; room = tt }
  turns (suc n) d from =
      turns_on n d (next_judgement limits true d) from (λ j e. let turn = turn_next d j from e in (turn, turns n j.desk turn.whence))

  -- what an arrival leaves
  pub arrival : (held waiting events : List Event) → IsFrom U (desk_of held waiting events) → AreTurns (desk_of held waiting events) (arrive limits held waiting events)
  unfolding arrive
  arrival held waiting events from = turns (most_judgements (desk_of held waiting events)) (desk_of held waiting events) from
