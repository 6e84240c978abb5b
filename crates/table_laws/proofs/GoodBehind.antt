-- What a history lacks of another, in order, is good behind it.
use Rattle.std.proofs.Common.{◌≡◌, Bool, true, false, not, cond, ◌⊎◌, inl, inr, ⊎_elim, List, [], ◌∷◌, ◌++◌, filter, refl, sym, ap, ◌∙◌, subst, append-nil, append_assoc}
use Rattle.std.specs.List.{list_any}
use Rattle.std.proofs.lemmas.Bool.{false≢true, cases_Bool}
use Rattle.ew_model.specs.declared.event.Event.{Event}
use Rattle.ew_model.specs.Ancestors.{is_held}
use Rattle.ew_model.specs.ArrivalLaw.{OneEach}
use Rattle.ew_model.specs.Events.{event_eq}
use Rattle.ew_model.specs.Ids.{id_eq}
use Rattle.ew_model.specs.Sets.{Among}
use Rattle.ew_model.specs.Verdicts.{IsGood, IsGoodAfter, next_verdict, id_rows, parent_rows, range_rows}
use Rattle.ew_model.specs.Verdicts.Ruling.{Good}
use Rattle.ew_model.proofs.ArrivalRuns.{no_id}
use Rattle.ew_model.proofs.CoverLaws.{event_of, held_of}
use Rattle.ew_model.proofs.GoodLaws.{next_from_good}
use Rattle.ew_model.proofs.KeptLaws.{good-push, no_repeat}
use Rattle.ew_model.proofs.ListTests.{any_from}
use Rattle.ew_model.proofs.MergeSteps.{same_event}
use Rattle.ew_model.proofs.RulingLaws.{next_right, stays}
use Rattle.ew_model.proofs.SameEvents.{event_among}
use Rattle.ew_model.proofs.SetLaws.{among_joined, joined_left, joined_right}
use Rattle.peer_exchange.specs.Laws.{unheld}

-- good events, and good ones behind them
pub good_joined : (before xs ys : List Event) → IsGoodAfter before xs → IsGoodAfter (before ++ xs) ys → IsGoodAfter before (xs ++ ys)
good_joined before [] ys a b = subst (λ (l : List Event). IsGoodAfter l ys) (append-nil before) b
good_joined before (x ∷ xs) ys a b = (a.0, good_joined (before ++ x ∷ []) xs ys a.1 (subst (λ (l : List Event). IsGoodAfter l ys) (sym (append_assoc before (x ∷ []) xs)) b))

-- the first of them, and those behind
pub good_parted : (before xs ys : List Event) → IsGoodAfter before (xs ++ ys) → IsGoodAfter before xs × IsGoodAfter (before ++ xs) ys
good_parted before [] ys h = (tt, subst (λ (l : List Event). IsGoodAfter l ys) (sym (append-nil before)) h)
good_parted before (x ∷ xs) ys h =
    let rest = good_parted (before ++ x ∷ []) xs ys h.1 in
    ((h.0, rest.0), subst (λ (l : List Event). IsGoodAfter l ys) (append_assoc before (x ∷ []) xs) rest.1)

-- what is good in one history is so in another that holds what stood before it, and not its id
good_elsewhere : (held before : List Event) (x : Event) → IsGood held → IsGood before → ((z : Event) → Among z before → Among z held) → next_verdict before x ≡ Good → is_held held x.id ≡ false
    → next_verdict held x ≡ Good
unfolding next_verdict id_rows
good_elsewhere held before x good_held good_before sub good free =
    let right = next_right before x good in
    let apart : is_held (held ++ []) x.id ≡ false = ap (λ (l : List Event). is_held l x.id) (append-nil held) ∙ free in
    no_id (list_any (event_eq x) (held ++ [])) (is_held (held ++ []) x.id) (parent_rows held x ++ range_rows held x) (no_repeat (held ++ []) x apart) apart
    ∙ sym (stays before held x good_before good_held sub right.ready) ∙ right.good

-- what one event more leaves true of the events before
wider : (before held : List Event) (x : Event) → ((z : Event) → Among z before → Among z held) → Among x held → (z : Event) → Among z (before ++ x ∷ []) → Among z held
wider before held x sub here z m = ⊎_elim (λ k. sub z k) (λ k. ⊎_elim (λ q. subst (λ (w : Event). Among w held) (sym q) here) (λ no. absurd no) k) (among_joined before (x ∷ []) z m)

module _ (U : Event → Type 0) (one : (f g : Event) → U f → U g → id_eq f.id g.id ≡ true → f ≡ g) (mine : List Event) where
  abbrev lacks : Event → Bool
  lacks e = not (list_any (event_eq e) mine)

  -- how far the other history was gone through
  record IsAt (held before : List Event) : Type 0 where
    good_held : IsGood held
    good_before : IsGood before
    sub : (z : Event) → Among z before → Among z held
    own : (z : Event) → Among z mine → Among z held
    from : (z : Event) → Among z held → Among z mine ⊎ Among z before
    given : (z : Event) → Among z held → U z

  free_of : (held before : List Event) (x : Event) → IsAt held before → U x → is_held before x.id ≡ false → list_any (event_eq x) mine ≡ false → is_held held x.id ≡ false
  free_of held before x at u new h =
      ⊎_elim
      (λ t.
      let g = event_of held x.id t in
      let same : x ≡ g.0 = one x g.0 u (at.given g.0 g.1) g.2 in
      let here : Among x held = subst (λ (w : Event). Among w held) (sym same) g.1 in
      ⊎_elim
      (λ m. absurd (false≢true (sym h ∙ any_from (event_eq x) mine x m (same_event x))))
      (λ m. absurd (false≢true (sym new ∙ held_of before x m)))
      (at.from x here))
      (λ f. f)
      (cases_Bool (is_held held x.id))

  known_step : (held before : List Event) (x : Event) → IsAt held before → next_verdict before x ≡ Good → Among x held → IsAt held (before ++ x ∷ [])
  unfolding IsGood
  known_step held before x at good here = record {
    good_held = at.good_held;
    good_before = good-push [] before x at.good_before good;
    sub = wider before held x at.sub here;
    own = at.own;
    from = λ z m. ⊎_elim (λ k. inl k) (λ k. inr (joined_left before (x ∷ []) z k)) (at.from z m);
    given = at.given;
  }

  new_step : (held before : List Event) (x : Event) → IsAt held before → U x → next_verdict before x ≡ Good → next_verdict held x ≡ Good → IsAt (held ++ x ∷ []) (before ++ x ∷ [])
  unfolding IsGood
  new_step held before x at u good also =
      let on = λ (z : Event) (m : Among z held). joined_left held (x ∷ []) z m in
      let here = joined_right held (x ∷ []) x (inl refl) in
      record {
        good_held = good-push [] held x at.good_held also;
        good_before = good-push [] before x at.good_before good;
        sub = wider before (held ++ x ∷ []) x (λ z m. on z (at.sub z m)) here;
        own = λ z m. on z (at.own z m);
        from = λ z m. ⊎_elim
            (λ k. ⊎_elim (λ j. inl j) (λ j. inr (joined_left before (x ∷ []) z j)) (at.from z k))
            (λ k. inr (joined_right before (x ∷ []) z k))
            (among_joined held (x ∷ []) z m);
        given = λ z m. ⊎_elim (λ k. at.given z k) (λ k. ⊎_elim (λ q. subst U (sym q) u) (λ no. absurd no) k) (among_joined held (x ∷ []) z m);
      }

  good_from : (held before later : List Event) → IsAt held before → IsGoodAfter before later → ((z : Event) → Among z later → U z) → IsGoodAfter held (filter lacks later)
  good_from held before [] at after u = tt
  good_from held before (x ∷ later) at after u =
      ⊎_elim
      (λ h. subst (λ (b : Bool). IsGoodAfter held (cond (not b) (x ∷ filter lacks later) (filter lacks later))) (sym h)
      (good_from held (before ++ x ∷ []) later (known_step held before x at after.0 (at.own x (event_among x mine h))) after.1 (λ z m. u z (inr m))))
      (λ h.
      let free = free_of held before x at (u x (inl refl)) (next_from_good before x after.0).new h in
      let also = good_elsewhere held before x at.good_held at.good_before at.sub after.0 free in
      subst (λ (b : Bool). IsGoodAfter held (cond (not b) (x ∷ filter lacks later) (filter lacks later))) (sym h)
      (also, good_from (held ++ x ∷ []) (before ++ x ∷ []) later (new_step held before x at (u x (inl refl)) after.0 also) after.1 (λ z m. u z (inr m))))
      (cases_Bool (list_any (event_eq x) mine))

pub good_behind : (events others : List Event) → IsGood events → IsGood others → OneEach (events ++ others) → IsGoodAfter events (unheld others events)
unfolding IsGood
good_behind events others good also one =
    good_from (λ (z : Event). Among z (events ++ others)) one events events [] others
    (record {
      good_held = good;
      good_before = tt;
      sub = λ z no. absurd no;
      own = λ z m. m;
      from = λ z m. inl m;
      given = λ z m. joined_left events others z m;
    })
    also (λ z m. joined_right events others z m)
