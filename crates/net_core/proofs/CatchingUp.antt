-- Events that come in order are all held at last, where the history isn't full.
use Rattle.std.proofs.Common.{◌≡◌, ℕ, zero, suc, ◌≤◌, true, false, ◌⊎◌, inl, inr, ⊎_elim, List, [], ◌∷◌, ◌++◌, find, length, Option, Some, None, refl, sym, ap, ◌∙◌, subst, cond, arith}
use Rattle.std.proofs.lemmas.Bool.{cases_Bool, cond-true, false≢true}
use Rattle.ew_model.specs.declared.event.Event.{Event}
use Rattle.ew_model.specs.declared.id.Id.{Id}
use Rattle.ew_model.specs.Ancestors.{is_held}
use Rattle.ew_model.specs.Arrival.{Desk, Judgement, arrive, desk_of, is_ready, judgements, most_judgements, next_judgement}
use Rattle.ew_model.specs.ArrivalLaw.{NoneReady}
use Rattle.ew_model.specs.Ids.{id_eq}
use Rattle.ew_model.specs.Limits.{LimitNumbers}
use Rattle.ew_model.specs.Sets.{Among}
use Rattle.ew_model.specs.Verdicts.Ruling.{GraphFull}
use Rattle.ew_model.proofs.ArrivalLaws.{judgements_end, next_less, nothing_left}
use Rattle.ew_model.proofs.CoverLaws.{ids_within, pass_all}
use Rattle.ew_model.proofs.RoundLaws.{then}
use Rattle.ew_model.proofs.RulingLaws.{ready_more}
use Rattle.ew_model.proofs.SetLaws.{among_joined, joined_left, joined_right}
use Rattle.ew_model.proofs.SortingLaws.{all_at}
use Rattle.ew_model.proofs.VersionLaws.{find_none}
use Rattle.net_core.specs.Laws.{HeldAll, is_graph_full}
use Rattle.net_core.proofs.Arrivals.{turn_next}
use Rattle.net_core.proofs.Arriving.{IsFrom, IsTurn}
use Rattle.net_core.proofs.Elsewhere.{WasGood}

-- the parents of each event are known, or come before it
abbrev pub AreOrdered : List Event → List Event → Type 0
AreOrdered known [] = Unit {0}
AreOrdered known (e ∷ events) = ((x : Id) → Among x e.parents → is_held known x ≡ true) × AreOrdered (known ++ e ∷ []) events

-- a known event is held, or it waits and is ready
abbrev IsCaught : Desk → Event → Type 0
IsCaught d e = Among e d.held ⊎ (Among e d.waiting × (is_ready d.held e ≡ true))

-- nothing is left to judge
none_left : (limits : LimitNumbers) (d : Desk) → next_judgement limits true d ≡ None → (d.coming ≡ []) × (d.is_settling ≡ true → NoneReady d.held d.waiting)
unfolding next_judgement
none_left limits d h =
    let parts = nothing_left limits d (cond d.is_settling (find (is_ready d.held) d.waiting) None) d.coming refl h in
    (parts.1, λ settling. find_none (is_ready d.held) d.waiting (sym (cond-true _ _ _ settling) ∙ parts.0))

-- the known events are held where none that waits is ready
known_held : (d : Desk) (known : List Event) → ((e : Event) → Among e known → IsCaught d e) → (d.is_settling ≡ false → (e : Event) → Among e known → Among e d.held)
    → (d.is_settling ≡ true → NoneReady d.held d.waiting) → (e : Event) → Among e known → Among e d.held
known_held d known caught direct none e m = at (cases_Bool d.is_settling)
  where
    waits : NoneReady d.held d.waiting → IsCaught d e → Among e d.held
    waits nr (inl h) = h
    waits nr (inr w) = absurd (false≢true (sym (all_at (λ (z : Event). is_ready d.held z ≡ false) d.waiting e nr w.0) ∙ w.1))

    at : (d.is_settling ≡ true) ⊎ (d.is_settling ≡ false) → Among e d.held
    at (inl settling) = waits (none settling) (caught e m)
    at (inr first) = direct first e m

longer : (e : Event) (xs : List Event) → xs ≡ e ∷ xs → ⊥
longer e xs h = let long : length xs ≡ suc (length xs) = ap length h in omega (arith, long)

module _ (U : Event → Type 0) (one : (f g : Event) → U f → U g → id_eq f.id g.id ≡ true → f ≡ g) (was : (e : Event) → U e → WasGood U e) (limits : LimitNumbers) where
  -- an event that came is held, or it waits and is ready
  came : (d : Desk) (j : Judgement) (known : List Event) → IsTurn U d j → is_graph_full j.answer.ruling ≡ false → ((e : Event) → Among e known → Among e d.held)
      → ((x : Id) → Among x j.answer.event.parents → is_held known x ≡ true) → IsCaught j.desk j.answer.event
  came d j known turn room held parents = at turn.ends
    where
      e : Event
      e = j.answer.event

      ready : is_ready d.held e ≡ true
      ready = pass_all (is_held d.held) e.parents (λ x m. ids_within known d.held held x (parents x m))

      at : (j.answer.ruling ≡ GraphFull) ⊎ (Among e j.desk.held ⊎ ((Among e j.desk.waiting × (d.coming ≡ e ∷ j.desk.coming))
          ⊎ (is_ready d.held e ≡ false))) → IsCaught j.desk e
      at (inl full) = absurd (false≢true (sym room ∙ ap is_graph_full full))
      at (inr (inl h)) = inl h
      at (inr (inr (inl w))) = inr (w.0, ready_more d.held j.desk.held e turn.grown ready)
      at (inr (inr (inr late))) = absurd (false≢true (sym late ∙ ready))

  -- an event that waited is held
  settled : (d : Desk) (j : Judgement) → IsTurn U d j → is_graph_full j.answer.ruling ≡ false → d.coming ≡ j.desk.coming → is_ready d.held j.answer.event ≡ true
      → Among j.answer.event j.desk.held
  settled d j turn room coming ready = at turn.ends
    where
      e : Event
      e = j.answer.event

      at : (j.answer.ruling ≡ GraphFull) ⊎ (Among e j.desk.held ⊎ ((Among e j.desk.waiting × (d.coming ≡ e ∷ j.desk.coming))
          ⊎ (is_ready d.held e ≡ false))) → Among e j.desk.held
      at (inl full) = absurd (false≢true (sym room ∙ ap is_graph_full full))
      at (inr (inl h)) = h
      at (inr (inr (inl w))) = absurd (longer e j.desk.coming (sym coming ∙ w.1))
      at (inr (inr (inr late))) = absurd (false≢true (sym late ∙ ready))

  stays_caught : (d : Desk) (j : Judgement) → IsTurn U d j → ((q : Event) → q ≡ j.answer.event → Among q d.waiting → Among q j.desk.held) → (e : Event)
      → IsCaught d e → IsCaught j.desk e
  stays_caught d j turn own e (inl h) = inl (turn.grown e h)
  stays_caught d j turn own e (inr w) = ⊎_elim (λ q. inl (own e q w.0)) (λ k. inr (k, ready_more d.held j.desk.held e turn.grown w.1)) (turn.left e w.0)

  finished : (d : Desk) (known : List Event) → ((e : Event) → Among e known → IsCaught d e) → (d.is_settling ≡ false → (e : Event) → Among e known → Among e d.held)
      → next_judgement limits true d ≡ None → (e : Event) → Among e known ⊎ Among e d.coming → Among e d.held
  finished d known caught direct none e (inl m) = known_held d known caught direct (none_left limits d none).1 e m
  finished d known caught direct none e (inr m) = absurd (subst (Among e) (none_left limits d none).0 m)

  pushed_cases : (known : List Event) (x e : Event) → Among e (known ++ x ∷ []) → Among e known ⊎ (e ≡ x)
  pushed_cases known x e m = ⊎_elim (λ k. inl k) (λ k. ⊎_elim (λ q. inr q) (λ no. absurd no) k) (among_joined known (x ∷ []) e m)

  -- one judgement more
  abbrev Goes : ℕ → Type 0
  Goes n = (d : Desk) (known : List Event) → most_judgements d ≤ n → IsFrom U d → AreOrdered known d.coming → ((e : Event) → Among e known → IsCaught d e)
      → (d.is_settling ≡ false → (e : Event) → Among e known → Among e d.held) → HeldAll (judgements limits true n d).answers
      → (e : Event) → Among e known ⊎ Among e d.coming → Among e (judgements limits true n d).desk.held

  never : (j : Judgement) (known : List Event) → j.desk.is_settling ≡ true → j.desk.is_settling ≡ false → (e : Event) → Among e known → Among e j.desk.held
  never j known settling first e m = absurd (false≢true (sym first ∙ settling))

  by_turn : (n : ℕ) → Goes n → (d : Desk) (known : List Event) (j : Judgement) → IsTurn U d j → most_judgements j.desk ≤ n → AreOrdered known d.coming
      → ((e : Event) → Among e known → IsCaught d e) → (d.is_settling ≡ false → (e : Event) → Among e known → Among e d.held)
      → (is_graph_full j.answer.ruling ≡ false) × HeldAll (judgements limits true n j.desk).answers → (e : Event) → Among e known ⊎ Among e d.coming → Among e
      (judgements limits true n j.desk).desk.held
  by_turn n goes d known j turn most ordered caught direct room e m = at turn.takes
    where
      at : ((d.coming ≡ j.answer.event ∷ j.desk.coming) × (d.is_settling ≡ true → NoneReady d.held d.waiting))
          ⊎ ((d.coming ≡ j.desk.coming) × (is_ready d.held j.answer.event ≡ true))
          → Among e (judgements limits true n j.desk).desk.held
      at (inl takes) =
          let x = j.answer.event in
          let held = known_held d known caught direct takes.1 in
          let order : AreOrdered known (x ∷ j.desk.coming) = subst (AreOrdered known) takes.0 ordered in
          let here = came d j known turn room.0 held order.0 in
          goes j.desk (known ++ x ∷ []) most turn.whence order.1
          (λ z k. ⊎_elim (λ old. inl (turn.grown z (held z old))) (λ q. subst (IsCaught j.desk) (sym q) here) (pushed_cases known x z k))
          (never j (known ++ x ∷ []) turn.settling) room.1 e
          (⊎_elim (λ k. inl (joined_left known (x ∷ []) e k)) (λ k. ⊎_elim (λ q. inl (joined_right known (x ∷ []) e (inl q))) (λ i. inr i) (subst (Among e) takes.0 k)) m)
      at (inr takes) =
          let own = settled d j turn room.0 takes.0 takes.1 in
          goes j.desk known most turn.whence (subst (AreOrdered known) takes.0 ordered)
          (λ z k. stays_caught d j turn (λ q same w. subst (λ y. Among y j.desk.held) (sym same) own) z (caught z k))
          (never j known turn.settling) room.1 e (⊎_elim (λ k. inl k) (λ k. inr (subst (Among e) takes.0 k)) m)

  by_next : (n : ℕ) (d : Desk) (known : List Event) (o : Option Judgement) → next_judgement limits true d ≡ o → IsFrom U d → Goes n
      → most_judgements d ≤ suc n → AreOrdered known d.coming
      → ((e : Event) → Among e known → IsCaught d e) → (d.is_settling ≡ false → (e : Event) → Among e known → Among e d.held) → HeldAll (then limits true n d o).answers
      → (e : Event) → Among e known ⊎ Among e d.coming → Among e (then limits true n d o).desk.held
  by_next n d known (Some j) is from goes most ordered caught direct room e m =
      let less = next_less limits true d j is in
      by_turn n goes d known j (turn_next U one was limits d j from is) (omega (arith, less, most)) ordered caught direct room e m
  by_next n d known None is from goes most ordered caught direct room e m = finished d known caught direct is e m

  caught_up : (n : ℕ) → Goes n
  caught_up zero d known most from ordered caught direct room e m = finished d known caught direct (judgements_end limits true zero d most) e m
  caught_up (suc n) d known most from ordered caught direct room e m =
      by_next n d known (next_judgement limits true d) refl from (caught_up n) most ordered caught direct room e m

  -- a list of received events
  pub all_caught : (held waiting events known : List Event) → IsFrom U (desk_of held waiting events) → AreOrdered known events
      → ((e : Event) → Among e known → Among e held)
      → HeldAll (arrive limits held waiting events).answers → (e : Event) → Among e known ⊎ Among e events → Among e (arrive limits held waiting events).desk.held
  unfolding arrive
  all_caught held waiting events known from ordered inside room e m =
      let d = desk_of held waiting events in
      caught_up (most_judgements d) d known (omega arith) from ordered (λ z k. inl (inside z k)) (λ first z k. inside z k) room e m
