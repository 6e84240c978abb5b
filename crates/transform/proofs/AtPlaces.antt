-- What is known at a place of an admitted history behind a critical cut.
use Rattle.std.proofs.Common.{◌≡◌, ℕ, ◌+◌, ◌-◌, ◌<◌, ◌≤◌, true, false, ◌||◌, List, [], ◌∷◌, ◌++◌, length, take, drop, Some, sym, ap, ◌∙◌, subst, arith}
use Rattle.std.specs.Prelude.{slice_get}
use Rattle.std.proofs.lemmas.List.{take-append-drop}
use Rattle.std.proofs.lemmas.List.Folds.{list_any-append}
use Rattle.std.proofs.lemmas.Option.{slice_get_within}
use Rattle.ew_model.specs.declared.id.Id.{Id}
use Rattle.ew_model.specs.declared.event.Event.{Event}
use Rattle.ew_model.specs.Sets.{Among}
use Rattle.ew_model.specs.Ids.{id_eq, is_among}
use Rattle.ew_model.specs.Ancestors.{is_held, ancestors}
use Rattle.ew_model.specs.Cuts.{is_critical}
use Rattle.ew_model.specs.TouchLaws.{prepared_from}
use Rattle.ew_model.proofs.EntryLaws.{LaidOut}
use Rattle.ew_model.proofs.ListParts.{element_there}
use Rattle.event_graph.specs.Keeping.{IsAdmitted}
use Rattle.event_graph.proofs.Admitted.{admitted_at, laid, let_in}
use Rattle.event_graph.proofs.Tails.{front_after}
use Rattle.transform.proofs.CutFronts.{critical_take, knows_below, take_front}
use Rattle.transform.proofs.Fronts.{prepared_next}
use Rattle.transform.proofs.Sides.{length_front, take_next}

among_left : (ids : List Id) (x y : Id) → is_among ids y ≡ true → is_among (ids ++ x ∷ []) y ≡ true
among_left ids x y h = list_any-append (id_eq y) ids (x ∷ []) ∙ ap (λ b. b || is_among (x ∷ []) y) h

module _ (history : List Event) (admitted : IsAdmitted history) where
  pub laid_front : (n : ℕ) → LaidOut [] (take n history)
  laid_front n = laid (take n history) (admitted_front n)
    where
      admitted_front : (n : ℕ) → IsAdmitted (take n history)
      admitted_front n = front_after [] (take n history) (drop n history) (subst IsAdmitted (sym (take-append-drop n history)) admitted)

  module _ (n : ℕ) (e : Event) (at : slice_get history n ≡ Some e) where
    pub laid_next : LaidOut [] (take n history ++ e ∷ [])
    laid_next = subst (LaidOut []) (take_next history n e at) (laid_front (n + 1))

    pub new_there : is_held (take n history) e.id ≡ false
    new_there = (let_in (take n history) e (admitted_at history n e admitted at)).new

    pub critical_next : (cut : ℕ) → cut ≤ n → is_critical history cut ≡ true → is_critical (take n history ++ e ∷ []) cut ≡ true
    critical_next cut low critical =
        let within : n < length history = slice_get_within history n e at in
        ap (λ (es : List Event). is_critical es cut) (sym (take_next history n e at))
        ∙ critical_take history cut (n + 1) (laid history admitted) (omega (arith, low)) (omega (arith, within)) critical

    -- the event there knows all below the cut
    pub knows_at : (cut : ℕ) → cut ≤ n → is_critical history cut ≡ true → (f : Event) → Among f (take cut history) → is_among (ancestors (take n history) e.parents) f.id ≡ true
    knows_at cut low critical f m =
        knows_below (take n history) e cut laid_next (omega (arith, low, length_front history n e at)) (critical_next cut low critical) f (subst (Among f) (sym (take_front cut n history low)) m)

  -- and so does what is prepared behind the last event before a later place
  pub prepared_below : (n cut : ℕ) → n ≤ length history → cut < n → is_critical history cut ≡ true → (f : Event) → Among f (take cut history) → is_among (prepared_from (take n history) 0) f.id ≡ true
  prepared_below n cut within some critical f m = below (element_there history (n - 1) (omega (arith, within, some)))
    where
      next : n - 1 + 1 ≡ n
      next = omega (arith, some)

      below : (found : (e : Event) × (slice_get history (n - 1) ≡ Some e)) → is_among (prepared_from (take n history) 0) f.id ≡ true
      below found =
          let before = take (n - 1) history in
          let e = found.0 in
          let front : take n history ≡ before ++ e ∷ [] = ap (λ k. take k history) (sym next) ∙ take_next history (n - 1) e found.1 in
          ap (λ ids. is_among ids f.id) (ap (λ (es : List Event). prepared_from es 0) front ∙ prepared_next before 0 e (omega arith) (new_there (n - 1) e found.1))
          ∙ among_left (ancestors before e.parents) e.id f.id (knows_at (n - 1) e found.1 cut (omega (arith, some)) critical f m)
