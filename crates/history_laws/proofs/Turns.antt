-- A judgement takes the first of the events to come, or one that waited.
use Rattle.std.proofs.Common.{◌≡◌, ◌⊎◌, inl, inr, Bool, true, false, cond, List, [], ◌∷◌, ◌++◌, map, Option, Some, None, find, refl, sym, ap, ◌∙◌, subst}
use Rattle.std.specs.List.Sorted.{IsPermutation}
use Rattle.std.proofs.lemmas.List.{append-nil}
use Rattle.std.proofs.lemmas.List.Sorted.{IsPermutation-refl, IsPermutation-cons, IsPermutation-middle, IsPermutation-trans}
use Rattle.ew_model.specs.declared.event.Event.{Event}
use Rattle.ew_model.specs.Limits.{LimitNumbers}
use Rattle.ew_model.specs.Verdicts.{Ruling, first_row, id_rows, later_rows}
use Rattle.ew_model.specs.Verdicts.Ruling.{Unknown}
use Rattle.ew_model.specs.Arrival.{Desk, Answer, Judgement, is_ready, without_ready, at_the_pool, desk_after, judgement_of, judge_coming, judge_ready, next_judgement}
use Rattle.ew_model.proofs.ArrivalLaws.{is_unknown, ready_known, pool_known, ready_found}
use Rattle.history_laws.specs.Accounts.{is_told_to_wait, told_to_wait}

-- the first event to come was judged; it waits where it was told to
pub record TakesComing (d : Desk) (j : Judgement) : Type 0 where
  pub coming : d.coming ≡ j.answer.event ∷ j.desk.coming
  pub waiting : j.desk.waiting ≡ d.waiting ++ told_to_wait (j.answer ∷ [])

-- an event that waited was judged, and waits no longer
pub record TakesWaiting (d : Desk) (j : Judgement) : Type 0 where
  pub coming : d.coming ≡ j.desk.coming
  pub waiting : IsPermutation d.waiting (j.answer.event ∷ j.desk.waiting)
  pub known : is_told_to_wait j.answer.ruling ≡ false

-- what is to come, and what waits, after a ruling
after : (r : Ruling) (e : Event) (d : Desk) → ((desk_after r e d).coming ≡ d.coming) × ((desk_after r e d).waiting ≡ d.waiting ++ told_to_wait (record { event = e; ruling = r } ∷ []))
after (Unknown p) e d = (refl, refl)
after r e d = (refl, sym (append-nil d.waiting))

not_told : (r : Ruling) → is_unknown r ≡ false → is_told_to_wait r ≡ false
not_told (Unknown p) h = h
not_told r h = refl

pub told_alone : (a : Answer) (t : Bool) → is_told_to_wait a.ruling ≡ t → told_to_wait (a ∷ []) ≡ map (λ (b : Answer). b.event) (cond t (a ∷ []) [])
told_alone a t h = ap (λ (u : Bool). map (λ (b : Answer). b.event) (cond u (a ∷ []) [])) h

-- the ready event, and those without it, are those that waited
found_at : (held : List Event) (x e : Event) (waiting : List Event) (b : Bool) → cond b (Some x) (find (is_ready held) waiting) ≡ Some e
    → (find (is_ready held) waiting ≡ Some e → IsPermutation waiting (e ∷ without_ready held waiting))
    → IsPermutation (x ∷ waiting) (e ∷ cond b waiting (x ∷ without_ready held waiting))
found_at held x e waiting true found f =
    let same : x ≡ e = cc in
    subst (λ (y : Event). IsPermutation (x ∷ waiting) (y ∷ waiting)) same (IsPermutation-refl (x ∷ waiting))
found_at held x e waiting false found f =
    let less = without_ready held waiting in
    IsPermutation-trans (x ∷ waiting) (x ∷ e ∷ less) (e ∷ x ∷ less)
    (IsPermutation-cons x waiting (e ∷ less) (f found))
    (IsPermutation-middle (x ∷ []) e less)

found : (held : List Event) (waiting : List Event) (e : Event) → find (is_ready held) waiting ≡ Some e → IsPermutation waiting (e ∷ without_ready held waiting)
found held [] e h = let no : ⊥ = cc in absurd no
found held (x ∷ waiting) e h = found_at held x e waiting (is_ready held x) h (found held waiting e)

takes_coming : (limits : LimitNumbers) (b : Bool) (d : Desk) (coming : List Event) (j : Judgement) → d.coming ≡ coming → judge_coming limits b d coming ≡ Some j → TakesComing d j
takes_coming limits b d [] j is e = let no : ⊥ = cc in absurd no
takes_coming limits b d (x ∷ coming) j is e =
    let rest : Desk = record { held = d.held; waiting = d.waiting; coming = coming; is_settling = true } in
    let first = first_row (id_rows d.held d.waiting x ++ later_rows limits b d.held x) in
    let same : judgement_of limits rest x first ≡ j = cc in
    subst (λ (k : Judgement). TakesComing d k) same (
    record {
      coming = is ∙ ap (λ (w : List Event). x ∷ w) (sym (after (at_the_pool limits d.waiting first) x rest).0);
      waiting = (after (at_the_pool limits d.waiting first) x rest).1;
    }
    )

takes_waiting : (limits : LimitNumbers) (b : Bool) (d : Desk) (x : Event) (j : Judgement) → find (is_ready d.held) d.waiting ≡ Some x → judge_ready limits b d (Some x) ≡ Some j → TakesWaiting d j
takes_waiting limits b d x j h e =
    let less = without_ready d.held d.waiting in
    let rest : Desk = record { held = d.held; waiting = less; coming = d.coming; is_settling = true } in
    let first = first_row (later_rows limits b d.held x) in
    let ruling = at_the_pool limits less first in
    let ready = ready_found d.held d.waiting x h in
    let known = not_told ruling (pool_known limits less first (ready_known limits b d.held x ready.0)) in
    let waits : (desk_after ruling x rest).waiting ≡ less =
    (after ruling x rest).1 ∙ ap (λ (w : List Event). less ++ w) (told_alone (record { event = x; ruling = ruling }) false known) ∙ append-nil less in
    let same : judgement_of limits rest x first ≡ j = cc in
    subst (λ (k : Judgement). TakesWaiting d k) same (
    record {
      coming = sym (after ruling x rest).0;
      waiting = subst (λ (w : List Event). IsPermutation d.waiting (x ∷ w)) (sym waits) (found d.held d.waiting x h);
      known = known;
    }
    )

takes : (limits : LimitNumbers) (b : Bool) (d : Desk) (o : Option Event) (j : Judgement) → ((x : Event) → o ≡ Some x → find (is_ready d.held) d.waiting ≡ Some x) → judge_ready limits b d o ≡ Some j → TakesComing d j ⊎ TakesWaiting d j
takes limits b d None j f e = inl (takes_coming limits b d d.coming j refl e)
takes limits b d (Some x) j f e = inr (takes_waiting limits b d x j (f x refl) e)

-- each judgement takes one event
pub takes_one : (limits : LimitNumbers) (b : Bool) (d : Desk) (j : Judgement) → next_judgement limits b d ≡ Some j → TakesComing d j ⊎ TakesWaiting d j
unfolding next_judgement
takes_one limits b d j e = takes limits b d (cond d.is_settling (find (is_ready d.held) d.waiting) None) j (settled d.is_settling) e
  where
    settled : (s : Bool) (x : Event) → cond s (find (is_ready d.held) d.waiting) None ≡ Some x → find (is_ready d.held) d.waiting ≡ Some x
    settled true x h = h
    settled false x h = let no : ⊥ = cc in absurd no
