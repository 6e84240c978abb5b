-- Judging at a desk, and at the desk to which some of the events whose ids are held don't come.
use Rattle.std.proofs.Common.{◌≡◌, ◌⊎◌, inl, inr, Bool, true, false, cond, not, ◌||◌, List, [], ◌∷◌, ◌++◌, find, Option, Some, None, refl, sym, ap, ◌∙◌, subst}
use Rattle.std.specs.Bool.{then_some}
use Rattle.std.specs.List.{list_any, AllByRecursion}
use Rattle.std.proofs.lemmas.Bool.{false≢true}
use Rattle.std.proofs.lemmas.List.Folds.{list_any-append}
use Rattle.ew_model.specs.declared.id.Id.{Id}
use Rattle.ew_model.specs.declared.event.Event.{Event}
use Rattle.ew_model.specs.Ancestors.{is_held}
use Rattle.ew_model.specs.Arrival.{Desk, Judgement, is_ready, without_ready, at_the_pool, desk_after, judgement_of, judge_coming, judge_ready, next_judgement}
use Rattle.ew_model.specs.ArrivalLaw.{NoneReady}
use Rattle.ew_model.specs.Events.{event_eq}
use Rattle.ew_model.specs.Limits.{LimitNumbers}
use Rattle.ew_model.specs.Rounds.{is_out_of_range}
use Rattle.ew_model.specs.Verdicts.{Ruling, first_row, id_rows, later_rows, verdict}
use Rattle.ew_model.specs.Verdicts.Ruling.{Repeat, Clash, Unknown, Good}
use Rattle.ew_model.proofs.KeptLaws.{held_joined}
use Rattle.ew_model.proofs.MergeSteps.{repeat_row}
use Rattle.ew_model.proofs.RoundSteps.{grown_next}
use Rattle.ew_model.proofs.StopLaws.{coming_stays}
use Rattle.history_laws.specs.Repeats.{without_held}

-- the desk to which the events with ids of the old history don't come, and where waiting events that are ready come first
abbrev pub thinned : List Event → Desk → Desk
thinned old d = record { held = d.held; waiting = d.waiting; coming = without_held old d.coming; is_settling = true }

-- the old history is held, and no waiting event is ready where it isn't asked for
pub record IsCalm (old : List Event) (d : Desk) : Type 0 where
  pub more : (x : Id) → is_held old x ≡ true → is_held d.held x ≡ true
  pub still : d.is_settling ≡ false → NoneReady d.held d.waiting

-- nothing is left to judge at either desk
pub record Ends (limits : LimitNumbers) (b : Bool) (old : List Event) (d : Desk) : Type 0 where
  pub here : next_judgement limits b d ≡ None
  pub there : next_judgement limits b (thinned old d) ≡ None

-- an event is judged that doesn't come to the other desk, and nothing is changed
pub record Skips (limits : LimitNumbers) (b : Bool) (old : List Event) (d : Desk) : Type 0 where
  pub judgement : Judgement
  pub event : Event
  pub here : next_judgement limits b d ≡ Some judgement
  pub in_range : is_out_of_range judgement.answer.ruling ≡ false
  pub same : thinned old judgement.desk ≡ thinned old d
  pub calm : IsCalm old judgement.desk
  pub first : d.coming ≡ event ∷ judgement.desk.coming
  pub known : is_held old event.id ≡ true
  pub repeat : list_any (event_eq event) d.held ≡ true → judgement.answer.ruling ≡ Repeat

-- no event was taken from those to come, or the first, whose id the old history doesn't hold
abbrev pub TakesNew : List Event → List Event → List Event → Type 0
TakesNew old before after = (before ≡ after) ⊎ ((e : Event) × (before ≡ e ∷ after) × (is_held old e.id ≡ false))

-- the same is judged at both
pub record Goes (limits : LimitNumbers) (b : Bool) (old : List Event) (d : Desk) : Type 0 where
  pub judgement : Judgement
  pub here : next_judgement limits b d ≡ Some judgement
  pub there : next_judgement limits b (thinned old d) ≡ Some (record { desk = thinned old judgement.desk; answer = judgement.answer })
  pub calm : IsCalm old judgement.desk
  pub took : TakesNew old d.coming judgement.desk.coming

abbrev pub Step : LimitNumbers → Bool → List Event → Desk → Type 0
Step limits b old d = Ends limits b old d ⊎ (Skips limits b old d ⊎ Goes limits b old d)

-- a ruling does the same to both desks
same_after : (old : List Event) (r : Ruling) (e : Event) (d : Desk) → desk_after r e (thinned old d) ≡ thinned old (desk_after r e d)
same_after old Good e d = refl
same_after old (Unknown p) e d = refl
same_after old r e d = refl

settles : (r : Ruling) (e : Event) (d : Desk) → (desk_after r e d).is_settling ≡ true
settles Good e d = refl
settles (Unknown p) e d = refl
settles r e d = refl

-- what is calm stays so
calm_next : (limits : LimitNumbers) (b : Bool) (old : List Event) (d : Desk) (j : Judgement) → IsCalm old d → next_judgement limits b d ≡ Some j
    → j.desk.is_settling ≡ true → IsCalm old j.desk
calm_next limits b old d j calm next settling =
    let grown = grown_next limits b d j next in
    record {
      more = λ x h. ap (λ held. is_held held x) grown.1 ∙ held_joined d.held grown.0 x ∙ ap (λ t. t || is_held grown.0 x) (calm.more x h);
      still = λ no. absurd (false≢true (sym no ∙ settling));
    }

goes_on : (limits : LimitNumbers) (b : Bool) (old : List Event) (d rest : Desk) (e : Event) (r : Ruling) → IsCalm old d
    → next_judgement limits b d ≡ Some (judgement_of limits rest e r)
    → next_judgement limits b (thinned old d) ≡ Some (judgement_of limits (thinned old rest) e r) → TakesNew old d.coming rest.coming → Goes limits b old d
goes_on limits b old d rest e r calm here there took =
    let final = at_the_pool limits rest.waiting r in
    let j : Judgement = judgement_of limits rest e r in
    record {
      judgement = j;
      here = here;
      there = there ∙ ap (λ (desk : Desk). Some (record { desk = desk; answer = j.answer })) (same_after old final e rest);
      calm = calm_next limits b old d j calm here (settles final e rest);
      took = subst (TakesNew old d.coming) (sym (coming_stays final e rest)) took;
    }

-- an event whose id is held is a repeat or a clash
known_id : (limits : LimitNumbers) (b : Bool) (held waiting : List Event) (e : Event) → is_held held e.id ≡ true
    → (verdict limits b held waiting e ≡ Repeat) ⊎ (verdict limits b held waiting e ≡ Clash)
unfolding id_rows
known_id limits b held waiting e h = at (list_any (event_eq e) (held ++ waiting)) (is_held (held ++ waiting) e.id) (held_joined held waiting e.id ∙ ap (λ t. t || is_held waiting e.id) h)
  where
    at : (s t : Bool) → t ≡ true
        → (first_row (then_some s Repeat ∷ then_some t Clash ∷ later_rows limits b held e) ≡ Repeat) ⊎ (first_row (then_some s Repeat ∷ then_some t Clash ∷ later_rows limits b held e) ≡ Clash)
    at true t q = inl refl
    at false true q = inr refl
    at false false q = absurd (false≢true q)

-- an event that is held is a repeat
known_event : (limits : LimitNumbers) (b : Bool) (held waiting : List Event) (e : Event) → list_any (event_eq e) held ≡ true → verdict limits b held waiting e ≡ Repeat
unfolding id_rows
known_event limits b held waiting e h =
    repeat_row (list_any (event_eq e) (held ++ waiting)) (is_held (held ++ waiting) e.id) (later_rows limits b held e)
    (list_any-append (event_eq e) held waiting ∙ ap (λ t. t || list_any (event_eq e) waiting) h)

pub without_one : (old : List Event) (e : Event) (events : List Event) (b : Bool) → is_held old e.id ≡ b
    → without_held old (e ∷ events) ≡ cond b (without_held old events) (e ∷ without_held old events)
without_one old e events true h = ap (λ t. cond (not t) (e ∷ without_held old events) (without_held old events)) h
without_one old e events false h = ap (λ t. cond (not t) (e ∷ without_held old events) (without_held old events)) h

skipped : (limits : LimitNumbers) (b : Bool) (old : List Event) (d rest : Desk) (e : Event) (r : Ruling) → IsCalm old d
    → next_judgement limits b d ≡ Some (judgement_of limits rest e r) → (r ≡ Repeat) ⊎ (r ≡ Clash) → (list_any (event_eq e) d.held ≡ true → r ≡ Repeat)
    → thinned old rest ≡ thinned old d → d.coming ≡ e ∷ rest.coming → is_held old e.id ≡ true → Skips limits b old d
skipped limits b old d rest e r calm here (inl is) repeat same first known =
    let next = here ∙ ap (λ (s : Ruling). Some (judgement_of limits rest e s)) is in
    record {
      judgement = judgement_of limits rest e Repeat;
      event = e;
      here = next;
      in_range = refl;
      same = same;
      calm = calm_next limits b old d (judgement_of limits rest e Repeat) calm next refl;
      first = first;
      known = known;
      repeat = λ h. refl;
    }
skipped limits b old d rest e r calm here (inr is) repeat same first known =
    let next = here ∙ ap (λ (s : Ruling). Some (judgement_of limits rest e s)) is in
    record {
      judgement = judgement_of limits rest e Clash;
      event = e;
      here = next;
      in_range = refl;
      same = same;
      calm = calm_next limits b old d (judgement_of limits rest e Clash) calm next refl;
      first = first;
      known = known;
      repeat = λ h. sym is ∙ repeat h;
    }

-- the first of the events to come
step_coming : (limits : LimitNumbers) (b : Bool) (old : List Event) (d : Desk) (coming : List Event) → IsCalm old d → d.coming ≡ coming
    → next_judgement limits b d ≡ judge_coming limits b d coming
    → next_judgement limits b (thinned old d) ≡ judge_coming limits b (thinned old d) (without_held old coming) → Step limits b old d
step_coming limits b old d [] calm is here there = inl (record { here = here; there = there })
step_coming limits b old d (e ∷ coming) calm is here there = at (is_held old e.id) refl
  where
    rest : Desk
    rest = record { held = d.held; waiting = d.waiting; coming = coming; is_settling = true }

    at : (t : Bool) → is_held old e.id ≡ t → Step limits b old d
    at true h =
        let same : without_held old coming ≡ without_held old d.coming = sym (ap (without_held old) is ∙ without_one old e coming true h) in
        inr (inl (skipped limits b old d rest e (verdict limits b d.held d.waiting e) calm here (known_id limits b d.held d.waiting e (calm.more e.id h))
        (known_event limits b d.held d.waiting e)
        (λ i. record { held = d.held; waiting = d.waiting; coming = same i; is_settling = true }) is h))
    at false h =
        inr (inr (goes_on limits b old d rest e (verdict limits b d.held d.waiting e) calm here
        (there ∙ ap (judge_coming limits b (thinned old d)) (without_one old e coming false h)) (inr (e, is, h))))

step_ready : (limits : LimitNumbers) (b : Bool) (old : List Event) (d : Desk) (o : Option Event) → IsCalm old d
    → next_judgement limits b d ≡ judge_ready limits b d o
    → next_judgement limits b (thinned old d) ≡ judge_ready limits b (thinned old d) o → Step limits b old d
step_ready limits b old d None calm here there = step_coming limits b old d d.coming calm refl here there
step_ready limits b old d (Some e) calm here there =
    inr (inr (goes_on limits b old d (record { held = d.held; waiting = without_ready d.held d.waiting; coming = d.coming; is_settling = true }) e (first_row (later_rows limits b d.held e)) calm here there (inl refl)))

none_found : (p : Event → Bool) (xs : List Event) → AllByRecursion (λ (x : Event). p x ≡ false) xs → find p xs ≡ None
none_found p [] a = refl
none_found p (x ∷ xs) (h, hs) = ap (λ t. cond t (Some x) (find p xs)) h ∙ none_found p xs hs

-- each judgement is made at both desks, or changes nothing
pub step : (limits : LimitNumbers) (b : Bool) (old : List Event) (d : Desk) → IsCalm old d → Step limits b old d
unfolding next_judgement
step limits b old d calm = step_ready limits b old d found calm (ap (judge_ready limits b d) (asked d.is_settling refl)) refl
  where
    found : Option Event
    found = find (is_ready d.held) d.waiting

    asked : (s : Bool) → d.is_settling ≡ s → cond d.is_settling found None ≡ found
    asked true h = ap (λ t. cond t found None) h
    asked false h = ap (λ t. cond t found None) h ∙ sym (none_found (is_ready d.held) d.waiting (calm.still h))
