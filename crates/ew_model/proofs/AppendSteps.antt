-- What is held only grows, by the events that are answered Good.
use Rattle.std.proofs.Common.{◌≡◌, ℕ, zero, suc, Bool, true, false, cond, List, [], ◌∷◌, ◌++◌, map, filter, find, Option, Some, None, refl, sym, ap, ◌∙◌, append_assoc, append-nil}
use Rattle.std.specs.Option.{option_map_or}
use Rattle.ew_model.specs.declared.event.Event.{Event}
use Rattle.ew_model.specs.Limits.{LimitNumbers}
use Rattle.ew_model.specs.Verdicts.{Ruling, first_row, id_rows}
use Rattle.ew_model.specs.Arrival.{Desk, Answer, Judgement, Outcome, with_answer, is_ready, without_ready, at_the_pool, desk_after, judge_coming, judge_ready, next_judgement, judgements, most_judgements, desk_of, arrive}
use Rattle.ew_model.specs.Verdicts.{later_rows}
use Rattle.ew_model.specs.Verdicts.Ruling.{Good}
use Rattle.ew_model.specs.Verdicts.{is_verdict_good}
use Rattle.ew_model.specs.ReachLaws.{ArrivalsAppend}

-- the events that are answered Good
abbrev pub good_events : List Answer → List Event
good_events answers = map (λ (a : Answer). a.event) (filter (λ (a : Answer). is_verdict_good a.ruling) answers)

-- a judgement appends its event where it is answered Good, and nothing else
abbrev Appends : List Event → Option Judgement → Type 0
Appends held None = Unit {0}
Appends held (Some j) = j.desk.held ≡ held ++ good_events (j.answer ∷ [])

after_ruling : (ruling : Ruling) (e : Event) (d : Desk) → (desk_after ruling e d).held ≡ d.held ++ good_events (record { event = e; ruling = ruling } ∷ [])
after_ruling Good e d = refl
after_ruling ruling e d = sym (append-nil d.held)

coming_appends : (limits : LimitNumbers) (in_range : Bool) (d : Desk) (coming : List Event) → Appends d.held (judge_coming limits in_range d coming)
coming_appends limits in_range d [] = tt
coming_appends limits in_range d (e ∷ coming) =
    after_ruling (at_the_pool limits d.waiting (first_row (id_rows d.held d.waiting e ++ later_rows limits in_range d.held e))) e
    (record { held = d.held; waiting = d.waiting; coming = coming; is_settling = true })

ready_appends : (limits : LimitNumbers) (in_range : Bool) (d : Desk) (o : Option Event) → Appends d.held (judge_ready limits in_range d o)
ready_appends limits in_range d None = coming_appends limits in_range d d.coming
ready_appends limits in_range d (Some e) =
    after_ruling (at_the_pool limits (without_ready d.held d.waiting) (first_row (later_rows limits in_range d.held e))) e
    (record { held = d.held; waiting = without_ready d.held d.waiting; coming = d.coming; is_settling = true })

pub next_appends : (limits : LimitNumbers) (in_range : Bool) (d : Desk) → Appends d.held (next_judgement limits in_range d)
unfolding next_judgement
next_appends limits in_range d = ready_appends limits in_range d (cond d.is_settling (find (is_ready d.held) d.waiting) None)

one_before : (a : Answer) (answers : List Answer) → good_events (a ∷ []) ++ good_events answers ≡ good_events (a ∷ answers)
one_before a answers = at (is_verdict_good a.ruling)
  where
    at : (b : Bool) → map (λ (x : Answer). x.event) (cond b (a ∷ []) []) ++ good_events answers ≡ map (λ (x : Answer). x.event) (cond b (a ∷ filter (λ (x : Answer). is_verdict_good x.ruling) answers) (filter (λ (x : Answer). is_verdict_good x.ruling) answers))
    at true = refl
    at false = refl

-- so do any number of judgements, from any desk
pub judgements_append : (limits : LimitNumbers) (in_range : Bool) (n : ℕ) (d : Desk) → (judgements limits in_range n d).desk.held ≡ d.held ++ good_events (judgements limits in_range n d).answers
judgements_append limits in_range zero d = sym (append-nil d.held)
judgements_append limits in_range (suc n) d = at (next_judgement limits in_range d) (next_appends limits in_range d) (λ next. judgements_append limits in_range n next)
  where
    after : Option Judgement → Outcome
    after o = option_map_or (λ (j : Judgement). with_answer j.answer (judgements limits in_range n j.desk)) o (record { desk = d; answers = [] })

    at : (o : Option Judgement) → Appends d.held o → ((next : Desk) → (judgements limits in_range n next).desk.held ≡ next.held ++ good_events (judgements limits in_range n next).answers) → (after o).desk.held ≡ d.held ++ good_events (after o).answers
    at None h f = sym (append-nil d.held)
    at (Some j) h f =
        let more = good_events (judgements limits in_range n j.desk).answers in
        f j.desk
        ∙ ap (λ held. held ++ more) h
        ∙ append_assoc d.held (good_events (j.answer ∷ [])) more
        ∙ ap (λ events. d.held ++ events) (one_before j.answer (judgements limits in_range n j.desk).answers)

pub arrivals_append : ArrivalsAppend
unfolding arrive
arrivals_append limits held waiting events = judgements_append limits true (most_judgements (desk_of held waiting events)) (desk_of held waiting events)
