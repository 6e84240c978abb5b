use Rattle.std.proofs.Common.{◌≡◌, ◌∙◌, ◌+◌, false, [], Option, option_map, get_or, length, drop, nat_le, refl, sym, ap, subst}
use Rattle.std.proofs.lemmas.List.{drop_all}
use Rattle.std.specs.Cow.{cow_value}
use Rattle.std.specs.List.{ItemBy}
use Rattle.std.specs.declared.borrow.Cow.{Cow}
use Rattle.ew_model.specs.declared.event.Event.{Event}
use Rattle.ew_model.specs.Verdicts.{verdict}
use Rattle.waiting_pool.specs.Waiting.{events_of}
use Rattle.replica.specs.Counting.{Counted, more_judged, with_more}
use Rattle.replica.specs.Desks.{answer_by, desk_as, held_by, known_at, pooled, refused_at, repeats_at, waiting_by, with_known}
use Rattle.replica.proofs.Steps.{judges, coming_next, coming_none, next_coming, same_desk}
use Rattle.replica.proofs.judging.judge_received.Goals as goal

pub returns-in_default-clause-judged : goal.returns-in_default-clause-judged
returns-in_default-clause-judged c =
    let a = c.args in
    let d = desk_as a.graph.now a.events.now a.desk.now in
    let past = subst (λ (o : Option (Cow Event)). ItemBy cow_value a.events.now c.judged.result c.judged.result o) c.in_default.is c.in_ok-e.ensures in
    let none : drop a.desk.now.progress.judged a.events.now ≡ [] =
    ap (λ n. drop n a.events.now) (sym c.judged.ensures) ∙ drop_all c.judged.result a.events.now past.3 in
    (ap (option_map (with_known a.out d)) (coming_none a.limits.now false d c.requires.none none), refl, refl)

pub returns-clause-judged : goal.returns-clause-judged
returns-clause-judged c =
    let a = c.args in
    let held = a.graph.now in
    let pool = a.desk.now.pool in
    let before = a.desk.now.progress in
    let events = a.events.now in
    let e = c.deref.result.now in
    let given = c.in_ok-judge.field-0 in
    let told = c.in_ok-judge.ensures in
    let d = desk_as held events a.desk.now in
    let v = verdict a.limits.now false held (events_of pool) e in
    let there = subst (λ (o : Option (Cow Event)). ItemBy cow_value events c.judged.result c.judged.result o) c.in-Some.is c.in_ok-e.ensures in
    let read = subst (λ (x : Event). x ≡ get_or events c.judged.result x) (sym c.deref.ensures) there.1 in
    let coming = next_coming events before.judged c.judged.result e c.judged.ensures there.3.0 read in
    let after : c.judge.new.desk.progress ≡ with_more (more_judged before 1) (repeats_at given) (refused_at e.id given) =
    told.progress ∙ ap (λ (k : Counted). with_more k (repeats_at given) (refused_at e.id given)) c.go_on.ensures in
    judges a.limits.now a.out d (desk_as c.judge.new.graph events c.judge.new.desk) before c.judge.new.desk.progress (events_of pool) (drop (before.judged + 1) events) e v given
    (coming_next a.limits.now false d e (drop (before.judged + 1) events) c.requires.none coming)
    (told.answer ∙ ap (λ m. pooled (nat_le m (length (events_of pool))) (known_at a.out (length held) (answer_by v))) c.requires.desk.limit)
    (same_desk c.judge.new.graph (held_by given e held) (events_of c.judge.new.desk.pool) (waiting_by given e (events_of pool)) events c.judge.new.desk.progress (with_more (more_judged before 1) (repeats_at given) (refused_at e.id given)) told.graph told.pool after)
    (ap (λ (k : Counted). k.repeats) after)
    (ap (λ (k : Counted). k.refused) after)
