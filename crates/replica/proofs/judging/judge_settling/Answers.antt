use Rattle.std.proofs.Common.{◌≡◌, ◌∙◌, false, List, Some, None, IfOk, find, length, nat_le, refl, sym, ap, subst}
use Rattle.std.proofs.lemmas.Bool.{false≢true}
use Rattle.ew_model.specs.declared.event.Event.{Event}
use Rattle.ew_model.specs.Arrival.{Desk, is_ready, without_ready}
use Rattle.ew_model.specs.Kept.{AreFresh}
use Rattle.ew_model.specs.Verdicts.{Ruling, first_row, later_rows, verdict}
use Rattle.waiting_pool.specs.Waiting.{events_of}
use Rattle.replica.specs.Counting.{with_more}
use Rattle.replica.specs.Desks.{Judges, answer_by, desk_as, held_by, known_at, pooled, refused_at, repeats_at, waiting_by}
use Rattle.history_definitions.specs.Tallies.{is_repeat}
use Rattle.waiting_pool.proofs.Ready.{none_ready}
use Rattle.replica.proofs.Steps.{judges, ready_next, settling_desk, same_desk, still_begun}
use Rattle.replica.proofs.Taking.{less_fresh, ready_verdict, ready_not_repeat, no_repeats}
use Rattle.replica.proofs.judging.judge_settling.Goals as goal

pub judge-requires-clause-fresh : goal.judge-requires-clause-fresh
judge-requires-clause-fresh c =
    subst (AreFresh c.args.graph.now) (sym c.in_ok-e.ensures.others) (less_fresh c.args.graph.now (events_of c.args.desk.now.pool) c.requires.desk.fresh)

pub judge-requires-clause-repeats : goal.judge-requires-clause-repeats
judge-requires-clause-repeats c =
    let a = c.args in
    let waiting = (events_of a.desk.now.pool) in
    let found : find (is_ready a.graph.now) waiting ≡ Some c.in-Some.e = sym c.in_ok-e.ensures.event ∙ c.in-Some.is in
    let other : is_repeat (verdict a.limits.now false a.graph.now (events_of c.take_ready.new.self) c.in-Some.e) ≡ false =
    ap (λ (ws : List Event). is_repeat (verdict a.limits.now false a.graph.now ws c.in-Some.e)) c.in_ok-e.ensures.others
    ∙ ready_not_repeat a.limits.now a.graph.now waiting c.in-Some.e c.requires.desk.fresh c.len-waiting.ensures.apart found in
    λ h. absurd (false≢true (sym other ∙ ap is_repeat h))

pub returns-in_ok-judge-in-Some-clause-judged : goal.returns-in_ok-judge-in-Some-clause-judged
returns-in_ok-judge-in-Some-clause-judged c =
    let a = c.args in
    let limits = a.limits.now in
    let held = a.graph.now in
    let pool = a.desk.now.pool in
    let before = a.desk.now.progress in
    let events = a.events.now in
    let e = c.in-Some.e in
    let left = c.take_ready.new.self in
    let less = without_ready held (events_of pool) in
    let given = c.in_ok-judge-in-Some.field-0 in
    let told = c.in_ok-judge-in-Some.ensures in
    let d = desk_as held events a.desk.now in
    let r = first_row (later_rows limits false held e) in
    let found : find (is_ready held) (events_of pool) ≡ Some e = sym c.in_ok-e.ensures.event ∙ c.in-Some.is in
    let full = nat_le limits.waiting (length less) in
    let lim : left.limit ≡ limits.waiting = c.in_ok-e.ensures.limit ∙ c.requires.desk.limit in
    let ws : events_of left ≡ less = c.in_ok-e.ensures.others in
    let is : given ≡ pooled full (known_at a.out (length held) (answer_by r)) =
    told.answer
    ∙ (λ i. pooled (nat_le (lim i) (length (ws i))) (known_at a.out (length held) (answer_by (verdict limits false held (ws i) e))))
    ∙ ap (λ (q : Ruling). pooled full (known_at a.out (length held) (answer_by q))) (ready_verdict limits false held (events_of pool) e c.requires.desk.fresh c.len-waiting.ensures.apart found) in
    let after = c.judge.new.desk.progress in
    judges limits a.out d (desk_as c.judge.new.graph events c.judge.new.desk) before after less d.coming e r given
    (ready_next limits false d e c.requires.settling found)
    is
    (settling_desk c.judge.new.graph (held_by given e held) (events_of c.judge.new.desk.pool) (waiting_by given e less) events after (with_more before (repeats_at given) (refused_at e.id given))
    told.graph (told.pool ∙ ap (waiting_by given e) ws) told.progress c.requires.settling)
    (ap (λ k. k.repeats) told.progress)
    (ap (λ k. k.refused) told.progress)

pub returns-in_ok-judge-in-Some-clause-desk : goal.returns-in_ok-judge-in-Some-clause-desk
returns-in_ok-judge-in-Some-clause-desk c =
    let a = c.args in
    let limits = a.limits.now in
    let held = a.graph.now in
    let pool = a.desk.now.pool in
    let before = a.desk.now.progress in
    let e = c.in-Some.e in
    let left = c.take_ready.new.self in
    let given = c.in_ok-judge-in-Some.field-0 in
    let told = c.in_ok-judge-in-Some.ensures in
    let found : find (is_ready held) (events_of pool) ≡ Some e = sym c.in_ok-e.ensures.event ∙ c.in-Some.is in
    let other : is_repeat (verdict limits false held (events_of left) e) ≡ false =
    ap (λ (ws : List Event). is_repeat (verdict limits false held ws e)) c.in_ok-e.ensures.others
    ∙ ready_not_repeat limits held (events_of pool) e c.requires.desk.fresh c.len-waiting.ensures.apart found in
    let none : repeats_at given ≡ 0 = ap repeats_at told.answer ∙ no_repeats a.out (length held) (nat_le left.limit (length (events_of left))) (verdict limits false held (events_of left) e) other in
    record {
      fresh = told.fresh;
      limit = told.limit ∙ (c.in_ok-e.ensures.limit ∙ c.requires.desk.limit);
      behind = told.behind;
      few = told.few;
      begun = still_begun a.events.now before c.judge.new.desk.progress (repeats_at given) (refused_at e.id given) none told.progress c.requires.desk.begun;
    }

pub judge_received-requires-clause-desk : goal.judge_received-requires-clause-desk
judge_received-requires-clause-desk c =
    let a = c.args in
    let held = a.graph.now in
    let pool = a.desk.now.pool in
    let same = c.in_ok-e.ensures.others ∙ none_ready held (events_of pool) (sym c.in_ok-e.ensures.event ∙ c.in-None.is) in
    record {
      fresh = subst (AreFresh held) (sym same) c.requires.desk.fresh;
      limit = c.in_ok-e.ensures.limit ∙ c.requires.desk.limit;
      behind = c.take_ready.ensures.behind;
      few = c.requires.desk.few;
      begun = c.requires.desk.begun;
    }

pub judge_received-requires-clause-none : goal.judge_received-requires-clause-none
judge_received-requires-clause-none c =
    let held = c.args.graph.now in
    let waiting = (events_of c.args.desk.now.pool) in
    let none : find (is_ready held) waiting ≡ None = sym c.in_ok-e.ensures.event ∙ c.in-None.is in
    λ _. ap (find (is_ready held)) (c.in_ok-e.ensures.others ∙ none_ready held waiting none) ∙ none

pub returns-in-None-clause-judged : goal.returns-in-None-clause-judged
returns-in-None-clause-judged c =
    let a = c.args in
    let held = a.graph.now in
    let pool = a.desk.now.pool in
    let before = a.desk.now.progress in
    let same = c.in_ok-e.ensures.others ∙ none_ready held (events_of pool) (sym c.in_ok-e.ensures.event ∙ c.in-None.is) in
    subst (λ (d : Desk). IfOk c.judge_received.result (Judges a.limits.now a.out d (desk_as c.judge_received.new.graph a.events.now c.judge_received.new.desk) before c.judge_received.new.desk.progress))
    (same_desk held held (events_of c.take_ready.new.self) (events_of pool) a.events.now before before refl same refl) c.judge_received.ensures.judged
