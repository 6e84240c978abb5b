use Rattle.std.proofs.Common.{◌∙◌, Option, Some, sym, subst}
use Rattle.replica.specs.declared.answer.Answer.{Answer}
use Rattle.replica.specs.Desks.{Judges, LeadsOn, desk_as}
use Rattle.replica.proofs.Ways.{goes_on, stops, fewer_left, judged_front, leads_front, leads_joined, front_on}
use Rattle.replica.proofs.judging.judge_all.Goals as goal

pub loop-answer-init : goal.loop-answer-init
loop-answer-init c =
    let a = c.args in
    let leads = c.in_ok-hold_run.ensures.leads in
    record {
      desk = c.in_ok-hold_run.ensures.desk;
      way = leads;
      front = leads_front a.limits.now a.out (desk_as a.graph.now a.events.now a.desk.now) (desk_as c.hold_run.new.graph a.events.now c.hold_run.new.desk) a.desk.now.progress c.hold_run.new.desk.progress leads;
    }

pub returns-then-is_stop-clause-front : goal.returns-then-is_stop-clause-front
returns-then-is_stop-clause-front c =
    let a = c.args in
    front_on a.graph.now c.loop-answer.graph c.judge_next.new.graph c.loop-answer.invariant.front
    (judged_front a.limits.now a.out (desk_as c.loop-answer.graph a.events.now c.loop-answer.desk) (desk_as c.judge_next.new.graph a.events.now c.judge_next.new.desk) c.loop-answer.desk.progress c.judge_next.new.desk.progress c.in_ok-answer.field-0 c.in_ok-answer.ensures.judged)

pub loop-answer-smaller : goal.loop-answer-smaller
loop-answer-smaller c =
    let a = c.args in
    let d = desk_as c.loop-answer.graph a.events.now c.loop-answer.desk in
    let new = desk_as c.judge_next.new.graph a.events.now c.judge_next.new.desk in
    let further = desk_as c.hold_run-in-Some.new.graph a.events.now c.hold_run-in-Some.new.desk in
    fewer_left a.limits.now a.out d new further c.loop-answer.desk.progress c.judge_next.new.desk.progress c.hold_run-in-Some.new.desk.progress c.in-Some.answer
    (subst (λ (o : Option Answer). Judges a.limits.now a.out d new c.loop-answer.desk.progress c.judge_next.new.desk.progress o) c.in-Some.is c.in_ok-answer.ensures.judged)
    c.in_ok-hold_run-2.ensures.leads

pub loop-answer-preserved : goal.loop-answer-preserved
loop-answer-preserved c =
    let a = c.args in
    let from = desk_as a.graph.now a.events.now a.desk.now in
    let d = desk_as c.loop-answer.graph a.events.now c.loop-answer.desk in
    let new = desk_as c.judge_next.new.graph a.events.now c.judge_next.new.desk in
    let further = desk_as c.hold_run-in-Some.new.graph a.events.now c.hold_run-in-Some.new.desk in
    let mid = c.loop-answer.desk.progress in
    let after = c.judge_next.new.desk.progress in
    let last = c.hold_run-in-Some.new.desk.progress in
    let judged : Judges a.limits.now a.out d new mid after (Some c.in-Some.answer) = subst (λ (o : Option Answer). Judges a.limits.now a.out d new mid after o) c.in-Some.is c.in_ok-answer.ensures.judged in
    let one : LeadsOn a.limits.now a.out from new a.desk.now.progress after = goes_on a.limits.now a.out from d new a.desk.now.progress mid after c.in-Some.answer c.loop-answer.invariant.way judged (sym c.is_stop.ensures ∙ c.if-is_stop.false) in
    let all : LeadsOn a.limits.now a.out from further a.desk.now.progress last = leads_joined a.limits.now a.out from new further a.desk.now.progress after last one c.in_ok-hold_run-2.ensures.leads in
    record {
      desk = c.in_ok-hold_run-2.ensures.desk;
      way = all;
      front = leads_front a.limits.now a.out from further a.desk.now.progress last all;
    }

pub returns-then-is_stop-clause-leads : goal.returns-then-is_stop-clause-leads
returns-then-is_stop-clause-leads c =
    let a = c.args in
    let from = desk_as a.graph.now a.events.now a.desk.now in
    let d = desk_as c.loop-answer.graph a.events.now c.loop-answer.desk in
    let new = desk_as c.judge_next.new.graph a.events.now c.judge_next.new.desk in
    let mid = c.loop-answer.desk.progress in
    let after = c.judge_next.new.desk.progress in
    stops a.limits.now a.out from d new a.desk.now.progress mid after c.in-Some.answer c.loop-answer.invariant.way
    (subst (λ (o : Option Answer). Judges a.limits.now a.out d new mid after o) c.in-Some.is c.in_ok-answer.ensures.judged)
    (sym c.is_stop.ensures ∙ c.if-is_stop.true)

pub returns-in_err-hold_run-2-clause-front : goal.returns-in_err-hold_run-2-clause-front
returns-in_err-hold_run-2-clause-front c =
    let a = c.args in
    let front = front_on a.graph.now c.loop-answer.graph c.judge_next.new.graph c.loop-answer.invariant.front
    (judged_front a.limits.now a.out (desk_as c.loop-answer.graph a.events.now c.loop-answer.desk) (desk_as c.judge_next.new.graph a.events.now c.judge_next.new.desk) c.loop-answer.desk.progress c.judge_next.new.desk.progress c.in_ok-answer.field-0 c.in_ok-answer.ensures.judged) in
    (front.0, c.in_err-hold_run-2.ensures.same ∙ front.1)
