use Rattle.std.proofs.Common.{◌≡◌, ◌∙◌, sym, subst, IfOk}
use Rattle.waiting_pool.specs.Waiting.{events_of}
use Rattle.replica.specs.declared.answer.Answer.{Answer}
use Rattle.replica.proofs.AnswerRows.{by_graph, by_waiting}
use Rattle.replica.proofs.answer.rule.Goals as goal

pub returns-in-Some : goal.returns-in-Some
returns-in-Some c =
    let a = c.args in
    c.rule_by_id.ensures ∙ by_waiting a.limits.now a.graph.now (events_of a.pool.now) a.e.now c.in-Some.waiting.now c.requires c.len-waiting.ensures.apart (sym c.in-Some.ensures.event)

pub returns-in-None : goal.returns-in-None
returns-in-None c =
    let a = c.args in
    subst (λ (x : Answer). IfOk c.rule_by_graph.result (λ r. r ≡ x)) (by_graph a.limits.now a.graph.now (events_of a.pool.now) a.e.now (sym c.in-None.ensures.waits)) c.rule_by_graph.ensures
