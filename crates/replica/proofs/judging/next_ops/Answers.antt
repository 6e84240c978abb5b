use Rattle.std.proofs.Common.{◌≡◌, ◌∙◌, is_some, false, sym, subst, arith}
use Rattle.std.proofs.lemmas.List.{nil_from_length}
use Rattle.event_graph.specs.GoingOn.{chain_behind}
use Rattle.event_runs.specs.RunOps.{ops_of}
use Rattle.waiting_pool.specs.Waiting.{events_of}
use Rattle.replica.specs.Offering.{StandAt}
use Rattle.replica.proofs.RoundParts.{if_both, none_by}
use Rattle.replica.proofs.judging.next_ops.Goals as goal

pub returns-clause-next : goal.returns-clause-next
returns-clause-next c =
    let a = c.args in
    let out : is_some a.out ≡ false = cc in
    if_both c.next_ops.result _ _ _
    (λ ops few there. record {
      last = c.in_ok-last.last;
      held_last = sym c.last_id.ensures ∙ c.in_ok-last.was;
      there = subst (λ n. StandAt a.events.now n (chain_behind c.in_ok-last.last (ops_of ops))) c.judged.ensures there;
      none_waits = nil_from_length (events_of a.desk.now.pool) (omega (arith, c.len.ensures.len, c.if-len-gt0.false));
      room = omega (arith, few, c.count.ensures.count, c.count-2.ensures.count, c.events.ensures.value, c.events-2.ensures.value, c.if-count-events.false);
      none_out = none_by a.out out;
    })
    c.next_ops.ensures.few c.next_ops.ensures.there
