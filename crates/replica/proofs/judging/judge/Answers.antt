use Rattle.std.proofs.Common.{◌≡◌, ◌∙◌, length, nat_le, sym, ap}
use Rattle.waiting_pool.specs.Waiting.{events_of}
use Rattle.replica.specs.Desks.{known_at, pooled}
use Rattle.replica.proofs.Judged.{given_by, held_then_good, waits_then_new, stays_fresh, stays_few}
use Rattle.replica.proofs.judging.judge.Goals as goal

pub settle-requires-clause-good : goal.settle-requires-clause-good
settle-requires-clause-good c =
    let a = c.args in
    λ h. held_then_good a.limits.now a.graph.now (events_of a.desk.now.pool) a.e.now a.out c.count.result c.in_ok-ruled.ruled c.in_ok-ruled.ensures (sym c.unless_known-known.ensures ∙ h)

pub settle-requires-clause-new : goal.settle-requires-clause-new
settle-requires-clause-new c =
    let a = c.args in
    λ h. waits_then_new a.limits.now a.graph.now (events_of a.desk.now.pool) a.e.now a.out c.count.result c.in_ok-ruled.ruled c.in_ok-ruled.ensures (sym c.unless_known-known.ensures ∙ h)

pub returns-clause-fresh : goal.returns-clause-fresh
returns-clause-fresh c =
    let a = c.args in
    let pool = a.desk.now.pool in
    let full = nat_le pool.limit (length (events_of pool)) in
    let is : c.in_ok-answer.answer ≡ given_by a.limits.now a.out c.count.result full a.graph.now (events_of pool) a.e.now =
    c.in_ok-answer.ensures.answer ∙ ap (pooled full) (c.unless_known-known.ensures ∙ ap (known_at a.out c.count.result) c.in_ok-ruled.ensures) in
    stays_fresh a.limits.now a.out c.count.result full a.graph.now (events_of pool) a.e.now c.in_ok-answer.answer c.settle.new.graph (events_of c.settle.new.pool) is c.in_ok-answer.ensures.graph c.in_ok-answer.ensures.pool c.requires.fresh

pub returns-clause-few : goal.returns-clause-few
returns-clause-few c =
    let a = c.args in
    let pool = a.desk.now.pool in
    let full = nat_le pool.limit (length (events_of pool)) in
    let is : c.in_ok-answer.answer ≡ given_by a.limits.now a.out c.count.result full a.graph.now (events_of pool) a.e.now =
    c.in_ok-answer.ensures.answer ∙ ap (pooled full) (c.unless_known-known.ensures ∙ ap (known_at a.out c.count.result) c.in_ok-ruled.ensures) in
    stays_few a.limits.now a.out c.count.result full a.graph.now (events_of pool) a.e.now c.in_ok-answer.answer c.settle.new.graph is c.in_ok-answer.ensures.graph c.requires.few
