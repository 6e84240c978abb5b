use Rattle.std.proofs.Common.{◌∙◌, ◌++◌, List, sym, ap, subst}
use Rattle.ew_model.specs.Kept.{AreApart}
use Rattle.waiting_pool.specs.declared.waiter.Waiter.{Waiter}
use Rattle.waiting_pool.specs.Waiting.{Waiting}
use Rattle.waiting_pool.proofs.Copies.{new_behind}
use Rattle.waiting_pool.proofs.Notes.{events_in}
use Rattle.waiting_pool.proofs.pool.Pool.copy.Goals as goal

pub add_copy-requires-clause-new : goal.add_copy-requires-clause-new
add_copy-requires-clause-new c =
    let apart = subst (λ (v : Waiting). AreApart (events_in v.waiters)) c.self.view_is c.self.invariant.listed.apart in
    let whole = ap (λ (ws : List Waiter). c.loop-waiter.copy.waiters ++ ws) (sym c.in-Some.ensures.steps) ∙ c.loop-waiter.invariant.rest in
    new_behind c.loop-waiter.copy.waiters c.next.new.self c.in-Some.waiter.now (subst (λ (ws : List Waiter). AreApart (events_in ws)) (sym whole) apart)
