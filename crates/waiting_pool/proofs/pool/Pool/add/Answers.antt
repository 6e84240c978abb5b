use Rattle.std.proofs.Common.{◌≡◌, ◌<◌, false, length, sym, subst, arith}
use Rattle.std.specs.BTreeMap.{get}
use Rattle.std.specs.BTreeSet.{contains}
use Rattle.std.proofs.lemmas.Map.Entries.{length-values_of}
use Rattle.ew_model.specs.Ancestors.{is_held}
use Rattle.ew_model.specs.Ids.{id_cmp}
use Rattle.waiting_pool.specs.Places.{place_cmp}
use Rattle.waiting_pool.specs.Waiting.{Waiting, events_of}
use Rattle.waiting_pool.proofs.Entries.{not_numbered}
use Rattle.waiting_pool.proofs.Listed.{pool_more}
use Rattle.waiting_pool.proofs.pool.Pool.add.Goals as goal

pub enter-requires-clause-new : goal.enter-requires-clause-new
enter-requires-clause-new c =
    not_numbered c.self.inside.waiters.entries c.args.waiter.event.id
    (subst (λ (w : Waiting). is_held (events_of w) c.args.waiter.event.id ≡ false) (sym c.self.view_is) c.requires.new)

pub invariant_of-self-2 : goal.invariant_of-self-2
invariant_of-self-2 c =
    let new = subst (λ (w : Waiting). is_held (events_of w) c.args.waiter.event.id ≡ false) (sym c.self.view_is) c.requires.new in
    let room = subst (λ (w : Waiting). length w.waiters < w.limit) (sym c.self.view_is) c.requires.room in
    let long = length-values_of c.self.inside.waiters.entries in
    pool_more c.self.inside.limit c.self.inside.next c.self.inside.waiters.entries c.enter.new.waiters.entries (get id_cmp c.self.inside.numbers) (get id_cmp c.enter.new.numbers)
    (contains place_cmp c.self.inside.queue) (contains place_cmp c.enter.new.queue) c.self.invariant c.args.waiter new (omega (arith, room, long)) c.in_ok-enter.ensures.ok
    c.enter.ensures.ordered c.enter.ensures.indexed
