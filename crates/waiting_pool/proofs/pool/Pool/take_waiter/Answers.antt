use Rattle.std.proofs.Common.{◌∙◌, ℕ, List, ap}
use Rattle.std.specs.BTreeMap.{get}
use Rattle.std.specs.BTreeSet.{contains}
use Rattle.std.specs.Map.{values_of}
use Rattle.ew_model.specs.Ids.{id_cmp}
use Rattle.waiting_pool.specs.declared.waiter.Waiter.{Waiter}
use Rattle.waiting_pool.specs.Places.{place_cmp}
use Rattle.waiting_pool.specs.Waiting.{Waiting, has_id, taken_out}
use Rattle.waiting_pool.proofs.Listed.{pool_less, map-without_first}
use Rattle.waiting_pool.proofs.pool.Pool.take_waiter.Goals as goal

pub invariant_of-self : goal.invariant_of-self
invariant_of-self c =
    pool_less c.self.inside.limit c.self.inside.next c.self.inside.waiters.entries c.leave.new.waiters.entries (get id_cmp c.self.inside.numbers) (get id_cmp c.leave.new.numbers)
    (contains place_cmp c.self.inside.queue) (contains place_cmp c.leave.new.queue) c.self.invariant c.args.id.now c.leave.ensures.others c.leave.ensures.ordered c.leave.ensures.indexed

pub returns-clause-others : goal.returns-clause-others
returns-clause-others c =
    ap (λ (ws : List Waiter). let v : Waiting = record { limit = c.self.inside.limit; seen = c.self.inside.seen; waiters = ws } in v)
    (ap values_of c.leave.ensures.others ∙ map-without_first (λ (e : ℕ × Waiter). e.1) (has_id c.args.id.now) c.self.inside.waiters.entries)
    ∙ ap (λ (v : Waiting). taken_out v c.args.id.now) c.self.view_is
