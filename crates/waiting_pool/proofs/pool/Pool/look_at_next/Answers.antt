use Rattle.std.proofs.Common.{◌∙◌, ◌+◌, slice_get, sym, ap, subst}
use Rattle.ew_model.specs.Ancestors.{ids_of}
use Rattle.waiting_pool.specs.Knowing.{IsBehind}
use Rattle.waiting_pool.specs.Waiting.{Waiting}
use Rattle.waiting_pool.proofs.Behind.{behind_next}
use Rattle.waiting_pool.proofs.pool.Pool.look_at_next.Goals as goal

pub returns-clause-behind : goal.returns-clause-behind
returns-clause-behind c =
    subst (λ (v : Waiting). IsBehind c.args.graph.now (record { limit = v.limit; seen = v.seen + 1; waiters = v.waiters })) (sym c.self.view_is)
    (behind_next c.args.graph.now c.args.self.now c.wake.new.self c.id_at-arrived.result c.requires.behind c.requires.more
    (ap (slice_get (ids_of c.args.graph.now)) (sym c.seen.ensures) ∙ c.id_at-arrived.ensures) c.wake.ensures.kept c.wake.ensures.missed c.in_ok-wake.ensures.none)
