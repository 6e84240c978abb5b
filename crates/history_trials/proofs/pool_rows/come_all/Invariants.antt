use Rattle.waiting_pool.specs.Knowing.{IsBehind}
use Rattle.waiting_pool.specs.Waiting.{Waiting}
use Rattle.history_trials.proofs.pool_rows.come_all.Given as goal

abbrev pub invariant-loop-e : goal.invariant-loop-e
invariant-loop-e l = (w : Waiting) → IsBehind l.initial.graph w → IsBehind l.graph w
