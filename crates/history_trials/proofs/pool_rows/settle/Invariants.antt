use Rattle.waiting_pool.specs.Knowing.{IsBehind}
use Rattle.history_trials.proofs.pool_rows.settle.Given as goal

abbrev pub invariant-loop : goal.invariant-loop
invariant-loop l = IsBehind l.graph l.pool
