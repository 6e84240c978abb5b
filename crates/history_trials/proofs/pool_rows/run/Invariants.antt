use Rattle.waiting_pool.specs.Knowing.{IsBehind}
use Rattle.history_trials.proofs.pool_rows.run.Given as goal

abbrev pub invariant-loop-row : goal.invariant-loop-row
invariant-loop-row l = IsBehind l.graph l.pool
