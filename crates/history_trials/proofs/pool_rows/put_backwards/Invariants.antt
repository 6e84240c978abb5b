use Rattle.std.proofs.Common.{List}
use Rattle.ew_model.specs.declared.event.Event.{Event}
use Rattle.waiting_pool.specs.Knowing.{IsBehind}
use Rattle.history_trials.proofs.pool_rows.put_backwards.Given as goal

abbrev pub invariant-loop-seq : goal.invariant-loop-seq
invariant-loop-seq l = (held : List Event) → IsBehind held l.initial.pool → IsBehind held l.pool
