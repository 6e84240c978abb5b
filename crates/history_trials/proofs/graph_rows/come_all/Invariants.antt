use Rattle.replica.specs.Fronts.{IsFront}
use Rattle.history_trials.proofs.graph_rows.come_all.Given as goal

abbrev pub invariant-loop-e : goal.invariant-loop-e
invariant-loop-e l = IsFront l.initial.graph l.graph
