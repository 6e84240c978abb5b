use Rattle.std.proofs.Common.{◌≡◌, ◌++◌}
use Rattle.character_runs.proofs.EventPositions.{positions_on}
use Rattle.ew_model.specs.declared.node.Node.TheVariants.{Event}
use Rattle.character_runs.proofs.runs.event_positions.add_positions.Given as goal

abbrev pub invariant-loop-n : goal.invariant-loop-n
invariant-loop-n l = l.positions.items ≡ l.fn.positions.items ++ positions_on (Event l.from) l.n l.run.prepared l.run.effect
