use Rattle.std.proofs.Common.{◌≡◌, Bool}
use Rattle.ew_model.specs.declared.node.Node.{Node}
use Rattle.order_tree.specs.Pairs.{IsRising, runs}
use Rattle.character_runs.specs.States.{shown_in}
use Rattle.character_runs.specs.Laid.{AreCounted, chars_in}
use Rattle.character_runs.specs.Loose.{loose_in}
use Rattle.character_runs.proofs.RestedRuns.{IsDown}
use Rattle.character_runs.proofs.runs.Runs.rest.Given as goal

abbrev pub invariant-loop-next : goal.invariant-loop-next
invariant-loop-next g l = record {
  counted : AreCounted l.self.tree.pairs l.self.labels l.count (shown_in (chars_in l.self.tree.pairs));
  rising : IsRising l.self.tree.pairs;
  down : IsDown l.fn.self.tree.pairs l.self.tree.pairs l.label;
  loose : (among : Node → Bool) → loose_in among (runs l.self.tree.pairs) ≡ loose_in among (runs l.fn.self.tree.pairs);
}

abbrev pub decreases-loop-next : goal.decreases-loop-next
decreases-loop-next g l = l.label
