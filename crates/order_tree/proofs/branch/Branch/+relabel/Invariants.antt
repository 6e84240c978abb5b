use Rattle.order_tree.specs.Relabels.{IsRelabelling}
use Rattle.order_tree.proofs.branch.Branch.+relabel.Given as goal

abbrev pub decreases-relabel : goal.decreases-relabel
decreases-relabel g l = goal.size-relabel g l

abbrev pub invariant-loop-kid : goal.invariant-loop-kid
invariant-loop-kid g l = IsRelabelling g.R.Run.known l.step l.before l.kid-index l.initial.kid-items l.kid-items l.initial.given l.given l.reached l.initial.visits l.visits
