use Rattle.order_tree.specs.Abouts.{IsCounting}
use Rattle.order_tree.proofs.about.count_in.Given as goal

abbrev pub invariant-loop-kid : goal.invariant-loop-kid
invariant-loop-kid g l = IsCounting l.kid-index l.kids l.count l.initial.visits l.visits
