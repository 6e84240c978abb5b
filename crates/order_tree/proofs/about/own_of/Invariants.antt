use Rattle.std.proofs.Common.{map, drop, Contains}
use Rattle.order_tree.proofs.about.own_of.Given as goal

abbrev pub invariant-loop-old : goal.invariant-loop-old
invariant-loop-old g l = Contains (map (λ x. x.0) (drop l.old-index l.given)) l.label
