use Rattle.predecessor_map.proofs.TreeRanges.{last_of_range}
use Rattle.predecessor_map.proofs.tree.last_in.Goals as goal

pub returns-in-Some-clause-some : goal.returns-in-Some-clause-some
returns-in-Some-clause-some c =
    last_of_range c.args.map.now c.args.n c.range.result c.next_back.new.self c.in-Some.key.now c.in-Some.label.now (c.range.ensures.in_range tt) c.in-Some.ensures.steps
