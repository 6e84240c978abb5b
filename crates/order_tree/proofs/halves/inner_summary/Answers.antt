use Rattle.order_tree.proofs.KidLaws.{kids_some}
use Rattle.order_tree.proofs.halves.inner_summary.Goals as goal

pub summary_in-requires-clause-first : goal.summary_in-requires-clause-first
summary_in-requires-clause-first g c = λ d. kids_some c.args.depth c.args.kids.now c.requires.below 0 d c.requires.some
