use Rattle.order_tree.proofs.KidLaws.{kids_some}
use Rattle.order_tree.proofs.halves.way_down.Goals as goal

pub place_of-k-requires-clause-some : goal.place_of-k-requires-clause-some
place_of-k-requires-clause-some g c = kids_some c.args.depth c.args.kids.now c.requires.below

pub free_before-most-requires-clause-some : goal.free_before-most-requires-clause-some
free_before-most-requires-clause-some g c = kids_some c.args.depth c.args.kids.now c.requires.below
