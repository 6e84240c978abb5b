use Rattle.order_tree.proofs.KidLaws.{kids_some}
use Rattle.order_tree.proofs.about.place_about.Goals as goal

pub place_of-k-requires-clause-some : goal.place_of-k-requires-clause-some
place_of-k-requires-clause-some g c = kids_some c.args.depth c.args.kids.now c.requires.below

pub free_before-requires-clause-some : goal.free_before-requires-clause-some
free_before-requires-clause-some g c = kids_some c.args.depth c.args.kids.now c.requires.below
