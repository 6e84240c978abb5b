use Rattle.std.proofs.Common.{List, subst, sym}
use Rattle.order_tree.specs.Pairs.{Tree}
use Rattle.order_tree.specs.Shape.{AllBelow}
use Rattle.order_tree.proofs.InnerEdits.{AllBelow-left}
use Rattle.order_tree.proofs.finish.finish.Goals as goal

pub returns-clause-below : goal.returns-clause-below
returns-clause-below g c =
    AllBelow-left c.args.depth _ _ (subst (λ (ks : List (Tree _)). AllBelow c.args.depth ks) (sym c.settle-tail.ensures.kids) c.requires.below)
