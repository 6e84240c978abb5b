use Rattle.std.proofs.Common.{sym, subst}
use Rattle.order_tree.specs.Pairs.{IsRising}
use Rattle.order_tree.proofs.PartLists.{entries_are, entries_some, entries_below, entries_above}
use Rattle.order_tree.proofs.part.entries_up_to.Goals as goal

pub count_up_to-requires-clause-some : goal.count_up_to-requires-clause-some
count_up_to-requires-clause-some g c = entries_some c.args.entries.now

pub count_up_to-requires-clause-rising : goal.count_up_to-requires-clause-rising
count_up_to-requires-clause-rising g c = subst (λ ps. IsRising ps) (sym (entries_are c.args.entries.now)) c.requires

pub returns-clause-before : goal.returns-clause-before
returns-clause-before g c = entries_below c.args.entries.now c.count_up_to.result c.args.label c.count_up_to.ensures.within c.requires c.count_up_to.ensures.before

pub returns-clause-behind : goal.returns-clause-behind
returns-clause-behind g c = entries_above c.args.entries.now c.count_up_to.result c.args.label c.requires c.count_up_to.ensures.behind
