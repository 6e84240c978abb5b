use Rattle.std.proofs.Common.{◌+◌, ◌∙◌}
use Rattle.order_tree.proofs.EntryLaws.{as_parts, next_is}
use Rattle.order_tree.proofs.PartLists.{entries_some}
use Rattle.order_tree.proofs.entries.last_free_in.Goals as goal

pub free_before-requires-clause-some : goal.free_before-requires-clause-some
free_before-requires-clause-some g c = entries_some c.args.entries.now

pub free_before-requires-clause-rising : goal.free_before-requires-clause-rising
free_before-requires-clause-rising g c = as_parts c.args.entries.now c.requires

pub returns : goal.returns
returns g c = c.free_before.ensures ∙ next_is c.args.entries.now c.entries_up_to-k.result c.args.label (c.args.most + 1) c.entries_up_to-k.ensures.before c.entries_up_to-k.ensures.behind
