use Rattle.order_tree.proofs.EntryLaws.{some_up_to, last_is}
use Rattle.order_tree.proofs.entries.last_in.Goals as goal

pub overflow_sub-last : goal.overflow_sub-last
overflow_sub-last g c = some_up_to c.args.entries.now c.entries_up_to-many.result c.args.label c.requires.some c.requires.first c.entries_up_to-many.ensures.behind

pub returns : goal.returns
returns g c =
    let many = c.entries_up_to-many.result in
    let some = some_up_to c.args.entries.now many c.args.label c.requires.some c.requires.first c.entries_up_to-many.ensures.behind in
    last_is c.args.entries.now many c.args.label c.entries_up_to-many.ensures.within some c.entries_up_to-many.ensures.before c.entries_up_to-many.ensures.behind c.index-entries-many.result c.index-entries-many.is
