use Rattle.std.specs.Ordering.{nat_cmp}
use Rattle.std.specs.BTreeMap.{get}
use Rattle.predecessor_map.specs.Tables.{label_of}
use Rattle.predecessor_map.specs.Maps.{label_at}
use Rattle.predecessor_map.proofs.LastLaws.{are_last, last_some, last_none}
use Rattle.predecessor_map.proofs.map.PredecessorMap.last_up_to.Goals as goal

pub returns-clause-some : goal.returns-clause-some
returns-clause-some c =
    let own = c.args.self.now in
    last_some (label_at own) c.args.n c.later.result
    (c.later.ensures (get nat_cmp own.others) (label_of own.table) c.args.n (are_last (get nat_cmp own.others) c.args.n c.last_in.result c.last_in.ensures.some c.last_in.ensures.none) c.last_up_to-found.ensures)

pub returns-clause-none : goal.returns-clause-none
returns-clause-none c =
    let own = c.args.self.now in
    last_none (label_at own) c.args.n c.later.result
    (c.later.ensures (get nat_cmp own.others) (label_of own.table) c.args.n (are_last (get nat_cmp own.others) c.args.n c.last_in.result c.last_in.ensures.some c.last_in.ensures.none) c.last_up_to-found.ensures)
