use Rattle.std.proofs.Common.{arith}
use Rattle.predecessor_map.proofs.BlockLaws.{block_past}
use Rattle.predecessor_map.proofs.table.Table.place.Goals as goal

pub returns-else-place-len-clause-none : goal.returns-else-place-len-clause-none
returns-else-place-len-clause-none c =
    block_past c.args.self.now.first c.args.self.now.blocks.items c.args.block c.in_ok-place.field-0 (omega (arith, c.in_ok-place.ensures.0, c.in_ok-place.ensures.1))
    (omega (arith, c.if-place-len.false, c.len.ensures, c.args.self.now.blocks.ok.0))
