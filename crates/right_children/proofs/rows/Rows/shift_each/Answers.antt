use Rattle.std.proofs.Common.{arith}
use Rattle.right_children.proofs.RowParts.{part_may, part_stepped}
use Rattle.right_children.proofs.rows.Rows.shift_each.Goals as goal

pub step_each-requires : goal.step_each-requires
step_each-requires c = part_may c.args.self.now c.args.from c.args.to c.requires.order c.if-from-self.true (omega (arith, c.if-to-self.true, c.len.ensures)) c.args.is c.requires.may c.deref_mut.result.now c.deref_mut.ensures.value

pub returns-then-to-self : goal.returns-then-to-self
returns-then-to-self c =
    part_stepped c.args.self.now c.args.from c.args.to c.requires.order c.if-from-self.true (omega (arith, c.if-to-self.true, c.len.ensures)) c.args.is c.deref_mut.result.now c.deref_mut.ensures.value c.step_each.new.rows c.step_each.ensures
