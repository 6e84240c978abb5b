use Rattle.std.proofs.Common.{◌<◌, ◌+◌, length, arith, sym, ◌∙◌, subst, ltb-true}
use Rattle.predecessor_map.specs.Blocks.{block_of}
use Rattle.predecessor_map.proofs.BlockLaws.{block_bound}
use Rattle.predecessor_map.proofs.LastLaws.{not_all_none, last_before}
use Rattle.predecessor_map.proofs.table.Table.before.Goals as goal

pub returns-in_err-offset-clause-none : goal.returns-in_err-offset-clause-none
returns-in_err-offset-clause-none c =
    let own = c.args.self.now in
    absurd (not_all_none own.first own.blocks.items c.in_ok-last.last (ltb-true _ _ (sym (own.marked c.in_ok-last.last) ∙ c.in_ok-last.ensures.some.1)) c.in_err-offset.ensures.none)

pub overflow_mul-result : goal.overflow_mul-result
overflow_mul-result c =
    let own = c.args.self.now in
    let bound = block_bound own.first own.blocks.items c.in_ok-last.last (ltb-true _ _ (sym (own.marked c.in_ok-last.last) ∙ c.in_ok-last.ensures.some.1)) in
    let fits = own.fits in
    omega (arith, bound, fits)

pub overflow_add-result : goal.overflow_add-result
overflow_add-result c =
    let own = c.args.self.now in
    let bound = block_bound own.first own.blocks.items c.in_ok-last.last (ltb-true _ _ (sym (own.marked c.in_ok-last.last) ∙ c.in_ok-last.ensures.some.1)) in
    let fits = own.fits in
    let low = c.in_ok-offset.ensures.some.before in
    omega (arith, bound, fits, low)

pub returns-clause-some : goal.returns-clause-some
returns-clause-some c =
    let own = c.args.self.now in
    last_before own.first own.blocks.items _ own.marked c.args.block c.in_ok-last.last c.in_ok-offset.offset c.in_ok-offset.label c.in_ok-last.ensures.some.0 c.in_ok-last.ensures.last c.in_ok-offset.ensures.some
