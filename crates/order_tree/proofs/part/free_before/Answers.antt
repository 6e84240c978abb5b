use Rattle.std.proofs.Common.{◌≡◌, ◌+◌, ◌-◌, arith, ◌∙◌, sym}
use Rattle.order_tree.proofs.PartLists.{free_is, free_above}
use Rattle.order_tree.proofs.part.free_before.Goals as goal

pub overflow_sub-result : goal.overflow_sub-result
overflow_sub-result g c =
    let above = free_above g.T.Part.pairs c.args.parts.now c.args.k c.index-parts-k.result c.if-k-parts.true c.index-parts-k.is c.requires.some c.requires.rising in
    omega (arith, above, c.first.ensures)

pub returns-then-k-parts : goal.returns-then-k-parts
returns-then-k-parts g c =
    let above = free_above g.T.Part.pairs c.args.parts.now c.args.k c.index-parts-k.result c.if-k-parts.true c.index-parts-k.is c.requires.some c.requires.rising in
    let same : c.first.result - 1 + 1 ≡ c.first.result = omega (arith, above, c.first.ensures) in
    same ∙ c.first.ensures ∙ sym (free_is g.T.Part.pairs c.args.parts.now c.args.k (c.args.most + 1) c.index-parts-k.result c.if-k-parts.true c.index-parts-k.is c.requires.some)
