use Rattle.std.proofs.Common.{arith, ap}
use Rattle.order_tree.specs.declared.summary.Sums.{Sums}
use Rattle.order_tree.proofs.PartLists.{total_so_far}
use Rattle.order_tree.proofs.part.sums_in.Goals as goal

pub plus-sums-requires-clause-known : goal.plus-sums-requires-clause-known
plus-sums-requires-clause-known g c =
    let all = total_so_far g.T.Part.pairs g.R.Run.known c.args.parts.now c.loop-part.part-index c.part-item.result c.loop-part-test.true c.part-item.is in
    let so_far = ap (λ (s : Sums). s.known) c.loop-part.invariant in
    let own = ap (λ (s : Sums). s.known) c.sums.ensures in
    omega (arith, all, so_far, own, c.requires.known)

pub plus-sums-requires-clause-prepared : goal.plus-sums-requires-clause-prepared
plus-sums-requires-clause-prepared g c =
    let all = total_so_far g.T.Part.pairs g.R.Run.prepared c.args.parts.now c.loop-part.part-index c.part-item.result c.loop-part-test.true c.part-item.is in
    let so_far = ap (λ (s : Sums). s.prepared) c.loop-part.invariant in
    let own = ap (λ (s : Sums). s.prepared) c.sums.ensures in
    omega (arith, all, so_far, own, c.requires.prepared)

pub plus-sums-requires-clause-effect : goal.plus-sums-requires-clause-effect
plus-sums-requires-clause-effect g c =
    let all = total_so_far g.T.Part.pairs g.R.Run.effect c.args.parts.now c.loop-part.part-index c.part-item.result c.loop-part-test.true c.part-item.is in
    let so_far = ap (λ (s : Sums). s.effect) c.loop-part.invariant in
    let own = ap (λ (s : Sums). s.effect) c.sums.ensures in
    omega (arith, all, so_far, own, c.requires.effect)
