use Rattle.std.proofs.Common.{◌≡◌, suc, ◌+◌, ◌-◌, List, length, sym, subst, refl, arith}
use Rattle.right_children.specs.declared.chains.Chain.{Chain}
use Rattle.right_children.specs.Chains.{parent_in, AreInOrder, HangOn}
use Rattle.right_children.proofs.HeirChains.{pushed_by, joined_by}
use Rattle.right_children.proofs.chains.put_heirs.Goals as goal

pub returns-then-goes_on-clause-ok : goal.returns-then-goes_on-clause-ok
returns-then-goes_on-clause-ok c =
    let items = c.args.chains.now.items in
    let long : length items ≡ suc (c.len-len.result - 1) = omega (arith, c.len-len.ensures, c.args.chains.now.ok.0, c.if-len-gt0.true) in
    (joined_by items (c.len-len.result - 1) c.args.newest c.args.count (c.args.newest + c.args.count) c.index.result.now c.index_mut.result.now c.requires.order long c.index.ensures c.index_mut.ensures.value (c.goes_on.ensures c.if-goes_on.true) refl).1

pub returns-then-goes_on-clause-order : goal.returns-then-goes_on-clause-order
returns-then-goes_on-clause-order c =
    let items = c.args.chains.now.items in
    let long : length items ≡ suc (c.len-len.result - 1) = omega (arith, c.len-len.ensures, c.args.chains.now.ok.0, c.if-len-gt0.true) in
    (joined_by items (c.len-len.result - 1) c.args.newest c.args.count (c.args.newest + c.args.count) c.index.result.now c.index_mut.result.now c.requires.order long c.index.ensures c.index_mut.ensures.value (c.goes_on.ensures c.if-goes_on.true) refl).0

pub returns-clause-ok : goal.returns-clause-ok
returns-clause-ok c = subst (λ (cs : List Chain). HangOn (parent_in c.args.chains.now.items) (parent_in cs) c.args.newest c.args.count) (sym c.in_ok-push.ensures.items)
    (pushed_by c.args.newest c.args.count c.requires.some c.args.chains.now.items 0 c.requires.order (omega arith) c.requires.below).1

pub returns-clause-order : goal.returns-clause-order
returns-clause-order c = subst (AreInOrder 0) (sym c.in_ok-push.ensures.items) (pushed_by c.args.newest c.args.count c.requires.some c.args.chains.now.items 0 c.requires.order (omega arith) c.requires.below).0
