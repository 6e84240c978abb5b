use Rattle.std.proofs.Common.{◌≡◌, suc, ◌-◌, List, length, sym, ap, ◌∙◌, subst, arith}
use Rattle.right_children.specs.declared.chains.Chain.{Chain}
use Rattle.right_children.specs.Chains.{parent_in, AreInOrder}
use Rattle.right_children.proofs.ChainLaws.{pushed, joined}
use Rattle.right_children.proofs.chains.put.Goals as goal

pub returns-then-goes_on-clause-ok : goal.returns-then-goes_on-clause-ok
returns-then-goes_on-clause-ok c =
    let items = c.args.chains.now.items in
    let long : length items ≡ suc (c.len-len.result - 1) = omega (arith, c.len-len.ensures, c.args.chains.now.ok.0, c.if-len-gt0.true) in
    (joined items (c.len-len.result - 1) c.args.position c.args.parent c.index.result.now c.index_mut.result.now c.requires.order long c.index.ensures c.index_mut.ensures.value (c.goes_on.ensures c.if-goes_on.true)).1

pub returns-then-goes_on-clause-order : goal.returns-then-goes_on-clause-order
returns-then-goes_on-clause-order c =
    let items = c.args.chains.now.items in
    let long : length items ≡ suc (c.len-len.result - 1) = omega (arith, c.len-len.ensures, c.args.chains.now.ok.0, c.if-len-gt0.true) in
    (joined items (c.len-len.result - 1) c.args.position c.args.parent c.index.result.now c.index_mut.result.now c.requires.order long c.index.ensures c.index_mut.ensures.value (c.goes_on.ensures c.if-goes_on.true)).0

pub returns-clause-ok : goal.returns-clause-ok
returns-clause-ok c = λ n. ap (λ (cs : List Chain). parent_in cs n) c.in_ok-push.ensures.items ∙ (pushed c.args.chains.now.items 0 c.args.position c.args.parent c.requires.order (omega arith) c.requires.below).1 n

pub returns-clause-order : goal.returns-clause-order
returns-clause-order c = subst (AreInOrder 0) (sym c.in_ok-push.ensures.items) (pushed c.args.chains.now.items 0 c.args.position c.args.parent c.requires.order (omega arith) c.requires.below).0
