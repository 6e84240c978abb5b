use Rattle.std.proofs.Common.{ℕ, ap, sym, ◌∙◌, arith}
use Rattle.std.proofs.lemmas.List.{get_or_default}
use Rattle.order_tree.proofs.AboutLaws.{rest_holds}
use Rattle.order_tree.proofs.about.own_of.Goals as goal

pub returns-then-old-label : goal.returns-then-old-label
returns-then-old-label g c =
    let x = c.loop-old-item.result in
    let k = c.loop-old.old-index in
    (x.1.1, (k, c.loop-old-test.true, get_or_default c.args.given.now k (c.args.label, x.1) x c.loop-old-test.true ∙ sym c.loop-old-item.is ∙ ap (λ (n : ℕ). (n, x.1)) c.if-old-label.true))

pub loop-old-preserved : goal.loop-old-preserved
loop-old-preserved g c =
    rest_holds c.args.given.now c.loop-old.old-index c.args.label c.loop-old-item.result c.loop-old-test.true c.loop-old-item.is (λ e. omega (arith, e, c.if-old-label.false)) c.loop-old.invariant
