use Rattle.std.proofs.Common.{◌≡◌, ℕ, subst, arith}
use Rattle.right_children.specs.Rights.{counted}
use Rattle.right_children.proofs.RestingRights.{AreReset, none_reset, next_reset, rests}
use Rattle.right_children.proofs.rights.Rights.rest.Goals as goal

pub loop-position-init : goal.loop-position-init
loop-position-init c = record { whole = c.requires.whole; linked = λ n low high. absurd (omega (arith, high)); reset = none_reset (counted c.args.self.now) c.args.from }

pub loop-position-preserved : goal.loop-position-preserved
loop-position-preserved c = record {
  whole = c.reset_next-linked.ensures.whole;
  linked = c.reset_next-linked.ensures.linked;
  reset = next_reset (counted c.args.self.now) (counted c.loop-position.self) (counted c.reset_next-linked.new.self) c.args.from c.loop-position.position c.loop-position.invariant.reset c.reset_next-linked.ensures.resets;
}

pub returns-clause-rights : goal.returns-clause-rights
returns-clause-rights c = λ known attached rights within.
    let end : c.loop-position.position ≡ c.args.to = omega (arith, c.loop-position-test.false, c.loop-position.auto.position-end, c.requires.order) in
    rests known attached (counted c.args.self.now) (counted c.loop-position.self) c.args.from c.args.to rights within (subst (λ (n : ℕ). AreReset (counted c.args.self.now) (counted c.loop-position.self) c.args.from n) end c.loop-position.invariant.reset)
