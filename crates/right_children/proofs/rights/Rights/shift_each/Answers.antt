use Rattle.std.proofs.Common.{◌≡◌, ℕ, ◌+◌, ◌<◌, ◌≤◌, Bool, sym, subst, arith}
use Rattle.ew_model.specs.declared.node.Node.{Node}
use Rattle.right_children.specs.Chains.{AreLinked}
use Rattle.right_children.specs.Rights.{counted, AreRights}
use Rattle.right_children.proofs.RightSpans.{so_far, before_all, after_all, still_right, may_next, kept_next}
use Rattle.right_children.proofs.RightChains.{each_may, end_right, still_whole, end_counted, each_kept}
use Rattle.right_children.proofs.rights.Rights.shift_each.Goals as goal

pub returns-then-was-is-clause-rights : goal.returns-then-was-is-clause-rights
returns-then-was-is-clause-rights c = λ old new attached rights h.
    still_right old new attached c.args.from c.args.to c.args.was c.args.is h c.if-was-is.true (counted c.args.self.now) rights

pub loop-at-init : goal.loop-at-init
loop-at-init c =
    let low : c.args.from ≤ c.args.from = omega arith in
    record {
      low = low;
      high = c.requires.order;
      whole = c.requires.whole;
      rights = λ old new attached rights h.
          subst (λ (known : Node → Bool). AreRights known attached (counted c.args.self.now)) (sym (before_all old new attached c.args.from c.args.to c.args.was c.args.is h)) rights;
    }

pub shift_first-linked-requires-clause-may : goal.shift_first-linked-requires-clause-may
shift_first-linked-requires-clause-may c =
    let m = c.requires.may in
    may_next m.0 m.1 m.2 c.args.from c.args.to c.args.was c.args.is m.4 c.loop-at.at c.loop-at.invariant.low c.loop-at-test.true (counted c.loop-at.self) (c.loop-at.invariant.rights m.0 m.1 m.2 m.3 m.4)

pub shift_each-requires-clause-have : goal.shift_each-requires-clause-have
shift_each-requires-clause-have c =
    let first = c.shift_first-linked.new.self in
    let some : c.loop-at.at + 1 ≤ c.args.to = omega (arith, c.loop-at-test.true) in
    let linked : AreLinked (counted first).parent_at (c.loop-at.at + 1) c.clamp-end.result = λ n le lt. c.shift_first-linked.ensures.linked n le (omega (arith, c.clamp-end.ensures, some, le, lt)) in
    each_kept first c.loop-at.at c.clamp-end.result c.shift_first-linked.ensures.whole linked

pub shift_each-requires-clause-may : goal.shift_each-requires-clause-may
shift_each-requires-clause-may c =
    let m = c.requires.may in
    let at = c.loop-at.at in
    let first = c.shift_first-linked.new.self in
    let some : at + 1 ≤ c.args.to = omega (arith, c.loop-at-test.true) in
    let linked : AreLinked (counted first).parent_at (at + 1) c.clamp-end.result = λ n le lt. c.shift_first-linked.ensures.linked n le (omega (arith, c.clamp-end.ensures, some, le, lt)) in
    let most : c.clamp-end.result ≤ c.args.to = omega (arith, c.clamp-end.ensures, some) in
    let rights = kept_next m.0 m.1 m.2 c.args.from c.args.to c.args.was c.args.is m.4 at c.loop-at.invariant.low c.loop-at-test.true (counted c.loop-at.self) (c.loop-at.invariant.rights m.0 m.1 m.2 m.3 m.4)
    (counted first) c.shift_first-linked.ensures.shifts in
    each_may (counted first) c.args.is at c.clamp-end.result linked m.0 m.1 m.2 c.args.from c.args.to c.args.was m.4 c.if-was-is.false c.loop-at.invariant.low most rights

pub loop-at-preserved : goal.loop-at-preserved
loop-at-preserved c =
    let at = c.loop-at.at in
    let end = c.clamp-end.result in
    let first = c.shift_first-linked.new.self in
    let some : at + 1 ≤ c.args.to = omega (arith, c.loop-at-test.true) in
    let linked : AreLinked (counted first).parent_at (at + 1) end = λ n le lt. c.shift_first-linked.ensures.linked n le (omega (arith, c.clamp-end.ensures, some, le, lt)) in
    let most : end ≤ c.args.to = omega (arith, c.clamp-end.ensures, some) in
    let further : at < end = omega (arith, c.clamp-end.ensures) in
    record {
      low = omega (arith, c.loop-at.invariant.low, further);
      high = most;
      whole = still_whole first c.shift_each.new.self at end c.args.is c.shift_each.ensures c.shift_first-linked.ensures.whole;
      rights = λ old new attached before h.
          let rights = kept_next old new attached c.args.from c.args.to c.args.was c.args.is h at c.loop-at.invariant.low c.loop-at-test.true (counted c.loop-at.self) (c.loop-at.invariant.rights old new attached before h)
          (counted first) c.shift_first-linked.ensures.shifts in
          end_counted first c.shift_each.new.self at end c.args.is c.shift_each.ensures (so_far old new c.args.from end) attached linked
          (end_right (counted first) c.args.is at end linked old new attached c.args.from c.args.to c.args.was h c.if-was-is.false c.loop-at.invariant.low most rights further);
    }

pub returns-clause-rights : goal.returns-clause-rights
returns-clause-rights c = λ old new attached rights h.
    let end : c.loop-at.at ≡ c.args.to = omega (arith, c.loop-at-test.false, c.loop-at.invariant.high) in
    subst (λ (known : Node → Bool). AreRights known attached (counted c.loop-at.self)) (after_all old new attached c.args.from c.args.to c.args.was c.args.is h)
    (subst (λ (n : ℕ). AreRights (so_far old new c.args.from n) attached (counted c.loop-at.self)) end (c.loop-at.invariant.rights old new attached rights h))
