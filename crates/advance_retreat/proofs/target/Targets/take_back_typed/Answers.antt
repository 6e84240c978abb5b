use Rattle.std.proofs.Common.{◌≡◌, ℕ, suc, ◌+◌, ◌-◌, ◌<◌, List, [], ◌∷◌, ◌++◌, refl, sym, ap, ◌∙◌, arith, append_assoc, append-nil}
use Rattle.advance_retreat.specs.declared.target.Target.{Target}
use Rattle.advance_retreat.specs.Kept.{typed_target, typed_targets}
use Rattle.advance_retreat.proofs.TypedRuns.{typed_more}
use Rattle.advance_retreat.proofs.TypedTargets.{told_past}
use Rattle.advance_retreat.proofs.target.Targets.take_back_typed.Goals as goal

-- the last of those that are left
split : (ts : List Target) (now : List Target) (position left : ℕ) → 0 < left → now ≡ ts ++ typed_targets position left → now ≡ (ts ++ typed_targets position (left - 1)) ++ typed_target position (left - 1) ∷ []
split ts now position left some is =
    let next : left ≡ suc (left - 1) = omega (arith, some) in
    is ∙ ap (λ (k : ℕ). ts ++ typed_targets position k) next ∙ ap (λ (us : List Target). ts ++ us) (typed_more position (left - 1))
    ∙ sym (append_assoc ts (typed_targets position (left - 1)) (typed_target position (left - 1) ∷ []))

pub take_back-requires : goal.take_back-requires
take_back-requires c =
    let q = c.requires.last in
    let left = c.loop-left.left in
    let low = c.loop-left.invariant.low in
    let some = c.loop-left-test.true in (
      q.0 ++ typed_targets c.args.newest (left - 1),
      typed_target c.args.newest (left - 1),
      split q.0 c.loop-left.self c.args.newest left some (c.loop-left.invariant.rest q.0 q.1),
      refl,
      told_past q.0 c.args.newest (left - 1) (λ j lt. q.2 j (omega (arith, lt, low))) (c.args.newest + (left - 1) + 1) (omega arith) (q.2 (left - 1) (omega (arith, low, some))),
    )

pub loop-left-preserved : goal.loop-left-preserved
loop-left-preserved c =
    let left = c.loop-left.left in
    let low = c.loop-left.invariant.low in
    record {
      low = omega (arith, low);
      rest = λ ts is. c.take_back.ensures (ts ++ typed_targets c.args.newest (left - 1)) (typed_target c.args.newest (left - 1)) (split ts c.loop-left.self c.args.newest left c.loop-left-test.true (c.loop-left.invariant.rest ts is));
    }

pub returns : goal.returns
returns c = λ ts is.
    let none : c.loop-left.left ≡ 0 = omega (arith, c.loop-left-test.false) in
    c.loop-left.invariant.rest ts is ∙ ap (λ (k : ℕ). ts ++ typed_targets c.args.newest k) none ∙ append-nil ts
