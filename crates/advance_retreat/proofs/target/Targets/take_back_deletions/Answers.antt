use Rattle.std.proofs.Common.{◌≡◌, ℕ, suc, ◌+◌, ◌-◌, ◌<◌, List, [], ◌∷◌, ◌++◌, refl, ap, ◌∙◌, arith, append-nil}
use Rattle.ew_model.specs.declared.node.Node.{Node}
use Rattle.walker_record.specs.Stretches.{node_on}
use Rattle.advance_retreat.specs.declared.target.Target.{Target}
use Rattle.advance_retreat.specs.Kept.{deletion_targets}
use Rattle.advance_retreat.proofs.DeletingEach.{one_more, untold_past}
use Rattle.advance_retreat.proofs.target.Targets.take_back_deletions.Goals as goal

-- the last of those that are left
split : (ts : List Target) (now : List Target) (lv : ℕ) (v : Node) (left : ℕ) → 0 < left → now ≡ ts ++ deletion_targets lv v left
    → now ≡ (ts ++ deletion_targets lv v (left - 1)) ++ record { lv = lv + (left - 1); node = node_on v (left - 1) } ∷ []
split ts now lv v left some is =
    let next : left ≡ suc (left - 1) = omega (arith, some) in
    is ∙ ap (λ (k : ℕ). ts ++ deletion_targets lv v k) next ∙ one_more ts lv v (left - 1)

pub take_back-requires : goal.take_back-requires
take_back-requires c =
    let q = c.requires.last in
    let left = c.loop-left.left in
    let low = c.loop-left.invariant.low in
    let some = c.loop-left-test.true in (
      q.0 ++ deletion_targets c.args.lv c.args.node (left - 1),
      record { lv = c.args.lv + (left - 1); node = node_on c.args.node (left - 1) },
      split q.0 c.loop-left.self c.args.lv c.args.node left some (c.loop-left.invariant.rest q.0 q.1),
      refl,
      untold_past q.0 c.args.lv c.args.node (left - 1) (λ j lt. q.2 j (omega (arith, lt, low))) (c.args.lv + (left - 1)) (omega arith) (q.2 (left - 1) (omega (arith, low, some))),
    )

pub loop-left-preserved : goal.loop-left-preserved
loop-left-preserved c =
    let left = c.loop-left.left in
    let low = c.loop-left.invariant.low in
    record {
      low = omega (arith, low);
      rest = λ ts is. c.take_back.ensures (ts ++ deletion_targets c.args.lv c.args.node (left - 1)) (record { lv = c.args.lv + (left - 1); node = node_on c.args.node (left - 1) })
          (split ts c.loop-left.self c.args.lv c.args.node left c.loop-left-test.true (c.loop-left.invariant.rest ts is));
    }

pub returns : goal.returns
returns c = λ ts is.
    let none : c.loop-left.left ≡ 0 = omega (arith, c.loop-left-test.false) in
    c.loop-left.invariant.rest ts is ∙ ap (λ (k : ℕ). ts ++ deletion_targets c.args.lv c.args.node k) none ∙ append-nil ts
