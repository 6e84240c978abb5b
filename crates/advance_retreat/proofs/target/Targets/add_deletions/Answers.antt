use Rattle.std.proofs.Common.{◌≡◌, ℕ, suc, ◌+◌, List, ◌∷◌, ◌++◌, [], sym, ap, ◌∙◌, arith, append-nil}
use Rattle.ew_model.specs.declared.node.Node.{Node}
use Rattle.walker_record.specs.Stretches.{node_on}
use Rattle.walker_record.specs.StretchLaws.{fewer_numbers}
use Rattle.advance_retreat.specs.declared.target.Target.{Target}
use Rattle.advance_retreat.specs.Kept.{target_at, deletion_targets}
use Rattle.advance_retreat.proofs.DeletingEach.{one_more, untold_past}
use Rattle.advance_retreat.proofs.target.Targets.add_deletions.Goals as goal

pub loop-place-init : goal.loop-place-init
loop-place-init c = record { low = omega arith; added = sym (append-nil c.args.self.now) }

pub node_on-requires : goal.node_on-requires
node_on-requires c = fewer_numbers c.args.node c.args.count (c.loop-place.place + 1) (omega (arith, c.loop-place-test.true)) c.requires.numbers

pub add-requires : goal.add-requires
add-requires c =
    let old = c.args.self.now in
    let place = c.loop-place.place in
    let low = c.loop-place-test.true in
    ap (λ (ts : List Target). target_at ts (c.args.lv + place)) c.loop-place.invariant.added
    ∙ untold_past old c.args.lv c.args.node place (λ j lt. c.requires.new j (omega (arith, lt, low))) (c.args.lv + place) (omega arith) (c.requires.new place low)

pub loop-place-preserved : goal.loop-place-preserved
loop-place-preserved c =
    let old = c.args.self.now in
    let place = c.loop-place.place in
    let next : place + 1 ≡ suc place = omega arith in
    record {
      low = omega (arith, c.loop-place-test.true);
      added = c.in_default.ensures.ok
          ∙ ap (λ (v : Node). c.loop-place.self ++ record { lv = c.args.lv + place; node = v } ∷ []) c.node_on.ensures
          ∙ ap (λ (ts : List Target). ts ++ record { lv = c.args.lv + place; node = node_on c.args.node place } ∷ []) c.loop-place.invariant.added
          ∙ sym (one_more old c.args.lv c.args.node place)
          ∙ ap (λ (n : ℕ). old ++ deletion_targets c.args.lv c.args.node n) (sym next);
    }

pub take_back_deletions-requires-clause-last : goal.take_back_deletions-requires-clause-last
take_back_deletions-requires-clause-last c =
    let low = c.loop-place-test.true in
    (c.args.self.now, c.in-Err.ensures.err ∙ c.loop-place.invariant.added, λ k lt. c.requires.new k (omega (arith, lt, low)))

pub returns-in-Err-clause-err : goal.returns-in-Err-clause-err
returns-in-Err-clause-err c = c.take_back_deletions.ensures c.args.self.now (c.in-Err.ensures.err ∙ c.loop-place.invariant.added)

pub returns-clause-ok : goal.returns-clause-ok
returns-clause-ok c =
    let all : c.loop-place.place ≡ c.args.count = omega (arith, c.loop-place-test.false, c.loop-place.invariant.low) in
    c.loop-place.invariant.added ∙ ap (λ (n : ℕ). c.args.self.now ++ deletion_targets c.args.lv c.args.node n) all
