use Rattle.std.proofs.Common.{◌≡◌, ◌+◌, ◌-◌, ℕ, List, length, arith, sym, ap, ◌∙◌}
use Rattle.rope.specs.Deletions.{without}
use Rattle.rope.specs.Whole.{chars_of_root}
use Rattle.rope.proofs.DeletionRuns.{length-without, without_none, without_twice}
use Rattle.rope.proofs.root.remove_chars.Goals as goal

pub loop-left-preserved : goal.loop-left-preserved
loop-left-preserved c =
    let text = chars_of_root c.loop-left.root in
    let at = c.args.at in
    let left = c.loop-left.left in
    let out = c.remove_in_leaf-left.result in
    let done = c.remove_in_leaf-left.ensures in
    let before = c.loop-left.invariant in
    let whole : out + (left - out) ≡ left = omega (arith, done.most) in
    let long = ap length done.chars in
    let short = length-without text at out done.inside in (
      ap (λ (cs : List ℕ). without cs at (left - out)) done.chars ∙ without_twice text at out (left - out) (omega (arith, before.1)) ∙ ap (without text at) whole ∙ before.0,
      omega (arith, long, short, whole, before.1),
      omega (arith, long, short, before.2),
      done.root,
    )

pub returns-clause-chars : goal.returns-clause-chars
returns-clause-chars c =
    let text = chars_of_root c.loop-left.root in
    let none : c.loop-left.left ≡ 0 = omega (arith, c.loop-left-test.false) in
    sym (without_none text c.args.at) ∙ ap (without text c.args.at) (sym none) ∙ c.loop-left.invariant.0
