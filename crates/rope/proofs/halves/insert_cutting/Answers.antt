use Rattle.std.proofs.Common.{◌≤◌, arith}
use Rattle.rope.specs.Typed.{typed}
use Rattle.rope.proofs.TypedRuns.{more_left, more_right}
use Rattle.rope.proofs.halves.insert_cutting.Goals as goal
use Rattle.rope.proofs.halves.insert_cutting.Goals.{else-at-kept-via-then-at-kept+else-kept-ops-le-MOST_CHARS, else-at-kept-via-else-at-kept}

pub returns-then-kept-ops-le-MOST_CHARS-clause-chars : goal.returns-then-kept-ops-le-MOST_CHARS-clause-chars
returns-then-kept-ops-le-MOST_CHARS-clause-chars c =
    let kept = c.kept_of-kept.result in
    let within = rw c.len.ensures.value at c.kept_of-kept.ensures.within in
    let whole = more_left c.args.leaf.now (typed c.args.ops.now) kept c.args.at within c.if-at-kept.true in
    let put = c.put_typed.ensures.chars in
    let left = c.move_tail.ensures.left in
    let right = c.move_tail.ensures.right in
    cc

pub returns-else-at-kept-clause-chars : goal.returns-else-at-kept-clause-chars
returns-else-at-kept-clause-chars c =
    let kept = c.kept_of-kept.result in
    let within = rw c.len.ensures.value at c.kept_of-kept.ensures.within in
    let behind : kept ≤ c.args.at = elim c.else-at-kept.branch [
      | else-at-kept-via-then-at-kept+else-kept-ops-le-MOST_CHARS w ↦ grind (arith, c.kept_of-kept.ensures.first, w.if-kept-ops-le-MOST_CHARS.false, c.requires.few)
      | else-at-kept-via-else-at-kept w ↦ omega (arith, w.if-at-kept.false)
    ] in
    let whole = more_right c.args.leaf.now (typed c.args.ops.now) kept c.args.at within behind in
    let put = c.put_typed-else-at-kept.ensures.chars in
    let left = c.move_tail.ensures.left in
    let right = c.move_tail.ensures.right in
    cc
