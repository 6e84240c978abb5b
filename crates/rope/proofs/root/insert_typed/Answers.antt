use Rattle.std.proofs.Common.{◌+◌, ◌≤◌, length, length-append, arith, ap}
use Rattle.std.proofs.lemmas.Bool.{false≢true}
use Rattle.rope.specs.Lengths.{most_chars}
use Rattle.rope.specs.Shape.{IsSound}
use Rattle.rope.specs.Rights.{chars_of_right}
use Rattle.rope.specs.Typed.{typed}
use Rattle.rope.proofs.SpareCounts.{shallow}
use Rattle.rope.proofs.TypedRuns.{length-with_more}
use Rattle.rope.proofs.root.insert_typed.Goals as goal

pub insert-requires-clause-above : goal.insert-requires-clause-above
insert-requires-clause-above c =
    let branch = c.in-Some.branch in
    let sound : IsSound branch = rw c.in-Some.is at c.requires.root in
    let short : length branch.chars + length (typed c.args.ops.now) ≤ most_chars = rw c.in-Some.is at c.requires.short in
    let low = shallow branch sound (omega (arith, short)) in
    omega (arith, low)

pub returns-in_err-right-clause-nodes : goal.returns-in_err-right-clause-nodes
returns-in_err-right-clause-nodes c =
    let branch = c.in-Some.branch in
    let sound : IsSound branch = rw c.in-Some.is at c.requires.root in
    let short : length branch.chars + length (typed c.args.ops.now) ≤ most_chars = rw c.in-Some.is at c.requires.short in
    let low = shallow branch sound (omega (arith, short)) in
    omega (arith, c.insert.ensures.nodes, low)

pub returns-in_err-right-clause-sure : goal.returns-in_err-right-clause-sure
returns-in_err-right-clause-sure c =
    let branch = c.in-Some.branch in
    let sound : IsSound branch = rw c.in-Some.is at c.requires.root in
    let short : length branch.chars + length (typed c.args.ops.now) ≤ most_chars = rw c.in-Some.is at c.requires.short in
    let low = shallow branch sound (omega (arith, short)) in
    λ (a : 1 ≤ c.args.spares.now.leaves) (b : 25 ≤ c.args.spares.now.nodes). absurd (false≢true (c.in_err-right.ensures.sure a (omega (arith, low, b))))

pub raise-requires-clause-small : goal.raise-requires-clause-small
raise-requires-clause-small c =
    let branch = c.in-Some.branch in
    let short : length branch.chars + length (typed c.args.ops.now) ≤ most_chars = rw c.in-Some.is at c.requires.short in
    let grown = c.in_ok-right.ensures.grown in
    omega (arith, ap length grown.chars, length-append c.insert.new.self.chars (chars_of_right c.in_ok-right.right), length-with_more branch.chars (typed c.args.ops.now) c.args.at, short)

pub raise-requires-clause-deep : goal.raise-requires-clause-deep
raise-requires-clause-deep c =
    let branch = c.in-Some.branch in
    let sound : IsSound branch = rw c.in-Some.is at c.requires.root in
    let short : length branch.chars + length (typed c.args.ops.now) ≤ most_chars = rw c.in-Some.is at c.requires.short in
    let low = shallow branch sound (omega (arith, short)) in
    omega (arith, c.in_ok-right.ensures.grown.depth, low)

pub returns-clause-nodes : goal.returns-clause-nodes
returns-clause-nodes c =
    let branch = c.in-Some.branch in
    let sound : IsSound branch = rw c.in-Some.is at c.requires.root in
    let short : length branch.chars + length (typed c.args.ops.now) ≤ most_chars = rw c.in-Some.is at c.requires.short in
    let low = shallow branch sound (omega (arith, short)) in
    omega (arith, c.insert.ensures.nodes, c.raise.ensures.nodes, low)
