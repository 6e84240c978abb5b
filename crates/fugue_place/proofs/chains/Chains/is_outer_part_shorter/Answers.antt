use Rattle.std.proofs.Common.{◌≡◌, ◌+◌, ◌<◌, length, Some, sym, ◌∙◌, arith}
use Rattle.fugue_place.specs.Chains.{follower}
use Rattle.fugue_place.proofs.chains.Chains.is_outer_part_shorter.Goals as goal

pub loop-k-smaller : goal.loop-k-smaller
loop-k-smaller c =
    let xs = c.args.self.now.outer.items in
    let count = c.requires.1.outer in
    let low : c.loop-k.outer + 1 < length xs = c.loop-k.invariant.0 in
    let read : follower xs c.loop-k.outer ≡ Some c.in-Some.k = sym c.follower.ensures ∙ c.in-Some.is in
    let step = c.requires.1.chains.step c.loop-k.outer c.in-Some.k (omega arith) read in
    let later : c.loop-k.outer < c.in-Some.k = step.later in
    let within : c.in-Some.k < c.requires.0 = step.within in
    omega arith

pub loop-k-preserved : goal.loop-k-preserved
loop-k-preserved c =
    let xs = c.args.self.now.outer.items in
    let count = c.requires.1.outer in
    let low : c.loop-k.outer + 1 < length xs = c.loop-k.invariant.0 in
    let inside : c.loop-k.inner + 1 < length xs = c.loop-k.invariant.1 in
    let read : follower xs c.loop-k.outer ≡ Some c.in-Some.k = sym c.follower.ensures ∙ c.in-Some.is in
    let step = c.requires.1.chains.step c.loop-k.outer c.in-Some.k (omega arith) read in
    let within : c.in-Some.k < c.requires.0 = step.within in
    let earlier : c.in-Some-leader.j < c.loop-k.inner = c.requires.1.chains.inward c.loop-k.inner c.in-Some-leader.j (omega arith) c.in-Some-leader.ensures.some.0 in
    (omega arith, omega arith)
