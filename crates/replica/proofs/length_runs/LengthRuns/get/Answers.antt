use Rattle.std.proofs.Common.{◌≡◌, ◌∙◌, ◌<◌, ℕ, List, Some, slice_get, length, sym, ap, subst, arith}
use Rattle.replica.specs.declared.length_runs.LengthRun.{LengthRun}
use Rattle.replica.specs.LengthRuns.{lengths_in, AreLengthRuns}
use Rattle.replica.proofs.LengthRunLaws.{length-lengths_in}
use Rattle.replica.proofs.length_runs.LengthRuns.get.Goals as goal
use Rattle.replica.proofs.length_runs.LengthRuns.get.Goals.{After-deref}

within : (c : After-deref) → c.args.place < c.self.inside.count
within c =
    let first = c.self.invariant.first in
    let all = length-lengths_in c.self.inside.runs.items c.self.inside.count c.self.invariant.row in
    let seen = ap length c.self.view_is in
    let low = c.requires in
    omega (arith, first, all, seen, low)

are : (c : After-deref) → AreLengthRuns c.deref.result.now c.self.inside.count
are c = subst (λ (rs : List LengthRun). AreLengthRuns rs c.self.inside.count) (sym c.deref.ensures.value) c.self.invariant

pub length_at-requires : goal.length_at-requires
length_at-requires c = let i = (goal.at.length_at-requires c).After-deref in (c.self.inside.count, are i, within i, omega arith)

pub returns : goal.returns
returns c =
    let i = (goal.at.returns c).After-deref in
    let count = c.self.inside.count in
    let seen = ap (λ (rs : List LengthRun). lengths_in rs count) c.deref.ensures.value ∙ c.self.view_is in
    subst (λ (ls : List ℕ). slice_get ls c.args.place ≡ Some c.length_at.result) seen (c.length_at.ensures count (are i) (within i))
