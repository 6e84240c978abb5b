use Rattle.std.proofs.Common.{◌≡◌, ◌∙◌, ℕ, suc, ◌-◌, ◌<◌, ◌≤◌, Some, slice_get, slice_index_or, sym, ap, arith}
use Rattle.std.proofs.lemmas.Option.{slice_get-get_or, slice_get_within, get_or_from_slice_get}
use Rattle.replica.specs.declared.length_runs.Course.TheVariants.{Rises}
use Rattle.replica.specs.declared.length_runs.LengthRun.{LengthRun}
use Rattle.replica.specs.LengthRuns.{begin_of, lengths_in, AreLengthRuns}
use Rattle.replica.proofs.LengthRunLaws.{IsReadAt, read_at, some_below}
use Rattle.replica.proofs.length_runs.length_at.Goals.{After-count_below}
use Rattle.replica.proofs.length_runs.length_at.Goals as goal

some : (c : After-count_below) → 1 ≤ c.count_below.result
some c =
    some_below c.args.runs.now c.requires.0 c.args.place c.count_below.result c.requires.1.first c.requires.2
    (λ d l m. let above = c.count_below.ensures.above 0 d l m in omega (arith, above))

-- the run that has the place
found : (c : After-count_below) → LengthRun
found c = slice_index_or c.args.runs.now (c.count_below.result - 1) (record { start = 0; before = 0; course = Rises })

read : (c : After-count_below) (count : ℕ) → AreLengthRuns c.args.runs.now count → c.args.place < count → IsReadAt (found c) (lengths_in c.args.runs.now count) (begin_of c.args.runs.now count) c.args.place
unfolding found
read c count a l =
    let runs = c.args.runs.now in
    let b = c.count_below.result in
    let d : LengthRun = record { start = 0; before = 0; course = Rises } in
    let one = some c in
    let next : suc (b - 1) ≡ b = omega (arith, one) in
    let bound = c.count_below.ensures.bound in
    let low = c.count_below.ensures.below (b - 1) d (omega arith) (omega (arith, one)) in
    read_at runs count c.args.place (b - 1) (found c) a.row l (slice_get-get_or runs (b - 1) d (omega (arith, one, bound))) (omega (arith, low)) (λ t e.
    let e2 : slice_get runs b ≡ Some t = ap (slice_get runs) (sym next) ∙ e in
    let high = c.count_below.ensures.above b t (omega arith) (slice_get_within runs b t e2) in
    let same = ap (λ (r : LengthRun). r.start) (get_or_from_slice_get runs b t t e2) in
    omega (arith, high, same))

pub overflow_sub-run : goal.overflow_sub-run
overflow_sub-run c = some c

pub after-requires : goal.after-requires
unfolding found
after-requires c = (read ((goal.at.after-requires c).After-count_below) c.requires.0 c.requires.1 c.requires.2).fits

pub returns : goal.returns
unfolding found
returns c count a l =
    let runs = c.args.runs.now in
    let first = a.first in
    let here : c.args.place - begin_of runs count ≡ c.args.place = omega (arith, first) in
    sym (ap (slice_get (lengths_in runs count)) here) ∙ (read ((goal.at.returns c).After-count_below) count a l).there ∙ sym (ap Some c.after.ensures)
