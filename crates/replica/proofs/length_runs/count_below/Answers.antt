use Rattle.std.proofs.Common.{◌≡◌, true, false, nat_lt, rules}
use Rattle.std.specs.List.Sorted.{IsPartitionPoint}
use Rattle.std.proofs.lemmas.Bool.{ltb-true, ltb-false}
use Rattle.std.proofs.lemmas.List.Sorted.{IsPartitionPoint-from_clause, IsPartitionedBy-ltb}
use Rattle.replica.specs.declared.length_runs.LengthRun.{LengthRun}
use Rattle.replica.proofs.LengthRunLaws.{starts_rise}
use Rattle.replica.proofs.length_runs.count_below.Goals.{After-count_passing}
use Rattle.replica.proofs.length_runs.count_below.Goals as goal

point : (c : After-count_passing) → IsPartitionPoint (λ (r : LengthRun). nat_lt r.start c.args.end ≡ true) (λ (r : LengthRun). nat_lt r.start c.args.end ≡ false) c.args.runs.now c.count_passing.result
point c =
    IsPartitionPoint-from_clause (λ (r : LengthRun). nat_lt r.start c.args.end) c.args.runs.now c.count_passing.result c.count_passing.ensures.partitioned
    (IsPartitionedBy-ltb (λ (r : LengthRun). r.start) c.args.runs.now c.args.end (λ i j d l m. starts_rise c.args.runs.now c.requires.0 i j d c.requires.1.row l m))
    (λ a r f' h. search rules)

pub returns-clause-below : goal.returns-clause-below
returns-clause-below c = λ k d l m. ltb-true _ _ ((point c).0 k d l m)

pub returns-clause-above : goal.returns-clause-above
returns-clause-above c = λ k d l m. ltb-false _ _ ((point c).1 k d l m)
