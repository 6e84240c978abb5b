use Rattle.std.proofs.Common.{◌≡◌, true, false, nat_lt, rules, arith}
use Rattle.std.specs.List.Sorted.{IsPartitionPoint}
use Rattle.std.proofs.lemmas.Bool.{ltb-true, ltb-false}
use Rattle.std.proofs.lemmas.List.Sorted.{IsPartitionPoint-from_clause, IsPartitionedBy-ltb}
use Rattle.event_runs.specs.declared.runs.Run.{Run}
use Rattle.event_runs.proofs.RunEvents.{starts_rise}
use Rattle.event_runs.proofs.runs.count_below.Goals.{After-count_passing}
use Rattle.event_runs.proofs.runs.count_below.Goals as goal

point : (c : After-count_passing) → IsPartitionPoint (λ (r : Run). nat_lt r.start c.args.end ≡ true) (λ (r : Run). nat_lt r.start c.args.end ≡ false) c.args.runs.now c.count_passing.result
point c =
    IsPartitionPoint-from_clause (λ (r : Run). nat_lt r.start c.args.end) c.args.runs.now c.count_passing.result c.count_passing.ensures.partitioned
    (IsPartitionedBy-ltb (λ (r : Run). r.start) c.args.runs.now c.args.end (λ i j d l m. starts_rise c.args.runs.now c.requires.0 0 0 c.requires.1 c.requires.2 i j d c.requires.3 l m))
    (λ a r f' h. search rules)

pub returns-then-all_begin_below-clause-below : goal.returns-then-all_begin_below-clause-below
returns-then-all_begin_below-clause-below c = c.all_begin_below.ensures c.if-all_begin_below.true

pub returns-then-all_begin_below-clause-above : goal.returns-then-all_begin_below-clause-above
returns-then-all_begin_below-clause-above c = λ k d l m. absurd (omega (arith, l, m))

pub returns-clause-below : goal.returns-clause-below
returns-clause-below c = λ k d l m. ltb-true _ _ ((point c).0 k d l m)

pub returns-clause-above : goal.returns-clause-above
returns-clause-above c = λ k d l m. ltb-false _ _ ((point c).1 k d l m)
