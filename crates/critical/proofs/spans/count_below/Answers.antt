use Rattle.std.proofs.Common.{◌≡◌, true, false, nat_lt, rules}
use Rattle.std.specs.List.Sorted.{IsPartitionPoint}
use Rattle.std.proofs.lemmas.Bool.{ltb-true, ltb-false}
use Rattle.std.proofs.lemmas.List.Sorted.{IsPartitionPoint-from_clause, IsPartitionedBy-ltb}
use Rattle.critical.specs.declared.spans.CutSpan.{CutSpan}
use Rattle.critical.proofs.SpanSearches.{firsts_rise}
use Rattle.critical.proofs.spans.count_below.Goals.{After-count_passing}
use Rattle.critical.proofs.spans.count_below.Goals as goal

point : (c : After-count_passing) → IsPartitionPoint (λ (s : CutSpan). nat_lt s.first c.args.end ≡ true) (λ (s : CutSpan). nat_lt s.first c.args.end ≡ false) c.args.spans.now c.count_passing.result
point c =
    IsPartitionPoint-from_clause (λ (s : CutSpan). nat_lt s.first c.args.end) c.args.spans.now c.count_passing.result c.count_passing.ensures.partitioned
    (IsPartitionedBy-ltb (λ (s : CutSpan). s.first) c.args.spans.now c.args.end (firsts_rise c.args.spans.now c.requires))
    (λ a r f' h. search rules)

pub returns-clause-below : goal.returns-clause-below
returns-clause-below c = λ k d l m. ltb-true _ _ ((point c).0 k d l m)

pub returns-clause-above : goal.returns-clause-above
returns-clause-above c = λ k d l m. ltb-false _ _ ((point c).1 k d l m)
