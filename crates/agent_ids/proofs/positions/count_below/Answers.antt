use Rattle.std.proofs.Common.{◌≡◌, true, false, nat_lt, rules}
use Rattle.std.specs.List.Sorted.{IsPartitionPoint}
use Rattle.std.proofs.lemmas.Bool.{ltb-true, ltb-false}
use Rattle.std.proofs.lemmas.List.Sorted.{IsPartitionPoint-from_clause, IsPartitionedBy-ltb}
use Rattle.agent_ids.specs.declared.positions.PositionRun.{PositionRun}
use Rattle.agent_ids.proofs.PositionLists.{seqs_rise}
use Rattle.agent_ids.proofs.positions.count_below.Goals.{After-count_passing}
use Rattle.agent_ids.proofs.positions.count_below.Goals as goal

point : (c : After-count_passing) → IsPartitionPoint (λ (r : PositionRun). nat_lt r.seq c.args.seq ≡ true) (λ (r : PositionRun). nat_lt r.seq c.args.seq ≡ false) c.args.runs.now c.count_passing.result
point c =
    IsPartitionPoint-from_clause (λ (r : PositionRun). nat_lt r.seq c.args.seq) c.args.runs.now c.count_passing.result c.count_passing.ensures.partitioned
    (IsPartitionedBy-ltb (λ (r : PositionRun). r.seq) c.args.runs.now c.args.seq (λ i j d l m. seqs_rise c.args.runs.now 0 c.requires.0 i j d c.requires.1 l m))
    (λ a r f' h. search rules)

pub returns-clause-below : goal.returns-clause-below
returns-clause-below c = λ k d l m. ltb-true _ _ ((point c).0 k d l m)

pub returns-clause-behind : goal.returns-clause-behind
returns-clause-behind c = λ k d l m. ltb-false _ _ ((point c).1 k d l m)
