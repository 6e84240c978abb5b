use Rattle.std.proofs.Common.{◌≡◌, true, false, nat_le, rules}
use Rattle.std.specs.List.Sorted.{IsPartitionPoint}
use Rattle.std.proofs.lemmas.Bool.{leb-true, leb-false}
use Rattle.std.proofs.lemmas.List.Sorted.{IsPartitionPoint-from_clause, IsPartitionedBy-leb}
use Rattle.event_file.specs.declared.id_runs.IdRun.{IdRun}
use Rattle.event_file.proofs.IdRuns.{starts_rise}
use Rattle.event_file.proofs.id_runs.count_to.Goals.{After-partition_point}
use Rattle.event_file.proofs.id_runs.count_to.Goals as goal

point : (c : After-partition_point) → IsPartitionPoint (λ (r : IdRun). nat_le r.start c.args.position ≡ true) (λ (r : IdRun). nat_le r.start c.args.position ≡ false) c.args.runs.now c.partition_point.result
point c =
    IsPartitionPoint-from_clause (λ (r : IdRun). nat_le r.start c.args.position) c.args.runs.now c.partition_point.result c.partition_point.ensures.partitioned
    (IsPartitionedBy-leb (λ (r : IdRun). r.start) c.args.runs.now c.args.position (λ i j d l m. starts_rise c.args.runs.now 0 i j d c.requires l m))
    (λ a r f' h. search rules)

pub returns-clause-to : goal.returns-clause-to
returns-clause-to c = λ k d l m. leb-true _ _ ((point c).0 k d l m)

pub returns-clause-behind : goal.returns-clause-behind
returns-clause-behind c = λ k d l m. leb-false _ _ ((point c).1 k d l m)
