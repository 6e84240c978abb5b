use Rattle.std.proofs.Common.{◌≡◌, true, false, nat_le, rules}
use Rattle.std.specs.List.Sorted.{IsPartitionPoint}
use Rattle.std.proofs.lemmas.Bool.{leb-true, leb-false}
use Rattle.std.proofs.lemmas.List.Sorted.{IsPartitionPoint-from_clause, IsPartitionedBy-leb}
use Rattle.advance_retreat.specs.declared.run.Run.{Run}
use Rattle.advance_retreat.proofs.RunLaws.{starts_rise}
use Rattle.advance_retreat.proofs.runs.count_to.Goals.{After-count_passing}
use Rattle.advance_retreat.proofs.runs.count_to.Goals as goal

point : (c : After-count_passing) → IsPartitionPoint (λ (x : Run). nat_le x.first c.args.lv ≡ true) (λ (x : Run). nat_le x.first c.args.lv ≡ false) c.args.runs.now c.count_passing.result
point c =
    IsPartitionPoint-from_clause (λ (x : Run). nat_le x.first c.args.lv) c.args.runs.now c.count_passing.result c.count_passing.ensures.partitioned
    (IsPartitionedBy-leb (λ (x : Run). x.first) c.args.runs.now c.args.lv (λ i j d l m. starts_rise c.args.runs.now 0 i j d c.requires l m))
    (λ a r f' h. search rules)

pub returns-clause-to : goal.returns-clause-to
returns-clause-to c = λ k d l m. leb-true _ _ ((point c).0 k d l m)

pub returns-clause-behind : goal.returns-clause-behind
returns-clause-behind c = λ k d l m. leb-false _ _ ((point c).1 k d l m)
