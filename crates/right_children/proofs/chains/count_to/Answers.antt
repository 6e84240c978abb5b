use Rattle.std.proofs.Common.{◌≡◌, true, false, nat_le, rules}
use Rattle.std.specs.List.Sorted.{IsPartitionPoint}
use Rattle.std.proofs.lemmas.Bool.{leb-true, leb-false}
use Rattle.std.proofs.lemmas.List.Sorted.{IsPartitionPoint-from_clause, IsPartitionedBy-leb}
use Rattle.right_children.specs.declared.chains.Chain.{Chain}
use Rattle.right_children.proofs.ChainLaws.{starts_rise}
use Rattle.right_children.proofs.chains.count_to.Goals.{After-count_passing}
use Rattle.right_children.proofs.chains.count_to.Goals as goal

point : (c : After-count_passing) → IsPartitionPoint (λ (x : Chain). nat_le x.first c.args.position ≡ true) (λ (x : Chain). nat_le x.first c.args.position ≡ false) c.args.chains.now c.count_passing.result
point c =
    IsPartitionPoint-from_clause (λ (x : Chain). nat_le x.first c.args.position) c.args.chains.now c.count_passing.result c.count_passing.ensures.partitioned
    (IsPartitionedBy-leb (λ (x : Chain). x.first) c.args.chains.now c.args.position (λ i j d l m. starts_rise c.args.chains.now 0 i j d c.requires l m))
    (λ a r f' h. search rules)

pub returns-clause-to : goal.returns-clause-to
returns-clause-to c = λ k d l m. leb-true _ _ ((point c).0 k d l m)

pub returns-clause-behind : goal.returns-clause-behind
returns-clause-behind c = λ k d l m. leb-false _ _ ((point c).1 k d l m)
