use Rattle.std.proofs.Common.{◌≡◌, ℕ, true, false, nat_le, rules}
use Rattle.std.specs.List.Sorted.{IsPartitionPoint}
use Rattle.std.proofs.lemmas.Bool.{leb-true, leb-false}
use Rattle.std.proofs.lemmas.List.Sorted.{IsPartitionPoint-from_clause, IsPartitionedBy-leb}
use Rattle.fugue_place.proofs.HeadSearch.{heads_sorted}
use Rattle.fugue_place.proofs.heads.heads_to.Goals.{After-count_passing}
use Rattle.fugue_place.proofs.heads.heads_to.Goals as goal

point : (c : After-count_passing) → IsPartitionPoint (λ (h : ℕ). nat_le h c.args.at ≡ true) (λ (h : ℕ). nat_le h c.args.at ≡ false) c.args.heads.now c.count_passing.result
point c =
    IsPartitionPoint-from_clause (λ (h : ℕ). nat_le h c.args.at) c.args.heads.now c.count_passing.result c.count_passing.ensures.partitioned
    (IsPartitionedBy-leb (λ (h : ℕ). h) c.args.heads.now c.args.at (heads_sorted c.args.heads.now c.requires))
    (λ a r f' h. search rules)

pub returns-clause-to : goal.returns-clause-to
returns-clause-to c = λ k d l m. leb-true _ _ ((point c).0 k d l m)

pub returns-clause-behind : goal.returns-clause-behind
returns-clause-behind c = λ k d l m. leb-false _ _ ((point c).1 k d l m)
