use Rattle.std.proofs.Common.{◌≡◌, ℕ, true, false, nat_le, rules}
use Rattle.std.specs.List.Sorted.{IsPartitionPoint}
use Rattle.std.proofs.lemmas.Bool.{leb-true, leb-false}
use Rattle.std.proofs.lemmas.List.Sorted.{IsPartitionPoint-from_clause, IsPartitionedBy-leb}
use Rattle.predecessor_map.proofs.EntryLaws.{never_falls}
use Rattle.predecessor_map.proofs.block.count_up_to.Goals.{After-count_passing}
use Rattle.predecessor_map.proofs.block.count_up_to.Goals as goal

point : (c : After-count_passing) → IsPartitionPoint (λ (e : ℕ × ℕ). nat_le e.0 c.args.offset ≡ true) (λ (e : ℕ × ℕ). nat_le e.0 c.args.offset ≡ false) c.args.entries.now c.count_passing.result
point c =
    IsPartitionPoint-from_clause (λ (e : ℕ × ℕ). nat_le e.0 c.args.offset) c.args.entries.now c.count_passing.result c.count_passing.ensures.partitioned
    (IsPartitionedBy-leb (λ (e : ℕ × ℕ). e.0) c.args.entries.now c.args.offset (never_falls c.args.entries.now c.requires))
    (λ a r f' h. search rules)

pub returns-clause-to : goal.returns-clause-to
returns-clause-to c = λ k d l m. leb-true _ _ ((point c).0 k d l m)

pub returns-clause-behind : goal.returns-clause-behind
returns-clause-behind c = λ k d l m. leb-false _ _ ((point c).1 k d l m)
