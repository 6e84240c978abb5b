use Rattle.std.proofs.Common.{◌≡◌, true, false, nat_le, rules, arith}
use Rattle.std.specs.List.Sorted.{IsPartitionPoint}
use Rattle.std.proofs.lemmas.Bool.{leb-true, leb-false}
use Rattle.std.proofs.lemmas.List.Sorted.{IsPartitionPoint-from_clause, IsPartitionedBy-leb}
use Rattle.agent_ids.specs.declared.runs.IdRun.{IdRun}
use Rattle.agent_ids.proofs.RunLists.{starts_rise}
use Rattle.agent_ids.proofs.runs.count_to.Goals.{After-count_passing}
use Rattle.agent_ids.proofs.runs.count_to.Goals as goal

point : (c : After-count_passing) → IsPartitionPoint (λ (r : IdRun). nat_le r.start c.args.place ≡ true) (λ (r : IdRun). nat_le r.start c.args.place ≡ false) c.args.runs.now c.count_passing.result
point c =
    IsPartitionPoint-from_clause (λ (r : IdRun). nat_le r.start c.args.place) c.args.runs.now c.count_passing.result c.count_passing.ensures.partitioned
    (IsPartitionedBy-leb (λ (r : IdRun). r.start) c.args.runs.now c.args.place (λ i j d l m. starts_rise c.args.runs.now 0 c.requires.0 i j d c.requires.1 l m))
    (λ a r f' h. search rules)

pub returns-then-all_begin_to-clause-to : goal.returns-then-all_begin_to-clause-to
returns-then-all_begin_to-clause-to c = c.all_begin_to.ensures c.if-all_begin_to.true

pub returns-then-all_begin_to-clause-behind : goal.returns-then-all_begin_to-clause-behind
returns-then-all_begin_to-clause-behind c = λ k d l m. absurd (omega (arith, l, m))

pub returns-clause-to : goal.returns-clause-to
returns-clause-to c = λ k d l m. leb-true _ _ ((point c).0 k d l m)

pub returns-clause-behind : goal.returns-clause-behind
returns-clause-behind c = λ k d l m. leb-false _ _ ((point c).1 k d l m)
