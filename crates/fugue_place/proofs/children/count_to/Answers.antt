use Rattle.std.proofs.Common.{◌≡◌, true, false, nat_le, rules}
use Rattle.std.specs.List.Sorted.{IsPartitionPoint}
use Rattle.std.proofs.lemmas.Bool.{leb-true, leb-false}
use Rattle.std.proofs.lemmas.List.Sorted.{IsPartitionPoint-from_clause, IsPartitionedBy-leb}
use Rattle.fugue_place.specs.declared.children.Run.{Run}
use Rattle.fugue_place.proofs.RunLaws.{places_rise}
use Rattle.fugue_place.proofs.children.count_to.Goals.{After-count_passing}
use Rattle.fugue_place.proofs.children.count_to.Goals as goal

point : (c : After-count_passing) → IsPartitionPoint (λ (r : Run). nat_le r.place c.args.place ≡ true) (λ (r : Run). nat_le r.place c.args.place ≡ false) c.args.runs.now c.count_passing.result
point c =
    IsPartitionPoint-from_clause (λ (r : Run). nat_le r.place c.args.place) c.args.runs.now c.count_passing.result c.count_passing.ensures.partitioned
    (IsPartitionedBy-leb (λ (r : Run). r.place) c.args.runs.now c.args.place (λ i j d l m. places_rise c.requires.0 c.args.runs.now 0 c.requires.1 i j d c.requires.2 l m))
    (λ a r f' h. search rules)

pub returns-clause-to : goal.returns-clause-to
returns-clause-to c = λ k d l m. leb-true _ _ ((point c).0 k d l m)

pub returns-clause-behind : goal.returns-clause-behind
returns-clause-behind c = λ k d l m. leb-false _ _ ((point c).1 k d l m)
