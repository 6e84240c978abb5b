use Rattle.std.proofs.Common.{◌≡◌, true, false, rules}
use Rattle.std.specs.List.Sorted.{IsPartitionPoint}
use Rattle.std.proofs.lemmas.List.Sorted.{IsPartitionPoint-from_clause}
use Rattle.fugue_place.specs.declared.children.Run.{Run}
use Rattle.fugue_place.specs.Members.{is_ahead}
use Rattle.fugue_place.proofs.HalvingLaws.{ahead_first}
use Rattle.fugue_place.proofs.children.count_ahead.Goals.{After-count_passing}
use Rattle.fugue_place.proofs.children.count_ahead.Goals as goal

point : (c : After-count_passing) → IsPartitionPoint (λ (r : Run). is_ahead c.args.end c.args.event r ≡ true) (λ (r : Run). is_ahead c.args.end c.args.event r ≡ false) c.args.runs.now c.count_passing.result
point c =
    IsPartitionPoint-from_clause (is_ahead c.args.end c.args.event) c.args.runs.now c.count_passing.result c.count_passing.ensures.partitioned
    (ahead_first c.requires.0 c.args.runs.now c.requires.1 c.args.end c.requires.2 c.requires.3 c.args.event)
    (λ a r f' h. search rules)

pub returns-clause-to : goal.returns-clause-to
returns-clause-to c = (point c).0

pub returns-clause-behind : goal.returns-clause-behind
returns-clause-behind c = (point c).1
