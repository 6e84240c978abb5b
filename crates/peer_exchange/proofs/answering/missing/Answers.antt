use Rattle.std.proofs.Common.{List, sym, subst}
use Rattle.std.specs.List.{IsDistinct}
use Rattle.std.specs.Map.{keys_of}
use Rattle.ew_model.specs.Ids.{name_eq}
use Rattle.peer_definitions.specs.Spelling.{AgentCount}
use Rattle.peer_exchange.proofs.Ascending.{ascending_distinct}
use Rattle.peer_exchange.proofs.answering.missing.Goals as goal

pub missing-requires : goal.missing-requires
missing-requires c =
    subst (λ (counts : List AgentCount). IsDistinct name_eq (keys_of counts)) (sym c.as_slice.ensures)
    (ascending_distinct (keys_of c.args.counts.now) c.requires.content.0)
