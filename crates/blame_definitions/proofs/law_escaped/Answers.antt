use Rattle.blame_definitions.proofs.Joins.{escapes_encoded}
use Rattle.blame_definitions.proofs.law_escaped.Goals as goal

pub returns : goal.returns
returns c = escapes_encoded
