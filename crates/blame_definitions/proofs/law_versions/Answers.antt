use Rattle.blame_definitions.proofs.Joins.{versions_blame_alone}
use Rattle.blame_definitions.proofs.law_versions.Goals as goal

pub returns : goal.returns
returns c = versions_blame_alone
