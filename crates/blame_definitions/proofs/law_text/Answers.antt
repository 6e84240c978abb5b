use Rattle.blame_definitions.proofs.Joins.{make_text}
use Rattle.blame_definitions.proofs.law_text.Goals as goal

pub returns : goal.returns
returns c = make_text
