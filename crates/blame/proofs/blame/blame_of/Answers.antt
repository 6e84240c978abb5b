use Rattle.blame_definitions.specs.Blame.{blame_text}
use Rattle.blame.proofs.blame.blame_of.Goals as goal

pub returns-clause-text : goal.returns-clause-text
unfolding blame_text
returns-clause-text g c = c.lines.ensures
