use Rattle.blame_definitions.proofs.Fronts.{shown_longest}
use Rattle.blame_definitions.proofs.law_shown.Goals as goal

pub returns : goal.returns
returns c = shown_longest
