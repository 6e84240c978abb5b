use Rattle.history_laws.proofs.Parts.{parts_are_the_whole}
use Rattle.history_laws.proofs.law_parts.Goals as goal

pub returns : goal.returns
returns c = parts_are_the_whole
