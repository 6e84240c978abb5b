use Rattle.table_laws.proofs.FramingLaws.{framings_are_cuts}
use Rattle.table_laws.proofs.law_framings_cuts.Goals as goal

pub returns : goal.returns
returns c = framings_are_cuts
