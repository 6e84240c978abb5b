use Rattle.table_laws.proofs.FramingLaws.{framings_are_found}
use Rattle.table_laws.proofs.law_framings_found.Goals as goal

pub returns : goal.returns
returns c = framings_are_found
