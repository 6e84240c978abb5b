use Rattle.table_laws.proofs.FramingLaws.{framings_are_one}
use Rattle.table_laws.proofs.law_framings_one.Goals as goal

pub returns : goal.returns
returns c = framings_are_one
