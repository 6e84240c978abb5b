use Rattle.ew_model.proofs.RecordLaws.{records_tell}
use Rattle.ew_model.proofs.laws.walker.law_records.Goals as goal

pub returns : goal.returns
returns c = records_tell
