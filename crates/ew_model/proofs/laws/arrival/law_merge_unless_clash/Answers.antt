use Rattle.ew_model.proofs.MergeByAnswers.{merge_unless_clash}
use Rattle.ew_model.proofs.laws.arrival.law_merge_unless_clash.Goals as goal

pub returns : goal.returns
returns c = merge_unless_clash
