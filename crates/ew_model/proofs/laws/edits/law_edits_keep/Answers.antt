use Rattle.ew_model.proofs.EditLaws.{edits_keep}
use Rattle.ew_model.proofs.laws.edits.law_edits_keep.Goals as goal

pub returns : goal.returns
returns c = edits_keep
