use Rattle.ew_model.proofs.EditLaws.{edits_are_good}
use Rattle.ew_model.proofs.laws.edits.law_edits.Goals as goal

pub returns : goal.returns
returns c = edits_are_good
