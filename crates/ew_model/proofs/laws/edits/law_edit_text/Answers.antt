use Rattle.ew_model.proofs.EditLaws.{edits_change_text}
use Rattle.ew_model.proofs.laws.edits.law_edit_text.Goals as goal

pub returns : goal.returns
returns c = edits_change_text
