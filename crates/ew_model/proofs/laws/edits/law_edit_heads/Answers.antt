use Rattle.ew_model.proofs.EditLaws.{heads_after_edit}
use Rattle.ew_model.proofs.laws.edits.law_edit_heads.Goals as goal

pub returns : goal.returns
returns c = heads_after_edit
