use Rattle.std.proofs.Common.{subst, ◌∙◌}
use Rattle.std.specs.Str.{chars}
use Rattle.ew_model.specs.Edits.Edit.{Insert}
use Rattle.egw_c.specs.Documents.{Shown}
use Rattle.egw_c.specs.Exports.{TellsEdit}
use Rattle.egw_c.proofs.Told.{edit_told}
use Rattle.egw_c.proofs.egw_raw_insert.Goals as goal

pub returns : goal.returns
returns c =
    subst (λ (d : Shown). TellsEdit c.args.agent.now c.args.text.now (Insert c.args.at (chars c.args.text.now)) d.replica c.edited-answer.result) (c.deref_mut.ensures.value ∙ c.into_document-document.ensures)
    (edit_told c.args.agent.now c.args.text.now (Insert c.args.at (chars c.args.text.now)) c.deref_mut.result.now c.insert.new.self c.insert.result c.edited-answer.result c.insert.ensures.may c.insert.ensures.edits c.insert.ensures.refused c.edited-answer.ensures)
