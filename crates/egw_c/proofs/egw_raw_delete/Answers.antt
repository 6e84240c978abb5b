use Rattle.std.proofs.Common.{[], subst, ◌∙◌}
use Rattle.ew_model.specs.Edits.Edit.{Delete}
use Rattle.egw_c.specs.Documents.{Shown}
use Rattle.egw_c.specs.Exports.{TellsEdit}
use Rattle.egw_c.proofs.Told.{edit_told}
use Rattle.egw_c.proofs.egw_raw_delete.Goals as goal

pub returns : goal.returns
returns c =
    subst (λ (d : Shown). TellsEdit c.args.agent.now [] (Delete c.args.at c.args.count) d.replica c.edited-answer.result) (c.deref_mut.ensures.value ∙ c.into_document-document.ensures)
    (edit_told c.args.agent.now [] (Delete c.args.at c.args.count) c.deref_mut.result.now c.delete.new.self c.delete.result c.edited-answer.result c.delete.ensures.may c.delete.ensures.edits c.delete.ensures.refused c.edited-answer.ensures)
