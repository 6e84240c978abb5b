use Rattle.std.proofs.Common.{subst, ◌∙◌}
use Rattle.egw_c.specs.Documents.{Shown}
use Rattle.egw_c.specs.Exports.{TellsUndo}
use Rattle.egw_c.proofs.Told.{undo_told}
use Rattle.egw_c.proofs.egw_raw_undo.Goals as goal

pub returns : goal.returns
returns c =
    subst (λ (d : Shown). TellsUndo c.args.agent.now c.args.of.now c.args.count d.replica c.undone-answer.result) (c.deref_mut.ensures.value ∙ c.into_document-document.ensures)
    (undo_told c.args.agent.now c.args.of.now c.args.count c.deref_mut.result.now c.undo.new.self c.undo.result c.undone-answer.result c.undo.ensures.undoes c.undo.ensures.refused c.undone-answer.ensures)
