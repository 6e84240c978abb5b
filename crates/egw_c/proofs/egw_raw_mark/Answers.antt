use Rattle.std.proofs.Common.{subst, ◌∙◌}
use Rattle.egw_c.specs.Documents.{Shown}
use Rattle.egw_c.specs.Exports.{TellsMark}
use Rattle.egw_c.proofs.Told.{mark_told}
use Rattle.egw_c.proofs.egw_raw_mark.Goals as goal

pub returns : goal.returns
returns c =
    subst (λ (d : Shown). TellsMark c.args.agent.now c.args.label.now d.replica c.marked-answer.result) (c.deref_mut.ensures.value ∙ c.into_document-document.ensures)
    (mark_told c.args.agent.now c.args.label.now c.deref_mut.result.now c.mark.new.self c.mark.result c.marked-answer.result c.mark.ensures.may c.mark.ensures.edits c.mark.ensures.refused c.marked-answer.ensures)
