use Rattle.std.proofs.Common.{length, sym, subst, ◌∙◌}
use Rattle.egw_c.specs.declared.answer.Answer.{Answer}
use Rattle.egw_c.specs.Documents.{Shown}
use Rattle.egw_c.specs.Exports.{TellsChanges}
use Rattle.egw_c.proofs.Told.{changes_told}
use Rattle.egw_c.proofs.egw_raw_changes.Goals as goal

pub returns : goal.returns
returns c =
    let told = changes_told c.deref_mut.result.now.replica.held c.args.from c.find_changes.new.self.changes c.find_changes.result c.find_changes.ensures.found c.find_changes.ensures.within c.find_changes.ensures.refused in
    subst (λ (d : Shown). TellsChanges (length d.replica.held) c.args.from c.found-answer.result) (c.deref_mut.ensures.value ∙ c.into_document-document.ensures)
    (subst (λ (a : Answer). TellsChanges (length c.deref_mut.result.now.replica.held) c.args.from a) (sym c.found-answer.ensures) told)
