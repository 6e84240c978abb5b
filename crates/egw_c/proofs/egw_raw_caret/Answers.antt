use Rattle.std.proofs.Common.{subst, ◌∙◌}
use Rattle.egw_c.specs.Documents.{Shown}
use Rattle.egw_c.specs.Exports.{TellsBytes}
use Rattle.egw_c.specs.Reading.{RefusesCaret, WritesCaret}
use Rattle.egw_c.proofs.Told.{bytes_told}
use Rattle.egw_c.proofs.egw_raw_caret.Goals as goal

pub returns : goal.returns
returns c =
    subst (λ (d : Shown). TellsBytes (WritesCaret d.replica.held c.args.at) (RefusesCaret d.replica.held c.args.at) c.found-answer.result) (c.deref_mut.ensures.value ∙ c.into_document-document.ensures)
    (bytes_told (WritesCaret c.deref_mut.result.now.replica.held c.args.at) (RefusesCaret c.deref_mut.result.now.replica.held c.args.at) c.caret.new.self.bytes c.caret.result c.found-answer.result c.caret.ensures.found c.caret.ensures.refused c.found-answer.ensures)
