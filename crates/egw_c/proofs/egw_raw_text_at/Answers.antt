use Rattle.std.proofs.Common.{subst, ◌∙◌}
use Rattle.egw_c.specs.Documents.{Shown}
use Rattle.egw_c.specs.Exports.{TellsBytes}
use Rattle.egw_c.specs.Reading.{ReadsVersion, RefusesVersion}
use Rattle.egw_c.proofs.Told.{bytes_told}
use Rattle.egw_c.proofs.egw_raw_text_at.Goals as goal

pub returns : goal.returns
returns c =
    subst (λ (d : Shown). TellsBytes (ReadsVersion d.replica.held c.args.version.now) (RefusesVersion d.replica.held c.args.version.now) c.found-answer.result) (c.deref_mut.ensures.value ∙ c.into_document-document.ensures)
    (bytes_told (ReadsVersion c.deref_mut.result.now.replica.held c.args.version.now) (RefusesVersion c.deref_mut.result.now.replica.held c.args.version.now) c.text_at.new.self.bytes c.text_at.result c.found-answer.result c.text_at.ensures.found c.text_at.ensures.refused c.found-answer.ensures)
