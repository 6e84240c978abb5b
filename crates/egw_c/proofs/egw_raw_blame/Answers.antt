use Rattle.std.proofs.Common.{subst, ◌∙◌}
use Rattle.egw_c.specs.Documents.{Shown}
use Rattle.egw_c.specs.Exports.{TellsBytes}
use Rattle.egw_c.specs.Reading.{RefusesVersion, WritesBlame}
use Rattle.egw_c.proofs.Told.{bytes_told}
use Rattle.egw_c.proofs.egw_raw_blame.Goals as goal

pub returns : goal.returns
returns c =
    subst (λ (d : Shown). TellsBytes (WritesBlame d.replica.held c.args.version.now c.args.columns) (RefusesVersion d.replica.held c.args.version.now) c.found-answer.result) (c.deref_mut.ensures.value ∙ c.into_document-document.ensures)
    (bytes_told (WritesBlame c.deref_mut.result.now.replica.held c.args.version.now c.args.columns) (RefusesVersion c.deref_mut.result.now.replica.held c.args.version.now) c.blame.new.self.bytes c.blame.result c.found-answer.result c.blame.ensures.found c.blame.ensures.refused c.found-answer.ensures)
