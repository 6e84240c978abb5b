use Rattle.std.proofs.Common.{◌+◌, length, subst, ◌∙◌}
use Rattle.ew_model.specs.Texts.{text_of}
use Rattle.egw_c.specs.Documents.{Shown}
use Rattle.egw_c.specs.Exports.{TellsBytes}
use Rattle.document.specs.Reading.{IsRange}
use Rattle.egw_c.specs.Reading.{RefusesAbove}
use Rattle.egw_c.proofs.Told.{bytes_told}
use Rattle.egw_c.proofs.egw_raw_range.Goals as goal

pub returns : goal.returns
returns c =
    let text = text_of c.deref_mut.result.now.replica.held in
    subst (λ (d : Shown). TellsBytes (IsRange (text_of d.replica.held) c.args.from c.args.count) (RefusesAbove (length (text_of d.replica.held)) (c.args.from + c.args.count)) c.found-answer.result) (c.deref_mut.ensures.value ∙ c.into_document-document.ensures)
    (bytes_told (IsRange text c.args.from c.args.count) (RefusesAbove (length text) (c.args.from + c.args.count)) c.range.new.self.bytes c.range.result c.found-answer.result c.range.ensures.found c.range.ensures.refused c.found-answer.ensures)
