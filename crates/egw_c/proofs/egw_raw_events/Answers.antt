use Rattle.std.proofs.Common.{◌≡◌, ◌≤◌, ℕ, List, length, subst, ◌∙◌}
use Rattle.document.specs.Documents.{later_bytes}
use Rattle.egw_c.specs.Documents.{Shown}
use Rattle.egw_c.specs.Exports.{TellsBytes}
use Rattle.egw_c.specs.Reading.{RefusesAbove}
use Rattle.egw_c.proofs.Told.{bytes_told, later_found}
use Rattle.egw_c.proofs.egw_raw_events.Goals as goal

pub returns : goal.returns
returns c =
    let r = c.deref_mut.result.now.replica in
    subst (λ (d : Shown). TellsBytes (λ (bytes : List ℕ). (bytes ≡ later_bytes d.replica c.args.from) × (c.args.from ≤ length d.replica.held)) (RefusesAbove (length d.replica.held) c.args.from) c.found-answer.result) (c.deref_mut.ensures.value ∙ c.into_document-document.ensures)
    (bytes_told (λ (bytes : List ℕ). (bytes ≡ later_bytes r c.args.from) × (c.args.from ≤ length r.held)) (RefusesAbove (length r.held) c.args.from) c.later_events.new.self.bytes c.later_events.result c.found-answer.result
    (later_found r c.args.from c.later_events.new.self.bytes c.later_events.result c.later_events.ensures.found c.later_events.ensures.within) c.later_events.ensures.refused c.found-answer.ensures)
