use Rattle.egw_c.proofs.Refusals.{all_held, unknown_refused}
use Rattle.egw_c.proofs.reading.text_at.Goals as goal

pub returns-in-Err-Unknown-clause-refused : goal.returns-in-Err-Unknown-clause-refused
returns-in-Err-Unknown-clause-refused c =
    unknown_refused c.args.document.now.held c.args.ids.now c.in-Err-Unknown.field-0-0 c.unheld_place.result ((c.in-Err-Unknown.ensures.unknown c.in-Err-Unknown.field-0-0).0 (cc c.in-Err-Unknown.field-0-is)) c.unheld_place.ensures

pub returns-in-Ok-clause-held : goal.returns-in-Ok-clause-held
returns-in-Ok-clause-held c = all_held c.args.document.now.held c.args.ids.now (λ x e. cc ((c.in-Ok.ensures.unknown x).1 e))
