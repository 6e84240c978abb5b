use Rattle.std.proofs.Common.{refl}
use Rattle.egw_c.proofs.Refusals.{stands}
use Rattle.egw_c.proofs.reading.caret_index.Goals as goal

pub returns-in-Ok-clause-index : goal.returns-in-Ok-clause-index
returns-in-Ok-clause-index c =
    (stands c.args.document.now.held c.args.caret.now (λ x e. cc ((c.in-Ok.ensures.unknown x).1 e)) (λ x e. cc ((c.in-Ok.ensures.no_character x).1 e)), c.in-Ok.ensures.index)

pub returns-in-Err-Unknown-clause-refused : goal.returns-in-Err-Unknown-clause-refused
returns-in-Err-Unknown-clause-refused c =
    let x = c.in-Err-Unknown.field-0-0 in (refl, (x, (c.in-Err-Unknown.ensures.unknown x).0 (cc c.in-Err-Unknown.field-0-is)))

pub returns-in-Err-NoCharacter-clause-refused : goal.returns-in-Err-NoCharacter-clause-refused
returns-in-Err-NoCharacter-clause-refused c =
    let x = c.in-Err-NoCharacter.field-0-0 in (x, (c.in-Err-NoCharacter.ensures.no_character x).0 (cc c.in-Err-NoCharacter.field-0-is))
