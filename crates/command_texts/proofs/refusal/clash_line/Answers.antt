use Rattle.std.proofs.Common.{◌∙◌, codes}
use Rattle.std.proofs.lemmas.Result.{IfOk-weaker}
use Rattle.command_texts.proofs.IdLines.{id_then}
use Rattle.command_texts.proofs.refusal.clash_line.Goals as goal

pub returns : goal.returns
returns c = IfOk-weaker c.format.result _ _ (λ t h. h ∙ id_then (codes "egw: clash ") c.args.id.now (codes "\n")) c.format.ensures.ok
