use Rattle.std.proofs.Common.{◌∙◌, codes}
use Rattle.std.proofs.lemmas.Result.{IfOk-weaker}
use Rattle.command_texts.proofs.IdLines.{id_last}
use Rattle.command_texts.proofs.refusal.unknown_words.Goals as goal

pub returns : goal.returns
returns c = IfOk-weaker c.format.result _ _ (λ t h. h ∙ id_last (codes "unknown ") c.args.id.now) c.format.ensures.ok
