use Rattle.std.proofs.Common.{◌++◌, ◌∙◌, ap, codes}
use Rattle.std.specs.Fmt.{decimal}
use Rattle.std.proofs.lemmas.Result.{IfOk-weaker}
use Rattle.command_texts.proofs.IdLines.{id_then}
use Rattle.command_texts.proofs.refusal.no_event_line.Goals as goal

pub returns : goal.returns
returns c =
    IfOk-weaker c.format.result _ _ (λ t h. h ∙ ap (λ rest. codes "egw: line " ++ (decimal c.args.line ++ rest)) (id_then (codes ": unknown ") c.args.id.now (codes "\n"))) c.format.ensures.ok
