use Rattle.std.proofs.Common.{◌&&◌, not, sym, ap, ◌∙◌}
use Rattle.std.proofs.lemmas.Bool.{ne_eqb}
use Rattle.ew_model.specs.Ids.{id_eq}
use Rattle.ew_model.proofs.ListTests.{same_truth}
use Rattle.ew_model.proofs.RunLaws.{id_itself, id_same}
use Rattle.history_definitions.specs.Chains.{next_id}
use Rattle.blame.proofs.lines.goes_on.Goals as goal

pub returns-then-ch-ne10 : goal.returns-then-ch-ne10
returns-then-ch-ne10 c =
    let x = c.args.id.now in
    let next = next_id c.args.last.now in
    same_truth c.is_next.result (id_eq x next)
    (λ e. ap (id_eq x) (sym (c.is_next.ensures.0 e)) ∙ id_itself x)
    (λ e. c.is_next.ensures.1 (id_same x next e))
    ∙ ap (λ b. not b && id_eq x next) (sym (ne_eqb c.args.ch 10 c.if-ch-ne10.true))
