use Rattle.std.proofs.Common.{◌∙◌, sym, ap, slice_get}
use Rattle.ew_model.specs.Ids.{id_eq}
use Rattle.agent_ids.proofs.Numbers.{position_at}
use Rattle.agent_ids.proofs.OwnPositions.{position_within}
use Rattle.agent_ids.proofs.table.AgentTable.position.Goals as goal

pub returns-in_err-positions_of-clause-value : goal.returns-in_err-positions_of-clause-value
returns-in_err-positions_of-clause-value c =
    c.from_residual.ensures ∙ ap (λ ps. slice_get ps c.args.id.now.seq) (sym c.in_err-positions_of.ensures.value) ∙ position_at c.args.self.now c.args.id.now c.positions_of.ensures.numbered

pub returns-clause-value : goal.returns-clause-value
returns-clause-value c = c.get.ensures ∙ ap (λ ps. slice_get ps c.args.id.now.seq) c.in_ok-positions_of.ensures.value ∙ position_at c.args.self.now c.args.id.now c.positions_of.ensures.numbered

pub returns-clause-within : goal.returns-clause-within
returns-clause-within c =
    position_within (id_eq c.args.id.now) c.args.self.now c.get.result
    (c.get.ensures ∙ ap (λ ps. slice_get ps c.args.id.now.seq) c.in_ok-positions_of.ensures.value ∙ position_at c.args.self.now c.args.id.now c.positions_of.ensures.numbered)
