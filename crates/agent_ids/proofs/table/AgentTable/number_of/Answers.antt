use Rattle.std.proofs.Common.{◌≡◌, ◌∙◌, List, subst, arith, Some, position}
use Rattle.ew_model.specs.declared.id.Id.{Id}
use Rattle.ew_model.specs.Ids.{name_eq}
use Rattle.history_definitions.specs.Agents.{agents_of}
use Rattle.agent_ids.proofs.OwnPositions.{kept_few, number_at}
use Rattle.agent_ids.proofs.table.AgentTable.number_of.Goals as goal

pub overflow_cast-result : goal.overflow_cast-result
overflow_cast-result c = omega (arith, kept_few _ _ _ c.self.invariant.agents, c.in_ok-number.ensures.within)

pub returns-clause-value : goal.returns-clause-value
returns-clause-value c =
    subst (λ (ids : List Id). Some c.in_ok-number.number ≡ position (name_eq c.args.name.now) (agents_of ids)) c.self.view_is
    (number_at _ _ _ c.args.name.now (Some c.in_ok-number.number) c.self.invariant.agents c.in_ok-number.ensures.index)

pub returns-in_err-number-clause-value : goal.returns-in_err-number-clause-value
returns-in_err-number-clause-value c =
    subst (λ (ids : List Id). c.from_residual.result ≡ position (name_eq c.args.name.now) (agents_of ids)) c.self.view_is
    (number_at _ _ _ c.args.name.now c.from_residual.result c.self.invariant.agents (c.from_residual.ensures ∙ c.in_err-number.ensures.index))
