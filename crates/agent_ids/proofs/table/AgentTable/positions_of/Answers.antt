use Rattle.std.proofs.Common.{◌≡◌, List, [], sym, subst}
use Rattle.ew_model.specs.declared.id.Id.{Id}
use Rattle.agent_ids.specs.Table.{positions_of}
use Rattle.agent_ids.proofs.OwnPositions.{own_at, place_within, no_positions}
use Rattle.agent_ids.proofs.table.AgentTable.positions_of.Goals as goal

pub returns-clause-value : goal.returns-clause-value
returns-clause-value c =
    let within = place_within _ _ _ c.in_ok-number.number c.self.invariant.agents c.in_ok-number.ensures.within in
    subst (λ (ids : List Id). c.index.result.now ≡ positions_of ids c.args.name.now) c.self.view_is
    (own_at _ _ c.self.inside.positions.items c.args.name.now c.in_ok-number.number c.index.result.now c.self.invariant.agents (sym c.in_ok-number.ensures.index) c.index.ensures within)

pub returns-in_err-number-clause-value : goal.returns-in_err-number-clause-value
returns-in_err-number-clause-value c =
    let none : positions_of c.args.self.now c.args.name.now ≡ [] =
    subst (λ (ids : List Id). positions_of ids c.args.name.now ≡ []) c.self.view_is (no_positions _ _ _ c.args.name.now c.self.invariant.agents (sym c.in_err-number.ensures.index)) in
    rw (c.from_residual.ensures) none
