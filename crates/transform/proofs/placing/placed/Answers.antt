use Rattle.std.proofs.Common.{sym, subst}
use Rattle.ew_model.specs.Walks.{walked_from}
use Rattle.advance_retreat.specs.Kept.{Kept}
use Rattle.advance_retreat.specs.Standing.{StandsFor}
use Rattle.transform.specs.Reaching.{prepared_since}
use Rattle.transform.proofs.Placings.{placed_order}
use Rattle.transform.proofs.placing.placed.Goals as goal

pub order-requires : goal.order-requires
order-requires g c = (walked_from c.args.graph.now 0, prepared_since c.args.graph.now 0, c.in_ok-apply_each.ensures.applied)

pub targets_of-requires : goal.targets_of-requires
targets_of-requires g c =
    let now = c.args.graph.now in
    (prepared_since now 0, subst (λ (s : Kept). StandsFor s 0 (walked_from now 0) (prepared_since now 0)) (sym c.order.ensures.same) c.in_ok-apply_each.ensures.applied)

pub returns-clause-order : goal.returns-clause-order
returns-clause-order g c =
    let now = c.args.graph.now in
    let stands = c.in_ok-apply_each.ensures.applied in
    placed_order now c.apply_each.new.state (prepared_since now 0) stands c.in_ok-order.order.items (c.in_ok-order.ensures.order (walked_from now 0) (prepared_since now 0) stands)
