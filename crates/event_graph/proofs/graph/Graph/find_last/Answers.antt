use Rattle.std.proofs.Common.{◌≡◌, ◌∙◌, ◌∷◌, [], ◌-◌, Some, sym, ap}
use Rattle.ew_model.specs.Positions.{positions_in}
use Rattle.history_definitions.specs.Chains.{last_id}
use Rattle.event_graph.proofs.GoingOn.{last_alone}
use Rattle.event_graph.proofs.graph.Graph.find_last.Goals as goal

pub returns-then-is_only : goal.returns-then-is_only
returns-then-is_only c =
    let now = c.args.self.now in
    let x = c.in_ok-last.last in
    let last : last_id now ≡ Some x = sym c.last_id.ensures ∙ c.in_ok-last.was in
    ap (λ n. (n - 1) ∷ []) c.count.ensures.count ∙ last_alone now x c.count.ensures.admitted last ∙ ap (positions_in now) (sym (c.is_only.ensures.0 c.if-is_only.true))
