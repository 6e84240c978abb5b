use Rattle.std.proofs.Common.{◌∙◌, ◌∷◌, [], ◌++◌, List, Option, get_or, take, slice_get, sym, ap}
use Rattle.std.specs.Option.{option_to_list}
use Rattle.std.proofs.lemmas.Option.{slice_get-get_or}
use Rattle.ew_model.specs.declared.event.Event.{Event}
use Rattle.event_graph.specs.Subgraphs.{events_at}
use Rattle.event_graph.proofs.Lists.{flat_get}
use Rattle.event_graph.proofs.graph.Graph.events_at.Goals as goal

pub loop-position-preserved : goal.loop-position-preserved
loop-position-preserved c =
    let history = c.args.self.now in
    let place = c.loop-position.position-index in
    let position = get_or c.args.positions.now place 0 in
    let there = slice_get-get_or c.args.positions.now place 0 c.loop-position-test.true in
    let e = c.in_ok-event_near.field-0 in
    c.in_ok-push.ensures.items
    ∙ ap (λ (es : List Event). es ++ e ∷ []) c.loop-position.invariant
    ∙ sym
    (flat_get (λ p. option_to_list (slice_get history p)) c.args.positions.now place position there
    ∙ ap (λ (o : Option Event). events_at history (take place c.args.positions.now) ++ option_to_list o) c.in_ok-event_near.ensures)
