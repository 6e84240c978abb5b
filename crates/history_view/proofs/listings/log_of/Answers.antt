use Rattle.std.proofs.Common.{◌++◌, ap, sym, ◌∙◌}
use Rattle.history_definitions.specs.Listings.{event_line}
use Rattle.history_view.proofs.Logs.{line_next}
use Rattle.history_view.proofs.listings.log_of.Goals as goal

pub loop-position-preserved : goal.loop-position-preserved
loop-position-preserved c =
    c.in_ok-push_event.ensures ∙ ap (λ t. t ++ event_line c.in_ok-event_near.field-0) c.loop-position.invariant
    ∙ sym (line_next event_line c.args.graph.now c.loop-position.position c.in_ok-event_near.field-0 c.in_ok-event_near.ensures)
