use Rattle.std.proofs.Common.{◌++◌, ap, sym, ◌∙◌}
use Rattle.history_definitions.specs.Listings.{mark_line}
use Rattle.history_view.proofs.Logs.{mark_next}
use Rattle.history_view.proofs.listings.marks_of.Goals as goal

pub loop-position-preserved : goal.loop-position-preserved
loop-position-preserved c =
    c.in_ok-push_mark_line.ensures
    ∙ ap (λ t. t ++ mark_line c.id_near-id.result c.op_near-op.result) c.loop-position.invariant
    ∙ sym (mark_next c.args.graph.now c.loop-position.position c.id_near-id.result c.op_near-op.result c.id_near-id.ensures c.op_near-op.ensures)
