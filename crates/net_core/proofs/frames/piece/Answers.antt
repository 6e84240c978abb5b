use Rattle.std.proofs.Common.{[], ◌∷◌, ◌++◌, sym, ap, ◌∙◌, arith}
use Rattle.net_core.proofs.Pieces.{piece_next}
use Rattle.net_core.proofs.frames.piece.Goals as goal

pub loop-position-preserved : goal.loop-position-preserved
loop-position-preserved c =
    let e = c.in_ok-event_at.field-0 in
    c.in_ok-push.ensures.items ∙ ap (λ es. es ++ e ∷ []) c.loop-position.invariant ∙ sym
    (piece_next c.args.graph.now c.min-from.result c.loop-position.position e (omega (arith, c.loop-position.auto.position)) c.in_ok-event_at.ensures)
