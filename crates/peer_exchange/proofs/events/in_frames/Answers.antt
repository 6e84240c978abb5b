use Rattle.std.proofs.Common.{◌+◌, ◌-◌, [], ◌∷◌, ◌++◌, map, ap, ◌∙◌}
use Rattle.std.specs.Vec.Iter.{into_iter_items}
use Rattle.peer_definitions.specs.declared.frame.Frame.TheVariants.{Events}
use Rattle.peer_definitions.specs.Pieces.{pieces_from}
use Rattle.peer_exchange.proofs.PieceLaws.{next_frame}
use Rattle.peer_exchange.proofs.events.in_frames.Goals as goal

pub loop-preserved : goal.loop-preserved
loop-preserved c =
    let before = c.loop.frames.items in
    let count = c.div_ceil-count.result in
    let pushed = c.in_ok-push.ensures.items ∙ ap (λ piece. before ++ Events piece ∷ []) (c.from_vec.ensures ∙ c.in_ok-piece.ensures.piece) in
    (λ i. pushed i ++ map Events (pieces_from c.args.room (count - (c.loop.counter + 1)) (c.in_ok-piece.ensures.rest i)))
    ∙ (next_frame c.args.room count c.loop.counter before (into_iter_items c.loop.rest) c.loop-test.true ∙ c.loop.invariant)
