use Rattle.std.proofs.Common.{◌≡◌, ◌-◌, ◌++◌, map}
use Rattle.std.specs.Vec.Iter.{into_iter_items}
use Rattle.peer_definitions.specs.declared.frame.Frame.TheVariants as frame
use Rattle.peer_definitions.specs.Pieces.{pieces_from}
use Rattle.peer_exchange.proofs.events.in_frames.Given as goal

abbrev pub invariant-loop : goal.invariant-loop
invariant-loop l =
    l.frames.items ++ map frame.Events (pieces_from l.room (l.count - l.counter) (into_iter_items l.rest))
    ≡ map frame.Events (pieces_from l.room l.count l.fn.events.items)
