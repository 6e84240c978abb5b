use Rattle.std.proofs.Common.{◌≡◌, ◌++◌, length}
use Rattle.std.specs.Vec.Iter.{into_iter_items}
use Rattle.peer_exchange.proofs.events.next_piece.Given as goal

abbrev pub invariant-loop : goal.invariant-loop
invariant-loop l = record {
  parts : l.piece.items ++ into_iter_items l.rest ≡ into_iter_items l.initial.rest;
  taken : length l.piece.items ≡ l.counter;
}
