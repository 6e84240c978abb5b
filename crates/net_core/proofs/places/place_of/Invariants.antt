use Rattle.std.proofs.Common.{◌≡◌, drop}
use Rattle.peer_definitions.specs.Machine.{peer_among}
use Rattle.net_core.proofs.places.place_of.Given as goal

-- no peer up to the index has the name
abbrev pub invariant-loop-i : goal.invariant-loop-i
invariant-loop-i l = peer_among l.peers l.name ≡ peer_among (drop l.i l.peers) l.name
