use Rattle.std.proofs.Common.{◌≡◌, take}
use Rattle.event_file.specs.Places.{places_of}
use Rattle.stored_histories.proofs.written.find_all.Given as goal

abbrev pub invariant-loop-id : goal.invariant-loop-id
invariant-loop-id l = l.found.items ≡ places_of l.graph (take l.id-index l.ids)
