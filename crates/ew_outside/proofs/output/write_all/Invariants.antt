use Rattle.std.proofs.Common.{◌≡◌, ◌≤◌, ◌-◌, length, take}
use Rattle.std.specs.Io.KnownBytes.{Appends}
use Rattle.ew_outside.proofs.output.write_all.Given as goal

abbrev pub invariant-pieces : goal.invariant-pieces
invariant-pieces g l = record {
  taken : Appends (g.K.Sink.seen l.fn.out).taken (g.K.Sink.seen l.out).taken (take l.done l.bytes);
  flushed : (g.K.Sink.seen l.out).flushed ≡ (g.K.Sink.seen l.fn.out).flushed;
  count : (g.K.Sink.seen l.out).faults ≡ (g.K.Sink.seen l.fn.out).faults;
  within : l.done ≤ length l.bytes;
}

abbrev pub decreases-pieces : goal.decreases-pieces
decreases-pieces g l = length l.bytes - l.done
