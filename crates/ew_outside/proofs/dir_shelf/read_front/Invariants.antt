use Rattle.std.proofs.Common.{◌≡◌, ◌≤◌, ◌+◌, ◌-◌, vec_len}
use Rattle.std.specs.Io.KnownBytes.{Consumes}
use Rattle.ew_outside.proofs.dir_shelf.read_front.Given as goal

abbrev pub invariant-pieces : goal.invariant-pieces
invariant-pieces g l = record {
  taken : Consumes (g.F.Read.remaining l.fn.file) (g.F.Read.remaining l.file) l.bytes.items;
  within : vec_len l.bytes ≤ l.max + 1;
  quiet : l.faults ≡ l.fn.faults;
}

abbrev pub decreases-pieces : goal.decreases-pieces
decreases-pieces g l = l.max + 1 - vec_len l.bytes + l.tries
