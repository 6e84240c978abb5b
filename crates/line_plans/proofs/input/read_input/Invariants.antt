use Rattle.std.proofs.Common.{◌≡◌, ◌≤◌, ◌+◌, ◌-◌, vec_len}
use Rattle.std.specs.Io.KnownBytes.{Consumes}
use Rattle.line_plans.proofs.input.read_input.Given as goal

abbrev pub invariant-pieces : goal.invariant-pieces
invariant-pieces g l = record {
  taken : Consumes (g.S.Source.seen l.fn.source).left (g.S.Source.seen l.source).left l.bytes.items;
  count : (g.S.Source.seen l.source).faults ≡ (g.S.Source.seen l.fn.source).faults;
  ends : (g.S.Source.seen l.source).ends ≡ (g.S.Source.seen l.fn.source).ends;
  within : vec_len l.bytes ≤ l.bound + 1;
}

abbrev pub decreases-pieces : goal.decreases-pieces
decreases-pieces g l = l.bound + 1 - vec_len l.bytes
