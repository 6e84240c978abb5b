use Rattle.ew_outside.proofs.Outputs.{Appends-take}
use Rattle.std.proofs.Common.{rules}
use Rattle.ew_outside.proofs.output.write_all.Goals as goal

pub pieces-preserved : goal.pieces-preserved
pieces-preserved g c = record {
  taken = Appends-take _ _ _ c.pieces.done c.in_ok-done.field-0 c.args.bytes.now c.pieces.invariant.taken c.in_ok-done.ensures.bytes.2;
  flushed = search (rules);
  count = search (rules);
  within = search (rules);
}
