use Rattle.std.proofs.Common.{◌≡◌, ◌≤◌, ◌-◌, vec_len}
use Rattle.event_journal.specs.Disk.{StaysWithin, LeavesNoMore}
use Rattle.event_journal.specs.Reading.{IsFront}
use Rattle.event_journal.proofs.reading.read_disk.Given as goal

abbrev pub invariant-loop-buffer : goal.invariant-loop-buffer
invariant-loop-buffer g l = record {
  front : IsFront (g.D.Disk.seen l.fn.disk).bytes l.bytes.items l.len;
  short : vec_len l.bytes ≤ l.len;
  same : (g.D.Disk.seen l.disk).bytes ≡ (g.D.Disk.seen l.fn.disk).bytes;
  within : StaysWithin g.D.Disk.moment g.D.Disk.left_since l.fn.disk l.disk (g.D.Disk.may_leave l.fn.disk);
  quiet : (g.D.Disk.seen l.disk).faults ≡ (g.D.Disk.seen l.fn.disk).faults;
  less : LeavesNoMore (g.D.Disk.may_leave l.fn.disk) (g.D.Disk.may_leave l.disk);
}

abbrev pub decreases-loop-buffer : goal.decreases-loop-buffer
decreases-loop-buffer g l = l.len - vec_len l.bytes
