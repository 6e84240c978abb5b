use Rattle.std.proofs.Common.{◌≡◌, false}
use Rattle.event_journal.specs.Journal.{IsKeptOn}
use Rattle.journal_trials.proofs.appending.append_each.Given as goal

abbrev pub invariant-loop-batch : goal.invariant-loop-batch
invariant-loop-batch g l = record {
  limits : l.journal.limits ≡ l.limits;
  kept : l.journal.failed ≡ false → IsKeptOn l.journal (g.D.Disk.seen l.disk).bytes (g.D.Disk.may_leave l.disk);
}
