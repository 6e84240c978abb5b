use Rattle.std.proofs.Common.{◌≡◌, drop}
use Rattle.event_journal.specs.Disk.{TellsAlike}
use Rattle.script_reader.specs.Meaning.{numbered_edits}
use Rattle.journal_plans.specs.Adding.{IsReady}
use Rattle.journal_plans.specs.Opening.{IsFresh}
use Rattle.journal_plans.proofs.Edits.{KeptSoFar}
use Rattle.journal_plans.proofs.watch.keep_edits.Given as goal

abbrev pub invariant-loop-line : goal.invariant-loop-line
invariant-loop-line g l = record {
  so_far : KeptSoFar g.D.Disk.may_leave g.D.Disk.moment g.D.Disk.left_since l.agent l.limits (numbered_edits l.edits) (numbered_edits (drop l.line-index l.edits)) l.initial.opened l.opened l.initial.disk l.disk
      (g.D.Disk.seen l.initial.disk).bytes (g.D.Disk.seen l.disk).bytes (g.K.Sink.seen l.initial.out) (g.K.Sink.seen l.out);
  fresh : IsFresh l.limits l.opened;
  ready : IsReady l.opened.journal (g.D.Disk.seen l.disk).bytes (g.D.Disk.may_leave l.disk);
  tells : TellsAlike (g.D.Disk.seen l.initial.disk).bytes (g.D.Disk.seen l.disk).bytes;
  disk : (g.D.Disk.seen l.disk).faults ≡ (g.D.Disk.seen l.initial.disk).faults;
  sink : (g.K.Sink.seen l.out).faults ≡ (g.K.Sink.seen l.initial.out).faults;
  steps : l.steps ≡ l.initial.steps;
}
