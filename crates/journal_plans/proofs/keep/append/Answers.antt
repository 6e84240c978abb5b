use Rattle.std.proofs.Common.{Err, ap, ◌∙◌}
use Rattle.event_journal.specs.Journal.{JournalSeen}
use Rattle.event_journal.proofs.Opening.{some_then}
use Rattle.journal_plans.proofs.Adding.{batch_adds, failed_adds, nothing_adds}
use Rattle.journal_plans.proofs.keep.append.Goals as goal

pub returns-in-Ok-clause-adds : goal.returns-in-Ok-clause-adds
returns-in-Ok-clause-adds g c =
    batch_adds g.D.Disk.may_leave g.D.Disk.moment g.D.Disk.left_since g.D.Disk.seen g.met.D.Disk.only_now c.args.journal.now c.append.new.self c.args.disk.now c.append.new.disk c.args.batch.now
    (g.met.D.Disk.reads_one c.append.new.disk) c.in-Ok.ensures.kept c.in-Ok.ensures.acknowledged c.append.ensures.tells
    (ap (λ (j : JournalSeen). j.limits) c.in-Ok.ensures.counted) (c.append.ensures.any_moment c.requires.ready.whole)

pub returns-in-Err-OutOfMemory-clause-adds : goal.returns-in-Err-OutOfMemory-clause-adds
returns-in-Err-OutOfMemory-clause-adds g c =
    let same = c.append.ensures.memory_same (c.in-Err-OutOfMemory.is ∙ ap Err c.in-Err-OutOfMemory.field-0-is) in
    nothing_adds g.D.Disk.may_leave g.D.Disk.moment g.D.Disk.left_since g.D.Disk.seen g.met.D.Disk.only_now c.args.journal.now c.append.new.self c.args.disk.now c.append.new.disk _ same.0 same.1

pub returns-in-Err-Failed-clause-adds : goal.returns-in-Err-Failed-clause-adds
returns-in-Err-Failed-clause-adds g c =
    let d = c.append.new.disk in
    failed_adds g.D.Disk.may_leave g.D.Disk.moment g.D.Disk.left_since g.D.Disk.seen g.met.D.Disk.only_now c.args.journal.now c.append.new.self c.args.disk.now d c.args.batch.now
    (λ later. some_then (g.D.Disk.seen d).bytes (g.D.Disk.may_leave d) (g.D.Disk.left_since d (g.D.Disk.moment c.args.disk.now)) (λ f now. g.met.D.Disk.counts_now d (g.D.Disk.moment c.args.disk.now) f later now) (g.met.D.Disk.reads_one d))
    c.append.ensures.tells (ap (λ (j : JournalSeen). j.limits) (c.append.ensures.failed (c.in-Err-Failed.is ∙ ap Err c.in-Err-Failed.field-0-is)).1) (c.append.ensures.any_moment c.requires.ready.whole)
