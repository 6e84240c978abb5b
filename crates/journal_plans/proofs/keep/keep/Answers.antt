use Rattle.std.proofs.Common.{length}
use Rattle.std.proofs.lemmas.Result.{err_from_is_err_and}
use Rattle.command_table.specs.Text as table
use Rattle.journal_plans.proofs.Telling.{disk_causes, told_adds, told_causes, untold}
use Rattle.journal_plans.proofs.keep.keep.Goals as goal

pub returns-in_err-append_all-clause-told : goal.returns-in_err-append_all-clause-told
returns-in_err-append_all-clause-told g c =
    let p = err_from_is_err_and c.from_residual.result c.from_residual.ensures.1 in
    rw (p.1, p.2) (untold (Unit {0}) (g.K.Sink.seen c.args.out.now) (table.kept_text (length c.args.events.now)) _ _ c.in_err-append_all.field-0.0 c.in_err-append_all.ensures.cause)

pub returns-in_err-append_all-clause-cause : goal.returns-in_err-append_all-clause-cause
returns-in_err-append_all-clause-cause g c =
    let p = err_from_is_err_and c.from_residual.result c.from_residual.ensures.1 in
    rw (p.1, p.2) (disk_causes (Unit {0}) _ _ _ c.in_err-append_all.field-0.0 c.in_err-append_all.ensures.cause)

pub returns-clause-adds : goal.returns-clause-adds
returns-clause-adds g c =
    told_adds g.D.Disk.may_leave g.D.Disk.moment g.D.Disk.left_since c.args.journal.now c.append_all.new.journal c.args.disk.now c.append_all.new.disk
    (g.D.Disk.seen c.args.disk.now).bytes (g.D.Disk.seen c.append_all.new.disk).bytes _ _ _ tt c.tell_kept.result c.tell_kept.ensures.cause c.in_ok-append_all.ensures.adds

pub returns-clause-cause : goal.returns-clause-cause
returns-clause-cause g c = told_causes _ _ _ _ c.tell_kept.result c.in_ok-append_all.ensures.cause c.tell_kept.ensures.cause
