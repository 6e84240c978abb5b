use Rattle.std.proofs.Common.{refl}
use Rattle.command_runs.proofs.Starved.{starved_run, starved_safe}
use Rattle.command_runs.proofs.Touches.{takes_nothing}
use Rattle.command_runs.proofs.top.run.Goals as goal

pub returns-in-Err-clause-run : goal.returns-in-Err-clause-run
returns-in-Err-clause-run g c =
    starved_run _ _ _ _ _ c.tell.ensures.status (record { shelf_same = refl; disk_same = refl; source_same = refl; sink_same = refl }) refl refl refl refl c.tell.ensures.text c.tell.ensures.flushed

pub returns-in-Err-clause-most : goal.returns-in-Err-clause-most
returns-in-Err-clause-most g c = takes_nothing _ _ _ _ _ _

pub returns-in-Err-clause-crashes : goal.returns-in-Err-clause-crashes
returns-in-Err-clause-crashes g c =
    starved_safe g.D.Disk.may_leave g.D.Disk.moment g.D.Disk.left_since _ _ _ _ c.args.disk.now _ c.tell.ensures.status refl (λ bytes left. g.met.D.Disk.only_now c.args.disk.now bytes left)
