use Rattle.std.proofs.Common.{length}
use Rattle.event_journal.proofs.Moments.{one_write, write_and_sync}
use Rattle.event_journal.proofs.writing.write_and_sync.Goals as goal

pub returns-in_err-write_at-clause-any_moment : goal.returns-in_err-write_at-clause-any_moment
returns-in_err-write_at-clause-any_moment g c =
    one_write g.D.Disk.moment g.D.Disk.left_since (g.D.Disk.seen c.args.disk.now).bytes c.args.disk.now c.write_at.new.self c.args.at (length c.args.piece.now) (g.D.Disk.may_leave c.args.disk.now) (g.D.Disk.may_leave c.write_at.new.self) (λ f left. g.met.D.Disk.only_now c.args.disk.now f left) c.write_at.ensures.crash c.write_at.ensures.time

pub returns-clause-any_moment : goal.returns-clause-any_moment
returns-clause-any_moment g c =
    write_and_sync g.D.Disk.moment g.D.Disk.left_since (g.D.Disk.seen c.args.disk.now).bytes c.args.disk.now c.write_at.new.self c.sync.new.self c.args.at (length c.args.piece.now) (g.D.Disk.may_leave c.args.disk.now) (g.D.Disk.may_leave c.write_at.new.self) (g.D.Disk.may_leave c.sync.new.self) (λ f left. g.met.D.Disk.only_now c.args.disk.now f left) c.write_at.ensures.crash c.write_at.ensures.time c.sync.ensures.crash c.sync.ensures.time
