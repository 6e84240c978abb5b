use Rattle.std.proofs.Common.{refl}
use Rattle.command_table.specs.Seen.{seen}
use Rattle.command_runs.proofs.Watching.{watch_run, watch_safe}
use Rattle.command_runs.proofs.top.run_watch.Goals as goal

pub returns-clause-run : goal.returns-clause-run
returns-clause-run g c =
    watch_run g.D.Disk.may_leave g.D.Disk.moment g.D.Disk.left_since c.args.agent c.args.limits.now _
    (seen (g.H.Shelf.seen c.args.shelf.now) (g.D.Disk.seen c.watch-planned.new.disk) (g.S.Source.seen c.watch-planned.new.input) (g.K.Sink.seen c.watch-planned.new.out) (g.E.Sink.seen c.args.err.now))
    _ c.args.disk.now c.watch-planned.new.disk c.watch-planned.result _ (record {
      shelf = refl;
      told = c.watch-planned.ensures.told;
      some = c.watch-planned.ensures.some;
      plan = c.watch-planned.ensures.plan;
      found = c.watch-planned.ensures.found;
      end = c.watch-planned.ensures.end;
      few = c.watch-planned.ensures.few;
      ends = c.watch-planned.ensures.ends;
      unread = c.watch-planned.ensures.unread;
      untouched = c.watch-planned.ensures.untouched;
      refused = c.watch-planned.ensures.refused;
      tells = c.watch-planned.ensures.tells;
      cause = c.watch-planned.ensures.cause;
    }) c.end_kept.ensures.ends c.watch-planned.ensures.kept c.body.ensures.range

pub returns-clause-crashes : goal.returns-clause-crashes
returns-clause-crashes g c =
    watch_safe g.D.Disk.may_leave g.D.Disk.moment g.D.Disk.left_since c.args.agent c.args.limits.now _
    (seen (g.H.Shelf.seen c.args.shelf.now) (g.D.Disk.seen c.watch-planned.new.disk) (g.S.Source.seen c.watch-planned.new.input) (g.K.Sink.seen c.watch-planned.new.out) (g.E.Sink.seen c.args.err.now))
    _ c.args.disk.now c.watch-planned.new.disk c.watch-planned.result _ (record {
      shelf = refl;
      told = c.watch-planned.ensures.told;
      some = c.watch-planned.ensures.some;
      plan = c.watch-planned.ensures.plan;
      found = c.watch-planned.ensures.found;
      end = c.watch-planned.ensures.end;
      few = c.watch-planned.ensures.few;
      ends = c.watch-planned.ensures.ends;
      unread = c.watch-planned.ensures.unread;
      untouched = c.watch-planned.ensures.untouched;
      refused = c.watch-planned.ensures.refused;
      tells = c.watch-planned.ensures.tells;
      cause = c.watch-planned.ensures.cause;
    }) c.end_kept.ensures.ends c.watch-planned.ensures.kept
