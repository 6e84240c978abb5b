use Rattle.std.proofs.Common.{ap, refl}
use Rattle.command_table.specs.Seen.{seen}
use Rattle.journal_plans.specs.Watching.{unprinted}
use Rattle.command_runs.proofs.Exporting.{export_run, export_safe, there_seen}
use Rattle.command_runs.proofs.top.run_export.Goals as goal

pub returns-clause-run : goal.returns-clause-run
returns-clause-run g c =
    export_run g.D.Disk.may_leave g.D.Disk.moment g.D.Disk.left_since c.args.file.now c.args.limits.now _
    (seen (g.H.Shelf.seen c.export-planned.new.shelf) (g.D.Disk.seen c.export-planned.new.disk) (g.S.Source.seen c.args.input.now) (g.K.Sink.seen c.args.out.now) (g.E.Sink.seen c.args.err.now))
    _ c.args.disk.now c.export-planned.new.disk c.export-planned.result _ unprinted (record {
      out = refl;
      input = refl;
      told = c.export-planned.ensures.told;
      some = c.export-planned.ensures.some;
      plan = c.export-planned.ensures.plan;
      same = c.export-planned.ensures.same;
      misses = c.export-planned.ensures.misses;
      there = there_seen g.D.Disk.seen c.args.disk.now c.export-planned.new.disk _ _ c.export-planned.result c.export-planned.ensures.there;
      absent = c.export-planned.ensures.absent;
      loads = c.export-planned.ensures.loads;
      failed_loads = c.export-planned.ensures.failed_loads;
      loaded_first = λ failed. ap g.D.Disk.seen (c.export-planned.ensures.loaded_first failed);
      asked = c.export-planned.ensures.asked;
      stores = c.export-planned.ensures.stores;
      tells = c.export-planned.ensures.tells;
      cause = c.export-planned.ensures.cause;
    }) c.end_kept.ensures.ends c.export-planned.ensures.kept

pub returns-clause-crashes : goal.returns-clause-crashes
returns-clause-crashes g c =
    export_safe g.D.Disk.may_leave g.D.Disk.moment g.D.Disk.left_since c.args.file.now c.args.limits.now _
    (seen (g.H.Shelf.seen c.export-planned.new.shelf) (g.D.Disk.seen c.export-planned.new.disk) (g.S.Source.seen c.args.input.now) (g.K.Sink.seen c.args.out.now) (g.E.Sink.seen c.args.err.now))
    _ c.args.disk.now c.export-planned.new.disk c.export-planned.result _ unprinted (record {
      out = refl;
      input = refl;
      told = c.export-planned.ensures.told;
      some = c.export-planned.ensures.some;
      plan = c.export-planned.ensures.plan;
      same = c.export-planned.ensures.same;
      misses = c.export-planned.ensures.misses;
      there = there_seen g.D.Disk.seen c.args.disk.now c.export-planned.new.disk _ _ c.export-planned.result c.export-planned.ensures.there;
      absent = c.export-planned.ensures.absent;
      loads = c.export-planned.ensures.loads;
      failed_loads = c.export-planned.ensures.failed_loads;
      loaded_first = λ failed. ap g.D.Disk.seen (c.export-planned.ensures.loaded_first failed);
      asked = c.export-planned.ensures.asked;
      stores = c.export-planned.ensures.stores;
      tells = c.export-planned.ensures.tells;
      cause = c.export-planned.ensures.cause;
    }) c.end_kept.ensures.ends c.export-planned.ensures.kept
