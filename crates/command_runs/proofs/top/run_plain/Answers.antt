use Rattle.std.proofs.Common.{refl}
use Rattle.command_table.specs.Seen.{seen}
use Rattle.command_runs.proofs.PlainRuns.{alone_so, plain_journals}
use Rattle.command_runs.proofs.Runs.{is_run}
use Rattle.command_runs.proofs.top.run_plain.Goals as goal

pub returns-clause-run : goal.returns-clause-run
returns-clause-run g c = λ disk.
    is_run _ _ c.plan-planned.result c.carry_out-ending.result _
    (seen (g.H.Shelf.seen c.plan-planned.new.shelf) disk (g.S.Source.seen c.plan-planned.new.input) (g.K.Sink.seen c.plan-planned.new.out) (g.E.Sink.seen c.args.err.now))
    _ _ (record {
      told = c.plan-planned.ensures.told disk.bytes;
      some = c.plan-planned.ensures.some;
      heard = c.plan-planned.ensures.heard;
      sends = c.plan-planned.ensures.sends;
      source_alone = λ is. alone_so _ (g.K.Sink.seen c.args.out.now) (g.K.Sink.seen c.plan-planned.new.out) c.plan-planned.result c.requires.plain c.plan-planned.ensures.sends;
      disk_calm = refl;
      unopened = λ is. refl;
      line = c.plan-planned.ensures.line;
      read = c.plan-planned.ensures.read;
      unread = c.plan-planned.ensures.unread;
      same = c.plan-planned.ensures.same;
      cause = c.plan-planned.ensures.cause;
      misses = c.plan-planned.ensures.misses;
      front = c.plan-planned.ensures.front;
      loads = c.plan-planned.ensures.loads;
      failed_loads = c.plan-planned.ensures.failed_loads;
      all = c.plan-planned.ensures.all;
      makes = c.plan-planned.ensures.makes;
      asked = c.plan-planned.ensures.asked;
      no_store = c.plan-planned.ensures.stores;
      ends = c.plan-planned.ensures.ends;
      refused = c.plan-planned.ensures.refused;
      kept = c.plan-planned.ensures.kept;
      few = c.plan-planned.ensures.few;
      untouched = c.plan-planned.ensures.untouched;
      which = c.carry_out-ending.ensures.which;
      files = c.carry_out-ending.ensures.files;
      out = c.carry_out-ending.ensures.out;
      flushed = c.carry_out-ending.ensures.flushed;
      shelf_count = c.carry_out-ending.ensures.shelf;
      sink_count = c.carry_out-ending.ensures.sink;
      no_miss = c.carry_out-ending.ensures.misses;
      no_load = c.carry_out-ending.ensures.loads;
      no_loss = c.carry_out-ending.ensures.failed_loads;
      no_ask = c.carry_out-ending.ensures.asked;
      end_stores = c.carry_out-ending.ensures.stores;
      status = c.tell.ensures.status;
      text = c.tell.ensures.text;
      silent = c.tell.ensures.silent;
      whole = c.tell.ensures.flushed;
    }) (plain_journals _ _ _ _ _ c.requires.plain refl)
