-- A run that the disk stopped.
use Rattle.std.proofs.Common.{◌≡◌, inr, ℕ, Option, None, Result, Err, refl, ap, arith}
use Rattle.ew_model.specs.Limits.{LimitNumbers}
use Rattle.ew_outside.specs.Bytes.{IsFlushed}
use Rattle.ew_outside.specs.Counts.{IsQuiet, Rises}
use Rattle.ew_outside.specs.Seen.{SinkSeen}
use Rattle.ew_outside.specs.declared.fault.Fault.{Fault}
use Rattle.ew_outside.specs.declared.fault.Fault.TheVariants as fault_is
use Rattle.command_table.specs.Headline.{IsRunOf, Reads}
use Rattle.command_table.specs.Kept.{Journals}
use Rattle.command_table.specs.Lines.{session_of, UnlessSends}
use Rattle.command_table.specs.Seen.{Seen, shelf, disk, source, sink, TellsErr}
use Rattle.command_table.specs.Table.{Line}
use Rattle.command_table.specs.Text.{disk_failed}
use Rattle.opened_files.specs.declared.reply.Reply as own
use Rattle.command_runs.specs.Lines.{PlansKnown, PlansSome, SendsNone}
use Rattle.command_runs.proofs.Courses.{BrokenOff, Course, Stopped, sends_none}
use Rattle.command_runs.proofs.Outputting.{is_session}
use Rattle.command_runs.proofs.Tables.{is_served, stores_first}

-- what a run met of which the disk alone failed
pub record DiskFailed (l : Option Line) (old mid new : Seen) (code : ℕ) : Type 0 where
  pub six : code ≡ 6
  pub files : new.shelf.files ≡ old.shelf.files
  pub stores : new.shelf.stores ≡ old.shelf.stores
  pub failed_loads : new.shelf.failed_loads ≡ old.shelf.failed_loads
  pub out : new.out ≡ mid.out
  pub shelf_same : new.shelf.faults ≡ old.shelf.faults
  pub source_same : new.input.faults ≡ old.input.faults
  pub sink_same : new.out.faults ≡ old.out.faults
  pub rose : Rises old.disk.faults new.disk.faults
  pub sends : UnlessSends l (new.out.taken ≡ old.out.taken)
  pub text : TellsErr old new disk_failed
  pub whole : IsQuiet old.err.faults new.err.faults → IsFlushed new.err.taken new.err.flushed

disk_stops : (l : Option Line) (old mid new : Seen) (code : ℕ) → DiskFailed l old mid new code → BrokenOff l disk old mid new code
disk_stops l old mid new code h = record {
  six = h.six;
  files = h.files;
  stores = h.stores;
  out = ap (λ (o : SinkSeen). o.taken) h.out;
  flushed = ap (λ (o : SinkSeen). o.flushed) h.out;
  struck = record {
    rose = h.rose.1;
    later = elim [ shelf ↦ omega (arith, h.shelf_same) | disk ↦ h.rose.0 | source ↦ omega (arith, h.source_same) | sink ↦ omega (arith, h.sink_same) ];
    others = elim [ shelf ↦ λ _. h.shelf_same | disk ↦ λ bad. absurd (bad refl) | source ↦ λ _. h.source_same | sink ↦ λ _. h.sink_same ];
  };
  text = h.text;
  leaves = (h.failed_loads, (h.files, h.stores, h.sends));
  load = λ bad. cc;
}

-- it is seen as one that a source stopped
abbrev pub stopped : Result own.Reply Fault
stopped = Err fault_is.Source

pub disk_run : (l : Option Line) (limits : LimitNumbers) (old mid new : Seen) (code : ℕ) → DiskFailed l old mid new code → PlansKnown l limits old.shelf old.disk.bytes old.input old.out mid.out stopped
    → PlansSome l limits old.out mid.out stopped → SendsNone l old.out mid.out stopped → (l ≡ None → ⊥) → Reads l limits old new code → Journals l limits old new code → IsRunOf l limits old new code
disk_run l limits old mid new code h told some sends taken reads journals =
    let broken = disk_stops l old mid new code h in
    let k : Course l stopped old mid new code = Stopped disk fault_is.Source (λ bad. cc) (λ bad. cc) refl broken in
    record {
      answers = record {
        known = λ files journal input meaning at known means.
            let s = session_of l limits files journal input meaning in
            let follows = told files journal input meaning at known means in
            (is_served l s stopped files old mid new code follows at k, sends_none l (λ same. stores_first l s stopped files old mid new code follows at k same.1) sends);
        some = (some.0, some.1, is_session l some.0 stopped old mid new code some.2 k);
        among = inr (omega (arith, h.six), omega (arith, h.six));
        usage = λ two. absurd (omega (arith, two, h.six));
        only_usage = λ none. absurd (taken none);
        flushed = λ zero. absurd (omega (arith, zero, h.six));
        told = λ n0 quiet. h.whole quiet;
        silent = λ zero. absurd (omega (arith, zero, h.six));
      };
      leaves = record {
        fault = λ six. record { object = disk; rose = broken.struck.rose; others = broken.struck.others; leaves = broken.leaves; text = h.text };
        always = λ object rose. h.six;
        later = broken.struck.later;
        memory = λ eight. absurd (omega (arith, eight, h.six));
        nothing = λ n0 n6. absurd (n6 h.six);
        kept = λ only. h.stores;
      };
      reads = reads;
      journals = journals;
    }
