-- A run of `export`.
use Rattle.std.proofs.Common.{◌≡◌, ◌≤◌, ◌<◌, inl, ℕ, List, [], Option, Some, IfOk, IfSome, Result, Ok, Err, refl, sym, ap, subst, ◌∙◌, arith}
use Rattle.std.specs.FinMap.{get}
use Rattle.std.specs.Io.KnownBytes.{Appends}
use Rattle.std.proofs.KnownBytes.{Appends-nil}
use Rattle.std.proofs.lemmas.Bool.{false≢true}
use Rattle.ew_model.specs.Limits.{LimitNumbers}
use Rattle.ew_outside.specs.Counts.{Asks, Rose, next}
use Rattle.ew_outside.specs.Seen.{ShelfSeen, SinkSeen, SourceSeen}
use Rattle.ew_outside.specs.declared.fault.Fault.{Fault}
use Rattle.ew_outside.specs.declared.fault.Fault.TheVariants as fault_is
use Rattle.event_journal.specs.Disk.{DiskSeen, TellsAlike}
use Rattle.command_table.specs.Crashes.{OutlastsCrashes}
use Rattle.command_table.specs.Headline.{IsRunOf, Reads}
use Rattle.command_table.specs.Journals.{Journal, TellsJournal, export_reply, open_journal}
use Rattle.command_table.specs.Kept.{Journals}
use Rattle.command_table.specs.Loads.{File, missing, whole_of}
use Rattle.command_table.specs.Possible.{KeepsTo, MayOpenJournal}
use Rattle.command_table.specs.Reads.{LeavesInput, shape_of}
use Rattle.command_table.specs.Refusals.{journal_too_many}
use Rattle.command_table.specs.Seen.{Seen}
use Rattle.command_table.specs.Sessions.{closed_by, printed_by}
use Rattle.command_table.specs.Table.{Text, Opened, Reply, exports, refused}
use Rattle.opened_files.proofs.Reading.{if_refused, takes_none}
use Rattle.opened_files.specs.Views.{FailedLoadsBy, IsTakenReply, reply_status, reply_view}
use Rattle.opened_files.specs.declared.reply.Reply as own
use Rattle.serve_plans.proofs.Answers.{grows_none}
use Rattle.serve_plans.specs.Plans.{Causes, FollowsSession, KeepsStreams}
use Rattle.journal_plans.specs.Stops.{ExportCauses, FailedLoadsOf, IsOfShelf}
use Rattle.journal_plans.specs.Watching.{KeepsJournal}
use Rattle.journal_plans.specs.declared.stop.Stop.{Stop}
use Rattle.journal_plans.specs.declared.stop.Stop.TheVariants as stop
use Rattle.command_runs.specs.declared.ending.Told.{Told}
use Rattle.command_runs.specs.Endings.{EndsKept, IsEnded, out_of}
use Rattle.command_runs.specs.Lines.{IsNotOfSink, PlansKnown, PlansSome, ReadsAll}
use Rattle.command_runs.proofs.Courses.{Facts}
use Rattle.command_runs.proofs.DiskRuns.{DiskFailed, disk_run}
use Rattle.command_runs.proofs.Keeping.{keeps_so, kept_none, safe_so}
use Rattle.command_runs.proofs.Kept.{IsNotOfDisk, Traces, any_so, as_planned, ok_so, replied, traced}
use Rattle.command_runs.proofs.KeptLines.{export_silent, none_count}
use Rattle.command_runs.proofs.Lines.{asks_most, closes_silent, file_refused, made_file, one_all, one_front, taken_line}
use Rattle.command_runs.proofs.Replies.{printed}
use Rattle.command_runs.proofs.Runs.{is_run}
use Rattle.journal_plans.proofs.Keeping.{same_taken}

-- what the plan of an export ensures, but for what stands of the journal
pub record Exports (file : Text) (limits : LimitNumbers) (old mid new : Seen) (planned : Result own.Reply Stop) : Type 0 where
  pub out : mid.out ≡ old.out
  pub input : new.input ≡ old.input
  pub told : IfSome old.shelf.files (λ m. (j : Journal) → TellsJournal limits old.disk.bytes j → IfOk planned (λ p. reply_view p ≡ export_reply file (whole_of 0 (get m file)) (open_journal limits j)))
  pub some : IfOk planned (λ p. (found : File) × (o : Opened) × MayOpenJournal limits o × (reply_view p ≡ export_reply file found o) × KeepsTo 0 found)
  pub plan : IfOk planned IsTakenReply
  pub same : mid.shelf.files ≡ old.shelf.files
  pub misses : old.shelf.misses ≤ mid.shelf.misses
  pub there : IfOk planned (λ p. reply_status p ≡ 3 → (mid.shelf.misses ≡ old.shelf.misses) × (new.disk ≡ old.disk))
  pub absent : IfOk planned (λ p. reply_status p ≡ 0 → Rose old.shelf.misses mid.shelf.misses)
  pub loads : mid.shelf.loads ≡ next old.shelf.loads
  pub failed_loads : FailedLoadsOf old.shelf.failed_loads mid.shelf.failed_loads planned
  pub loaded_first : IsOfShelf planned → new.disk ≡ old.disk
  pub asked : Asks 0 old.shelf.asked mid.shelf.asked
  pub stores : mid.shelf.stores ≡ old.shelf.stores
  pub tells : TellsAlike old.disk.bytes new.disk.bytes
  pub cause : ExportCauses old.shelf.faults mid.shelf.faults old.disk.faults new.disk.faults planned

-- a disk that is the same is seen the same
pub there_seen : {D : Type 0} (seen : D → DiskSeen) (disk disk' : D) (misses misses' : ℕ) (planned : Result own.Reply Stop) → IfOk planned (λ p. reply_status p ≡ 3 → (misses' ≡ misses) × (disk' ≡ disk))
    → IfOk planned (λ p. reply_status p ≡ 3 → (misses' ≡ misses) × (seen disk' ≡ seen disk))
there_seen seen disk disk' misses misses' (Ok p) h = λ three. let both = h three in (both.0, ap seen both.1)
there_seen seen disk disk' misses misses' (Err why) h = tt

-- ---- which counts moved

export_causes : (n n' d d' s s' k k' : ℕ) (planned : Result own.Reply Stop) → s' ≡ s → k' ≡ k → IsNotOfDisk planned → ExportCauses n n' d d' planned
    → Causes n n' s s' k k' (as_planned planned) × (d' ≡ d)
export_causes n n' d d' s s' k k' (Ok p) source sink not c = ((c.0, source, sink), c.1)
export_causes n n' d d' s s' k k' (Err (stop.Fault fault_is.OutOfMemory)) source sink not c = ((c.0, source, sink), c.1)
export_causes n n' d d' s s' k k' (Err (stop.Fault fault_is.Shelf)) source sink not c = ((c.0, source, sink), c.1)
export_causes n n' d d' s s' k k' (Err (stop.Fault fault_is.Source)) source sink not c = absurd c
export_causes n n' d d' s s' k k' (Err (stop.Fault fault_is.Sink)) source sink not c = absurd c
export_causes n n' d d' s s' k k' (Err stop.Disk) source sink not c = absurd not

disk_rose : (n n' d d' : ℕ) (planned : Result own.Reply Stop) → ExportCauses n n' d d' planned → d < d' → planned ≡ Err stop.Disk
disk_rose n n' d d' (Ok p) c rose = absurd (omega (arith, c.1, rose))
disk_rose n n' d d' (Err (stop.Fault fault_is.OutOfMemory)) c rose = absurd (omega (arith, c.1, rose))
disk_rose n n' d d' (Err (stop.Fault fault_is.Shelf)) c rose = absurd (omega (arith, c.1, rose))
disk_rose n n' d d' (Err (stop.Fault fault_is.Source)) c rose = absurd c
disk_rose n n' d d' (Err (stop.Fault fault_is.Sink)) c rose = absurd c
disk_rose n n' d d' (Err stop.Disk) c rose = refl

not_of_sink : (n n' d d' : ℕ) (planned : Result own.Reply Stop) → ExportCauses n n' d d' planned → IsNotOfSink (as_planned planned)
not_of_sink n n' d d' (Ok p) c = tt
not_of_sink n n' d d' (Err (stop.Fault fault_is.OutOfMemory)) c = tt
not_of_sink n n' d d' (Err (stop.Fault fault_is.Shelf)) c = tt
not_of_sink n n' d d' (Err (stop.Fault fault_is.Source)) c = tt
not_of_sink n n' d d' (Err (stop.Fault fault_is.Sink)) c = c
not_of_sink n n' d d' (Err stop.Disk) c = tt

of_shelf : (planned : Result own.Reply Stop) → as_planned planned ≡ Err fault_is.Shelf → IsOfShelf planned
of_shelf (Ok p) is = absurd cc
of_shelf (Err (stop.Fault fault_is.OutOfMemory)) is = absurd cc
of_shelf (Err (stop.Fault fault_is.Shelf)) is = tt
of_shelf (Err (stop.Fault fault_is.Source)) is = absurd cc
of_shelf (Err (stop.Fault fault_is.Sink)) is = absurd cc
of_shelf (Err stop.Disk) is = absurd cc

loads_failed : (before now : ℕ) (planned : Result own.Reply Stop) → FailedLoadsOf before now planned → FailedLoadsBy before now (as_planned planned)
loads_failed before now (Ok p) h = h
loads_failed before now (Err (stop.Fault fault_is.OutOfMemory)) h = h
loads_failed before now (Err (stop.Fault fault_is.Shelf)) h = h
loads_failed before now (Err (stop.Fault fault_is.Source)) h = h
loads_failed before now (Err (stop.Fault fault_is.Sink)) h = h
loads_failed before now (Err stop.Disk) h = h

reads_none : (file : Text) (limits : LimitNumbers) (old new : SourceSeen) (planned : Result own.Reply Fault) → ReadsAll (Some (exports file)) limits old new planned
reads_none file limits old new (Ok p) = λ zero input left ends. absurd (false≢true ends)
reads_none file limits old new (Err fault) = tt

streams_kept : (input input' : SourceSeen) (out out' : Option (List ℕ)) (planned : Result own.Reply Fault) → input' ≡ input → out' ≡ out → KeepsStreams input input' out out' planned
streams_kept input input' out out' (Ok p) first second = tt
streams_kept input input' out out' (Err fault_is.Shelf) first second = (first, second)
streams_kept input input' out out' (Err fault_is.Source) first second = tt
streams_kept input input' out out' (Err fault_is.Sink) first second = tt
streams_kept input input' out out' (Err fault_is.OutOfMemory) first second = tt

-- the reply closes a session that is sent nothing
follows_reply : (out out' : SinkSeen) (reply : Reply) (planned : Result own.Reply Stop) → out' ≡ out → IfOk planned (λ p. reply_view p ≡ reply)
    → FollowsSession (closed_by reply) out.taken out'.taken out'.flushed (as_planned planned)
follows_reply out out' reply planned same is =
    subst (λ (o : SinkSeen). FollowsSession (closed_by reply) out.taken o.taken o.flushed (as_planned planned)) (sym same)
    (closes_silent out.taken out.flushed reply (as_planned planned) (ok_so (λ p. reply_view p ≡ reply) planned is))

plans_known : (file : Text) (limits : LimitNumbers) (old mid new : Seen) (planned : Result own.Reply Stop) → Exports file limits old mid new planned
    → PlansKnown (Some (exports file)) limits old.shelf old.disk.bytes old.input old.out mid.out (as_planned planned)
plans_known file limits old mid new planned h = λ files journal bytes meaning at told means.
    let known = subst (λ x. IfSome x (λ m. (j : Journal) → TellsJournal limits old.disk.bytes j → IfOk planned (λ p. reply_view p ≡ export_reply file (whole_of 0 (get m file)) (open_journal limits j)))) at h.told in
    follows_reply old.out mid.out (export_reply file (whole_of 0 (get files file)) (open_journal limits journal)) planned h.out (known journal (told refl))

some_reply : (file : Text) (limits : LimitNumbers) (out : SinkSeen) (planned : Result own.Reply Stop)
    → IfOk planned (λ p. (found : File) × (o : Opened) × MayOpenJournal limits o × (reply_view p ≡ export_reply file found o) × KeepsTo 0 found)
    → PlansSome (Some (exports file)) limits out out (as_planned planned)
some_reply file limits out (Ok p) h = (closed_by (reply_view p), (h.0, h.1, h.2, ap closed_by h.3, h.4), (refl, (Appends-nil out.taken, inl refl)))
some_reply file limits out (Err (stop.Fault fault)) h =
    (closed_by (export_reply file missing (refused (journal_too_many limits.events))), (missing, refused (journal_too_many limits.events), inl refl, refl, tt), grows_none out.taken [])
some_reply file limits out (Err stop.Disk) h =
    (closed_by (export_reply file missing (refused (journal_too_many limits.events))), (missing, refused (journal_too_many limits.events), inl refl, refl, tt), grows_none out.taken [])

-- ---- the run

some_so : (file : Text) (limits : LimitNumbers) (old mid new : Seen) (planned : Result own.Reply Stop) → Exports file limits old mid new planned
    → PlansSome (Some (exports file)) limits old.out mid.out (as_planned planned)
some_so file limits old mid new planned h =
    subst (λ (o : SinkSeen). PlansSome (Some (exports file)) limits old.out o (as_planned planned)) (sym h.out) (some_reply file limits old.out planned h.some)

none_missed : (old mid new : Seen) (planned : Result own.Reply Stop) → IfOk planned (λ p. reply_status p ≡ 3 → (mid.shelf.misses ≡ old.shelf.misses) × (new.disk ≡ old.disk))
    → IfOk (as_planned planned) (λ p. reply_status p ≡ 3 → mid.shelf.misses ≡ old.shelf.misses)
none_missed old mid new (Ok p) f = λ three. (f three).0
none_missed old mid new (Err (stop.Fault fault)) f = tt
none_missed old mid new (Err stop.Disk) f = tt

facts : (file : Text) (limits : LimitNumbers) (old mid new : Seen) (planned : Result own.Reply Stop) (ending : Result (Option Told) Fault) (code : ℕ) → Exports file limits old mid new planned
    → IsNotOfDisk planned → IsEnded (as_planned planned) ending mid.shelf new.shelf mid.out new.out old.err new.err code
    → Facts (Some (exports file)) limits (as_planned planned) ending old mid new code
facts file limits old mid new planned ending code h not e =
    let causes = export_causes old.shelf.faults mid.shelf.faults old.disk.faults new.disk.faults old.input.faults new.input.faults old.out.faults mid.out.faults planned
    (ap (λ (s : SourceSeen). s.faults) h.input) (ap (λ (o : SinkSeen). o.faults) h.out) not h.cause in
    record {
      told = plans_known file limits old mid new planned h;
      some = some_so file limits old mid new planned h;
      heard = tt;
      sends = (ap (λ (o : SinkSeen). o.taken) h.out, not_of_sink old.shelf.faults mid.shelf.faults old.disk.faults new.disk.faults planned h.cause);
      source_alone = λ is. ap (λ (o : SinkSeen). o.taken) h.out;
      disk_calm = causes.1;
      unopened = λ is. h.loaded_first (of_shelf planned is);
      line = taken_line (exports file) (as_planned planned) (ok_so IsTakenReply planned h.plan);
      read = reads_none file limits old.input new.input (as_planned planned);
      unread = λ none. h.input;
      same = h.same;
      cause = causes.0;
      misses = h.misses;
      front = one_front file old.shelf.loads mid.shelf.loads h.loads;
      loads = any_so (mid.shelf.loads ≡ next old.shelf.loads) (as_planned planned) h.loads;
      failed_loads = loads_failed old.shelf.failed_loads mid.shelf.failed_loads planned h.failed_loads;
      all = one_all file old.shelf.loads mid.shelf.loads (as_planned planned) h.loads;
      makes = made_file old.shelf.misses mid.shelf.misses (as_planned planned) (none_missed old mid new planned h.there)
          (ok_so (λ p. reply_status p ≡ 0 → Rose old.shelf.misses mid.shelf.misses) planned h.absent);
      asked = asks_most 0 old.shelf.asked mid.shelf.asked h.asked;
      no_store = h.stores;
      ends = inl (ap (λ (s : SourceSeen). s.ends) h.input);
      refused = λ needs. absurd (false≢true needs);
      kept = streams_kept old.input new.input old.out.taken mid.out.taken (as_planned planned) h.input (ap (λ (o : SinkSeen). o.taken) h.out);
      few = takes_none _ old.input.left new.input.left (ap (λ (s : SourceSeen). s.left) h.input);
      untouched = file_refused (shape_of (Some (exports file))) limits old.shelf.files (LeavesInput old.input new.input) h.input;
      which = e.which;
      files = e.files;
      out = e.taken;
      flushed = e.flushed;
      shelf_count = e.shelf_count;
      sink_count = e.sink_count;
      no_miss = e.no_miss;
      no_load = e.no_load;
      no_loss = e.no_loss;
      no_ask = e.no_ask;
      end_stores = e.stores;
      status = e.status;
      text = e.text;
      silent = e.silent;
      whole = e.whole;
    }

-- nothing is sent, and nothing printed at last
out_none : (file : Text) (limits : LimitNumbers) (planned : Result own.Reply Stop)
    → IfOk planned (λ p. (found : File) × (o : Opened) × MayOpenJournal limits o × (reply_view p ≡ export_reply file found o) × KeepsTo 0 found) → IfOk planned (λ p. out_of p ≡ [])
out_none file limits (Ok p) f = sym (printed p) ∙ ap printed_by f.3 ∙ export_silent file f.0 f.1
out_none file limits (Err why) f = tt

none_sent : (out out' : Option (List ℕ)) (planned : Result own.Reply Stop) → out' ≡ out → IfOk planned (λ p. Appends out out' [])
none_sent out out' (Ok p) same = same_taken out out' same
none_sent out out' (Err why) same = tt

module _ {D : Type 0} (may_leave : D → List ℕ → Type 0) (moment : D → ℕ) (left_since : D → ℕ → List ℕ → Type 0) (file : Text) (limits : LimitNumbers) (old mid new : Seen) (disk disk' : D)
    (planned : Result own.Reply Stop) (code : ℕ) (one : SinkSeen) (h : Exports file limits old mid new planned) (end : EndsKept planned mid.shelf new.shelf mid.out new.out old.err new.err code)
    (keeps : (j : Journal) → TellsJournal limits old.disk.bytes j → KeepsJournal may_leave moment left_since limits j [] disk disk' old.disk.bytes new.disk.bytes one one planned) where
  traces : Traces planned old mid new code
  traces =
      traced planned old mid new code end (out_none file limits planned h.some) (λ rose. absurd (omega (arith, rose, ap (λ (s : SourceSeen). s.faults) h.input)))
      (disk_rose old.shelf.faults mid.shelf.faults old.disk.faults new.disk.faults planned h.cause)

  sent : IfOk planned (λ p. Appends old.out.taken mid.out.taken [])
  sent = none_sent old.out.taken mid.out.taken planned (ap (λ (o : SinkSeen). o.taken) h.out)

  there_so : code ≡ 3 → new.disk ≡ old.disk
  there_so three =
      let r = replied planned mid.shelf new.shelf mid.out new.out old.err new.err code end (λ six. omega (arith, three, six)) (λ eight. omega (arith, three, eight)) in
      let same : reply_status r.0 ≡ 3 → (mid.shelf.misses ≡ old.shelf.misses) × (new.disk ≡ old.disk) =
      subst (λ x. IfOk x (λ p. reply_status p ≡ 3 → (mid.shelf.misses ≡ old.shelf.misses) × (new.disk ≡ old.disk))) r.1 h.there in
      (same (r.2 ∙ three)).1

  keeps_here : (j : Journal) → TellsJournal limits old.disk.bytes j → KeepsJournal may_leave moment left_since limits j [] disk disk' old.disk.bytes new.disk.bytes old.out mid.out planned
  keeps_here j told = subst (λ (o : SinkSeen). KeepsJournal may_leave moment left_since limits j [] disk disk' old.disk.bytes new.disk.bytes old.out o planned) (sym h.out)
      (kept_none may_leave moment left_since limits j disk disk' old.disk.bytes new.disk.bytes one old.out planned (keeps j told))

  journals : Journals (Some (exports file)) limits old new code
  journals = record {
    alone = λ unused. absurd (false≢true (sym unused));
    there = there_so;
    tells = h.tells;
    known = λ journal xs meaning uses told means. keeps_so may_leave moment left_since limits journal [] old mid new disk disk' planned code (keeps_here journal told) sent traces (none_count limits);
    untouched = λ journal uses told. if_refused (open_journal limits journal) (LeavesInput old.input new.input) h.input;
    refused = λ uses four. h.input;
  }

  pub export_safe : OutlastsCrashes may_leave moment left_since (Some (exports file)) limits old new disk disk' code
  export_safe = record {
    alone = λ unused. absurd (false≢true (sym unused));
    known = λ journal xs meaning uses told means. safe_so may_leave moment left_since limits journal [] old mid new disk disk' planned code (keeps_here journal told) sent traces;
  }

-- where the disk failed
disk_stopped : (file : Text) (limits : LimitNumbers) (old mid new : Seen) (code : ℕ) → Exports file limits old mid new (Err stop.Disk)
    → EndsKept (Err stop.Disk) mid.shelf new.shelf mid.out new.out old.err new.err code → DiskFailed (Some (exports file)) old mid new code
disk_stopped file limits old mid new code h end = record {
  six = end.2;
  files = ap (λ (s : ShelfSeen). s.files) end.0 ∙ h.same;
  stores = ap (λ (s : ShelfSeen). s.stores) end.0 ∙ h.stores;
  failed_loads = ap (λ (s : ShelfSeen). s.failed_loads) end.0 ∙ h.failed_loads;
  out = end.1;
  shelf_same = ap (λ (s : ShelfSeen). s.faults) end.0 ∙ h.cause.0;
  source_same = ap (λ (s : SourceSeen). s.faults) h.input;
  sink_same = ap (λ (o : SinkSeen). o.faults) (end.1 ∙ h.out);
  rose = h.cause.1;
  sends = ap (λ (o : SinkSeen). o.taken) (end.1 ∙ h.out);
  text = end.3;
  whole = end.4;
}

disk_reads : (file : Text) (limits : LimitNumbers) (old mid new : Seen) (code : ℕ) → code ≡ 6 → Exports file limits old mid new (Err stop.Disk) → new.shelf ≡ mid.shelf
    → Reads (Some (exports file)) limits old new code
disk_reads file limits old mid new code six h same =
    let loads = ap (λ (s : ShelfSeen). s.loads) same ∙ h.loads in
    record {
      missing = λ needs. absurd (false≢true needs);
      found = λ needs. absurd (false≢true needs);
      there = λ makes three. absurd (omega (arith, three, six));
      absent = λ makes zero. absurd (omega (arith, zero, six));
      front = (1, loads);
      loads = λ n6. absurd (n6 six);
      loaded = λ well. loads;
      asked = asks_most 0 old.shelf.asked new.shelf.asked (ap (λ (s : ShelfSeen). s.asked) same ∙ h.asked);
      read = λ zero. absurd (omega (arith, zero, six));
      unread = λ none. h.input;
      ends = inl (ap (λ (s : SourceSeen). s.ends) h.input);
      few = takes_none _ old.input.left new.input.left (ap (λ (s : SourceSeen). s.left) h.input);
      untouched = λ files at needs. absurd (false≢true needs);
      refused = λ needs. absurd (false≢true needs);
      hears = tt;
    }

pub export_run : {D : Type 0} (may_leave : D → List ℕ → Type 0) (moment : D → ℕ) (left_since : D → ℕ → List ℕ → Type 0) (file : Text) (limits : LimitNumbers) (old mid new : Seen) (disk disk' : D)
    (planned : Result own.Reply Stop) (code : ℕ) (one : SinkSeen) → Exports file limits old mid new planned → EndsKept planned mid.shelf new.shelf mid.out new.out old.err new.err code
    → ((j : Journal) → TellsJournal limits old.disk.bytes j → KeepsJournal may_leave moment left_since limits j [] disk disk' old.disk.bytes new.disk.bytes one one planned)
    → IsRunOf (Some (exports file)) limits old new code
export_run may_leave moment left_since file limits old mid new disk disk' (Ok p) code one h end keeps =
    is_run (Some (exports file)) limits (Ok p) end.0 old mid new code (facts file limits old mid new (Ok p) end.0 code h tt end.1)
    (journals may_leave moment left_since file limits old mid new disk disk' (Ok p) code one h end keeps)
export_run may_leave moment left_since file limits old mid new disk disk' (Err (stop.Fault fault)) code one h end keeps =
    is_run (Some (exports file)) limits (Err fault) (Err fault) old mid new code (facts file limits old mid new (Err (stop.Fault fault)) (Err fault) code h tt end.2)
    (journals may_leave moment left_since file limits old mid new disk disk' (Err (stop.Fault fault)) code one h end keeps)
export_run may_leave moment left_since file limits old mid new disk disk' (Err stop.Disk) code one h end keeps =
    disk_run (Some (exports file)) limits old mid new code (disk_stopped file limits old mid new code h end) (plans_known file limits old mid new (Err stop.Disk) h)
    (some_so file limits old mid new (Err stop.Disk) h) (ap (λ (o : SinkSeen). o.taken) h.out, tt) (λ bad. cc) (disk_reads file limits old mid new code end.2 h end.0)
    (journals may_leave moment left_since file limits old mid new disk disk' (Err stop.Disk) code one h end keeps)
