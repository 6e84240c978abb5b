-- A run of `watch`.
use Rattle.std.proofs.Common.{◌≡◌, ◌≢◌, ◌≤◌, ◌<◌, ◌+◌, ℕ, List, [], Option, Some, IfOk, Result, Ok, Err, refl, sym, ap, subst, ◌∙◌, arith}
use Rattle.std.specs.Io.KnownBytes.{Appends}
use Rattle.std.proofs.lemmas.Bool.{false≢true}
use Rattle.ew_model.specs.Limits.{LimitNumbers, AreLimits}
use Rattle.ew_outside.specs.Counts.{AsksAtMost, RisesOnceAtMost}
use Rattle.ew_outside.specs.Seen.{ShelfSeen, SinkSeen, SourceSeen}
use Rattle.ew_outside.specs.declared.fault.Fault.{Fault}
use Rattle.ew_outside.specs.declared.fault.Fault.TheVariants as fault_is
use Rattle.event_journal.specs.Disk.{TellsAlike}
use Rattle.command_table.specs.Crashes.{OutlastsCrashes}
use Rattle.command_table.specs.Headline.{IsRunOf, Reads}
use Rattle.command_table.specs.Journals.{Journal, TellsJournal, open_journal, watch}
use Rattle.command_table.specs.Kept.{Journals}
use Rattle.command_table.specs.Possible.{MayWatch}
use Rattle.command_table.specs.Reads.{IfRefused, LeavesInput, TakesAtMost, most_asked}
use Rattle.command_table.specs.Scripts.{Means, Reading, told_of}
use Rattle.command_table.specs.Seen.{Seen}
use Rattle.command_table.specs.Sessions.{Session, printed_by}
use Rattle.command_table.specs.Table.{Text, watches}
use Rattle.opened_files.specs.Views.{FailedLoadsBy, IsTakenReply, LoadsAll, reply_status}
use Rattle.opened_files.specs.declared.reply.Reply as own
use Rattle.serve_plans.specs.Plans.{Causes, KeepsStreams}
use Rattle.journal_plans.specs.Stops.{WatchCauses}
use Rattle.journal_plans.specs.Watching.{FollowsWatch, IsOfSource, KeepsJournal}
use Rattle.journal_plans.specs.Watching as kept
use Rattle.journal_plans.specs.declared.stop.Stop.{Stop}
use Rattle.journal_plans.specs.declared.stop.Stop.TheVariants as stop
use Rattle.command_runs.specs.declared.ending.Told.{Told}
use Rattle.command_runs.specs.Endings.{EndsKept, IsEnded, out_of}
use Rattle.command_runs.specs.Lines.{ReadsAll}
use Rattle.command_runs.proofs.Courses.{Facts}
use Rattle.command_runs.proofs.DiskRuns.{DiskFailed, disk_run}
use Rattle.command_runs.proofs.Keeping.{keeps_so, safe_so}
use Rattle.command_runs.proofs.Kept.{IsNotOfDisk, Traces, any_so, as_planned, follows_so, ok_so, replied, traced}
use Rattle.command_runs.proofs.KeptLines.{made_count, watch_tells}
use Rattle.command_runs.proofs.Lines.{asks_none, none_all, none_made, none_refused, taken_line}
use Rattle.command_runs.proofs.Replies.{printed}
use Rattle.command_runs.proofs.Runs.{is_run}

-- what the plan of a watch ensures, but for what is kept
pub record Watches (agent : Text) (limits : LimitNumbers) (old mid new : Seen) (planned : Result own.Reply Stop) : Type 0 where
  pub shelf : mid.shelf ≡ old.shelf
  pub told : (j : Journal) → TellsJournal limits old.disk.bytes j → (xs : List ℕ) (reading : Reading) → old.input.left ≡ Some xs → Means xs reading
      → FollowsWatch (watch agent limits j xs reading).session old.out mid.out planned
  pub some : (s : Session) × MayWatch agent limits s × FollowsWatch s old.out mid.out planned
  pub plan : IfOk planned IsTakenReply
  pub found : IfOk planned (λ p. reply_status p ≢ 3)
  pub end : kept.ReadsAll old.input.left new.input.left planned
  pub few : TakesAtMost (limits.input + 1) old.input.left new.input.left
  pub ends : RisesOnceAtMost old.input.ends new.input.ends
  pub unread : IsOfSource planned → mid.out ≡ old.out
  pub untouched : (j : Journal) → TellsJournal limits old.disk.bytes j → IfRefused (open_journal limits j) (LeavesInput old.input new.input)
  pub refused : kept.ReadsNone old.input new.input planned
  pub tells : TellsAlike old.disk.bytes new.disk.bytes
  pub cause : WatchCauses old.disk.faults new.disk.faults old.input.faults new.input.faults old.out.faults mid.out.faults planned

-- ---- which counts moved

watch_causes : (n n' d d' s s' k k' : ℕ) (planned : Result own.Reply Stop) → n' ≡ n → IsNotOfDisk planned → WatchCauses d d' s s' k k' planned
    → Causes n n' s s' k k' (as_planned planned) × (d' ≡ d)
watch_causes n n' d d' s s' k k' (Ok p) same not c = ((same, c.1, c.2), c.0)
watch_causes n n' d d' s s' k k' (Err (stop.Fault fault_is.OutOfMemory)) same not c = ((same, c.1, c.2), c.0)
watch_causes n n' d d' s s' k k' (Err (stop.Fault fault_is.Source)) same not c = ((same, c.1, c.2), c.0)
watch_causes n n' d d' s s' k k' (Err (stop.Fault fault_is.Sink)) same not c = ((same, c.1, c.2), c.0)
watch_causes n n' d d' s s' k k' (Err (stop.Fault fault_is.Shelf)) same not c = absurd c
watch_causes n n' d d' s s' k k' (Err stop.Disk) same not c = absurd not

source_rose : (d d' s s' k k' : ℕ) (planned : Result own.Reply Stop) → WatchCauses d d' s s' k k' planned → s < s' → planned ≡ Err (stop.Fault fault_is.Source)
source_rose d d' s s' k k' (Ok p) c rose = absurd (omega (arith, c.1, rose))
source_rose d d' s s' k k' (Err (stop.Fault fault_is.OutOfMemory)) c rose = absurd (omega (arith, c.1, rose))
source_rose d d' s s' k k' (Err (stop.Fault fault_is.Source)) c rose = refl
source_rose d d' s s' k k' (Err (stop.Fault fault_is.Sink)) c rose = absurd (omega (arith, c.1, rose))
source_rose d d' s s' k k' (Err (stop.Fault fault_is.Shelf)) c rose = absurd c
source_rose d d' s s' k k' (Err stop.Disk) c rose = absurd (omega (arith, c.1, rose))

disk_rose : (d d' s s' k k' : ℕ) (planned : Result own.Reply Stop) → WatchCauses d d' s s' k k' planned → d < d' → planned ≡ Err stop.Disk
disk_rose d d' s s' k k' (Ok p) c rose = absurd (omega (arith, c.0, rose))
disk_rose d d' s s' k k' (Err (stop.Fault fault_is.OutOfMemory)) c rose = absurd (omega (arith, c.0, rose))
disk_rose d d' s s' k k' (Err (stop.Fault fault_is.Source)) c rose = absurd (omega (arith, c.0, rose))
disk_rose d d' s s' k k' (Err (stop.Fault fault_is.Sink)) c rose = absurd (omega (arith, c.0, rose))
disk_rose d d' s s' k k' (Err (stop.Fault fault_is.Shelf)) c rose = absurd c
disk_rose d d' s s' k k' (Err stop.Disk) c rose = refl

-- the shelf isn't reached
no_shelf : (d d' s s' k k' : ℕ) (planned : Result own.Reply Stop) → WatchCauses d d' s s' k k' planned → as_planned planned ≡ Err fault_is.Shelf → ⊥
no_shelf d d' s s' k k' (Ok p) c is = cc
no_shelf d d' s s' k k' (Err (stop.Fault fault_is.OutOfMemory)) c is = cc
no_shelf d d' s s' k k' (Err (stop.Fault fault_is.Source)) c is = cc
no_shelf d d' s s' k k' (Err (stop.Fault fault_is.Sink)) c is = cc
no_shelf d d' s s' k k' (Err (stop.Fault fault_is.Shelf)) c is = c
no_shelf d d' s s' k k' (Err stop.Disk) c is = cc

none_failed : (n n' d d' s s' k k' : ℕ) (planned : Result own.Reply Stop) → n' ≡ n → WatchCauses d d' s s' k k' planned → FailedLoadsBy n n' (as_planned planned)
none_failed n n' d d' s s' k k' (Ok p) same c = same
none_failed n n' d d' s s' k k' (Err (stop.Fault fault_is.OutOfMemory)) same c = same
none_failed n n' d d' s s' k k' (Err (stop.Fault fault_is.Source)) same c = same
none_failed n n' d d' s s' k k' (Err (stop.Fault fault_is.Sink)) same c = same
none_failed n n' d d' s s' k k' (Err (stop.Fault fault_is.Shelf)) same c = absurd c
none_failed n n' d d' s s' k k' (Err stop.Disk) same c = same

streams_kept : (d d' s s' k k' : ℕ) (input input' : SourceSeen) (out out' : Option (List ℕ)) (planned : Result own.Reply Stop) → WatchCauses d d' s s' k k' planned
    → KeepsStreams input input' out out' (as_planned planned)
streams_kept d d' s s' k k' input input' out out' (Ok p) c = tt
streams_kept d d' s s' k k' input input' out out' (Err (stop.Fault fault_is.OutOfMemory)) c = tt
streams_kept d d' s s' k k' input input' out out' (Err (stop.Fault fault_is.Source)) c = tt
streams_kept d d' s s' k k' input input' out out' (Err (stop.Fault fault_is.Sink)) c = tt
streams_kept d d' s s' k k' input input' out out' (Err (stop.Fault fault_is.Shelf)) c = absurd c
streams_kept d d' s s' k k' input input' out out' (Err stop.Disk) c = tt

of_source : (planned : Result own.Reply Stop) → IsNotOfDisk planned → as_planned planned ≡ Err fault_is.Source → IsOfSource planned
of_source (Ok p) not is = absurd cc
of_source (Err (stop.Fault fault_is.OutOfMemory)) not is = absurd cc
of_source (Err (stop.Fault fault_is.Source)) not is = tt
of_source (Err (stop.Fault fault_is.Sink)) not is = absurd cc
of_source (Err (stop.Fault fault_is.Shelf)) not is = absurd cc
of_source (Err stop.Disk) not is = absurd not

reads_so : (agent : Text) (limits : LimitNumbers) (old new : SourceSeen) (planned : Result own.Reply Stop) → kept.ReadsAll old.left new.left planned
    → ReadsAll (Some (watches agent)) limits old new (as_planned planned)
reads_so agent limits old new (Ok p) h = λ zero input left ends.
    let told : kept.ReadsAll (Some input) new.left (Ok p) = subst (λ x. kept.ReadsAll x new.left (Ok p)) left h in
    told zero
reads_so agent limits old new (Err (stop.Fault fault)) h = tt
reads_so agent limits old new (Err stop.Disk) h = tt

-- ---- the run

facts : (agent : Text) (limits : LimitNumbers) (old mid new : Seen) (planned : Result own.Reply Stop) (ending : Result (Option Told) Fault) (code : ℕ) → Watches agent limits old mid new planned
    → IsNotOfDisk planned → IsEnded (as_planned planned) ending mid.shelf new.shelf mid.out new.out old.err new.err code
    → Facts (Some (watches agent)) limits (as_planned planned) ending old mid new code
facts agent limits old mid new planned ending code h not e =
    let causes = watch_causes old.shelf.faults mid.shelf.faults old.disk.faults new.disk.faults old.input.faults new.input.faults old.out.faults mid.out.faults planned
    (ap (λ (s : ShelfSeen). s.faults) h.shelf) not h.cause in
    let loads : mid.shelf.loads ≡ old.shelf.loads = ap (λ (s : ShelfSeen). s.loads) h.shelf in
    let misses : old.shelf.misses ≤ mid.shelf.misses = omega (arith, ap (λ (s : ShelfSeen). s.misses) h.shelf) in
    let most = most_asked (Some (watches agent)) limits in
    record {
      told = λ files journal bytes meaning at told means.
          follows_so (watch agent limits journal bytes meaning).session old.out mid.out planned (h.told journal (told refl) bytes meaning (means refl).0 (means refl).1);
      some = (h.some.0, h.some.1, follows_so h.some.0 old.out mid.out planned h.some.2);
      heard = tt;
      sends = tt;
      source_alone = λ is. ap (λ (o : SinkSeen). o.taken) (h.unread (of_source planned not is));
      disk_calm = causes.1;
      unopened = λ is. absurd (no_shelf old.disk.faults new.disk.faults old.input.faults new.input.faults old.out.faults mid.out.faults planned h.cause is);
      line = taken_line (watches agent) (as_planned planned) (ok_so IsTakenReply planned h.plan);
      read = reads_so agent limits old.input new.input planned h.end;
      unread = λ none. absurd (false≢true (sym none));
      same = ap (λ (s : ShelfSeen). s.files) h.shelf;
      cause = causes.0;
      misses = misses;
      front = (0, loads);
      loads = any_so (mid.shelf.loads ≡ old.shelf.loads) (as_planned planned) loads;
      failed_loads = none_failed old.shelf.failed_loads mid.shelf.failed_loads old.disk.faults new.disk.faults old.input.faults new.input.faults old.out.faults mid.out.faults planned
          (ap (λ (s : ShelfSeen). s.failed_loads) h.shelf) h.cause;
      all = subst (λ n. LoadsAll [] old.shelf.loads n (as_planned planned)) (sym loads) (none_all old.shelf.loads (as_planned planned));
      makes = none_made old.shelf.misses mid.shelf.misses (as_planned planned);
      asked = subst (AsksAtMost most old.shelf.asked) (sym (ap (λ (s : ShelfSeen). s.asked) h.shelf)) (asks_none most old.shelf.asked);
      no_store = ap (λ (s : ShelfSeen). s.stores) h.shelf;
      ends = h.ends;
      refused = λ needs. absurd (false≢true needs);
      kept = streams_kept old.disk.faults new.disk.faults old.input.faults new.input.faults old.out.faults mid.out.faults old.input new.input old.out.taken mid.out.taken planned h.cause;
      few = h.few;
      untouched = none_refused limits old.shelf.files (LeavesInput old.input new.input);
      which = e.which;
      files = e.files;
      out = e.taken;
      flushed = e.flushed;
      shelf_count = e.shelf_count;
      sink_count = e.sink_count;
      no_miss = e.no_miss;
      no_load = e.no_load;
      no_loss = e.no_loss;
      no_ask = e.no_ask;
      end_stores = e.stores;
      status = e.status;
      text = e.text;
      silent = e.silent;
      whole = e.whole;
    }

-- over a journal and an input that are known, what was sent is told of the lines, and nothing is printed at last
out_none : (s : Session) (out out' : SinkSeen) (planned : Result own.Reply Stop) → printed_by s.closing ≡ [] → FollowsWatch s out out' planned → IfOk planned (λ p. out_of p ≡ [])
out_none s out out' (Ok p) silent f = sym (printed p) ∙ ap printed_by f.0 ∙ silent
out_none s out out' (Err why) silent f = tt

lines_sent : (s : Session) (text : List ℕ) (out out' : SinkSeen) (planned : Result own.Reply Stop) → s.sent ≡ text → FollowsWatch s out out' planned
    → IfOk planned (λ p. Appends out.taken out'.taken text)
lines_sent s text out out' (Ok p) are f = subst (Appends out.taken out'.taken) are f.1.0
lines_sent s text out out' (Err why) are f = tt

module _ {D : Type 0} (may_leave : D → List ℕ → Type 0) (moment : D → ℕ) (left_since : D → ℕ → List ℕ → Type 0) (agent : Text) (limits : LimitNumbers) (old mid new : Seen) (disk disk' : D)
    (planned : Result own.Reply Stop) (code : ℕ) (h : Watches agent limits old mid new planned) (end : EndsKept planned mid.shelf new.shelf mid.out new.out old.err new.err code)
    (keeps : (j : Journal) → TellsJournal limits old.disk.bytes j → (xs : List ℕ) (reading : Reading) → old.input.left ≡ Some xs → Means xs reading
    → KeepsJournal may_leave moment left_since limits j (watch agent limits j xs reading).kept disk disk' old.disk.bytes new.disk.bytes old.out mid.out planned) where
  traces : (journal : Journal) (bytes : List ℕ) (meaning : Reading) → FollowsWatch (watch agent limits journal bytes meaning).session old.out mid.out planned → Traces planned old mid new code
  traces journal bytes meaning follows =
      traced planned old mid new code end (out_none (watch agent limits journal bytes meaning).session old.out mid.out planned (watch_tells agent limits journal bytes meaning).silent follows)
      (source_rose old.disk.faults new.disk.faults old.input.faults new.input.faults old.out.faults mid.out.faults planned h.cause)
      (disk_rose old.disk.faults new.disk.faults old.input.faults new.input.faults old.out.faults mid.out.faults planned h.cause)

  sent : (journal : Journal) (bytes : List ℕ) (meaning : Reading) → FollowsWatch (watch agent limits journal bytes meaning).session old.out mid.out planned
      → IfOk planned (λ p. Appends old.out.taken mid.out.taken (told_of (watch agent limits journal bytes meaning).kept))
  sent journal bytes meaning follows =
      let w = watch agent limits journal bytes meaning in
      lines_sent w.session (told_of w.kept) old.out mid.out planned (watch_tells agent limits journal bytes meaning).sent follows

  not_three : code ≡ 3 → ⊥
  not_three three =
      let r = replied planned mid.shelf new.shelf mid.out new.out old.err new.err code end (λ six. omega (arith, three, six)) (λ eight. omega (arith, three, eight)) in
      let other : reply_status r.0 ≡ 3 → ⊥ = subst (λ x. IfOk x (λ p. reply_status p ≢ 3)) r.1 h.found in
      other (r.2 ∙ three)

  four_unread : code ≡ 4 → LeavesInput old.input new.input
  four_unread four =
      let r = replied planned mid.shelf new.shelf mid.out new.out old.err new.err code end (λ six. omega (arith, four, six)) (λ eight. omega (arith, four, eight)) in
      let unread : reply_status r.0 ≡ 4 → LeavesInput old.input new.input = subst (kept.ReadsNone old.input new.input) r.1 h.refused in
      unread (r.2 ∙ four)

  journals : AreLimits limits → Journals (Some (watches agent)) limits old new code
  journals are = record {
    alone = λ unused. absurd (false≢true (sym unused));
    there = λ three. absurd (not_three three);
    tells = h.tells;
    known = λ journal xs meaning uses told means.
        let follows = h.told journal told xs meaning (means refl).0 (means refl).1 in
        let w = watch agent limits journal xs meaning in
        keeps_so may_leave moment left_since limits journal w.kept old mid new disk disk' planned code (keeps journal told xs meaning (means refl).0 (means refl).1)
        (sent journal xs meaning follows) (traces journal xs meaning follows) (made_count limits w.kept are (watch_tells agent limits journal xs meaning).made);
    untouched = λ journal uses told. h.untouched journal told;
    refused = λ uses four. four_unread four;
  }

  pub watch_safe : OutlastsCrashes may_leave moment left_since (Some (watches agent)) limits old new disk disk' code
  watch_safe = record {
    alone = λ unused. absurd (false≢true (sym unused));
    known = λ journal xs meaning uses told means.
        let follows = h.told journal told xs meaning (means refl).0 (means refl).1 in
        let w = watch agent limits journal xs meaning in
        safe_so may_leave moment left_since limits journal w.kept old mid new disk disk' planned code (keeps journal told xs meaning (means refl).0 (means refl).1)
        (sent journal xs meaning follows) (traces journal xs meaning follows);
  }

-- where the disk failed
disk_stopped : (agent : Text) (limits : LimitNumbers) (old mid new : Seen) (code : ℕ) → Watches agent limits old mid new (Err stop.Disk)
    → EndsKept (Err stop.Disk) mid.shelf new.shelf mid.out new.out old.err new.err code → DiskFailed (Some (watches agent)) old mid new code
disk_stopped agent limits old mid new code h end =
    let same = end.0 ∙ h.shelf in
    record {
      six = end.2;
      files = ap (λ (s : ShelfSeen). s.files) same;
      stores = ap (λ (s : ShelfSeen). s.stores) same;
      failed_loads = ap (λ (s : ShelfSeen). s.failed_loads) same;
      out = end.1;
      shelf_same = ap (λ (s : ShelfSeen). s.faults) same;
      source_same = h.cause.1;
      sink_same = ap (λ (o : SinkSeen). o.faults) end.1 ∙ h.cause.2;
      rose = h.cause.0;
      sends = tt;
      text = end.3;
      whole = end.4;
    }

disk_reads : (agent : Text) (limits : LimitNumbers) (old mid new : Seen) (code : ℕ) → code ≡ 6 → Watches agent limits old mid new (Err stop.Disk) → new.shelf ≡ old.shelf
    → Reads (Some (watches agent)) limits old new code
disk_reads agent limits old mid new code six h same = record {
  missing = λ needs. absurd (false≢true needs);
  found = λ needs. absurd (false≢true needs);
  there = λ makes. absurd (false≢true makes);
  absent = λ makes. absurd (false≢true makes);
  front = (0, ap (λ (s : ShelfSeen). s.loads) same);
  loads = λ n6. absurd (n6 six);
  loaded = λ well. ap (λ (s : ShelfSeen). s.loads) same;
  asked = subst (AsksAtMost (most_asked (Some (watches agent)) limits) old.shelf.asked) (sym (ap (λ (s : ShelfSeen). s.asked) same)) (asks_none (most_asked (Some (watches agent)) limits) old.shelf.asked);
  read = λ zero. absurd (omega (arith, zero, six));
  unread = λ none. absurd (false≢true (sym none));
  ends = h.ends;
  few = h.few;
  untouched = λ files at needs. absurd (false≢true needs);
  refused = λ needs. absurd (false≢true needs);
  hears = tt;
}

pub watch_run : {D : Type 0} (may_leave : D → List ℕ → Type 0) (moment : D → ℕ) (left_since : D → ℕ → List ℕ → Type 0) (agent : Text) (limits : LimitNumbers) (old mid new : Seen) (disk disk' : D)
    (planned : Result own.Reply Stop) (code : ℕ) → Watches agent limits old mid new planned → EndsKept planned mid.shelf new.shelf mid.out new.out old.err new.err code
    → ((j : Journal) → TellsJournal limits old.disk.bytes j → (xs : List ℕ) (reading : Reading) → old.input.left ≡ Some xs → Means xs reading
    → KeepsJournal may_leave moment left_since limits j (watch agent limits j xs reading).kept disk disk' old.disk.bytes new.disk.bytes old.out mid.out planned)
    → AreLimits limits → IsRunOf (Some (watches agent)) limits old new code
watch_run may_leave moment left_since agent limits old mid new disk disk' (Ok p) code h end keeps are =
    is_run (Some (watches agent)) limits (Ok p) end.0 old mid new code (facts agent limits old mid new (Ok p) end.0 code h tt end.1)
    (journals may_leave moment left_since agent limits old mid new disk disk' (Ok p) code h end keeps are)
watch_run may_leave moment left_since agent limits old mid new disk disk' (Err (stop.Fault fault)) code h end keeps are =
    is_run (Some (watches agent)) limits (Err fault) (Err fault) old mid new code (facts agent limits old mid new (Err (stop.Fault fault)) (Err fault) code h tt end.2)
    (journals may_leave moment left_since agent limits old mid new disk disk' (Err (stop.Fault fault)) code h end keeps are)
watch_run may_leave moment left_since agent limits old mid new disk disk' (Err stop.Disk) code h end keeps are =
    disk_run (Some (watches agent)) limits old mid new code (disk_stopped agent limits old mid new code h end)
    (λ files journal bytes meaning at told means.
    follows_so (watch agent limits journal bytes meaning).session old.out mid.out (Err stop.Disk) (h.told journal (told refl) bytes meaning (means refl).0 (means refl).1))
    (h.some.0, h.some.1, follows_so h.some.0 old.out mid.out (Err stop.Disk) h.some.2) tt (λ bad. cc) (disk_reads agent limits old mid new code end.2 h (end.0 ∙ h.shelf))
    (journals may_leave moment left_since agent limits old mid new disk disk' (Err stop.Disk) code h end keeps are)
