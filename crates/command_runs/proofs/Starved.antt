-- A run for whose words there was no memory.
use Rattle.std.proofs.Common.{◌≡◌, ◌≤◌, ◌∙◌, ap, List, [], ◌∷◌, ◌++◌, length, ℕ, Bool, true, false, ◌⊎◌, inl, inr, refl, sym, subst, arith, append-nil, Option, None, Some, Result, Err}
use Rattle.std.proofs.lemmas.List.{length-append}
use Rattle.ew_model.specs.Limits.{LimitNumbers}
use Rattle.ew_outside.specs.Files.{Files}
use Rattle.ew_outside.specs.Seen.{SinkSeen, SourceSeen}
use Rattle.ew_outside.specs.Bytes.{IsFlushed}
use Rattle.ew_outside.specs.Counts.{IsQuiet}
use Rattle.ew_outside.specs.declared.fault.Fault.{Fault}
use Rattle.ew_outside.specs.declared.fault.Fault.TheVariants as fault_is
use Rattle.event_journal.specs.Disk.{TellsAlike}
use Rattle.peer_definitions.specs.Batches.{AreBatches}
use Rattle.ew_model.specs.declared.event.Event.{Event}
use Rattle.ew_model.proofs.ListPlaces.{some_is}
use Rattle.command_table.specs.Headline.{IsRunOf}
use Rattle.command_table.specs.Crashes.{OutlastsCrashes, HoldsSameAsOne, HoldsSomeFront}
use Rattle.command_table.specs.Journals.{Journal, IsJournal, open_journal}
use Rattle.event_journal.specs.Journal.{HoldSame}
use Rattle.event_journal.proofs.Moments.{at_first}
use Rattle.command_table.specs.Kept.{HoldsPrinted, Journals}
use Rattle.command_table.specs.Loads.{missing}
use Rattle.command_table.specs.Lines.{session_of, kept_of, UnlessServes}
use Rattle.command_table.specs.Reads.{needs_file, shape_of, LeavesInput}
use Rattle.command_table.specs.Refusals.{not_taken, journal_too_many}
use Rattle.command_table.specs.Seen.{Seen, TellsErr}
use Rattle.command_table.specs.Sessions.{closed_by}
use Rattle.command_table.specs.Table.{Text, Line, does, serves, watches, exports, refuses, refused}
use Rattle.command_table.specs.Text.{out_of_memory}
use Rattle.opened_files.specs.declared.reply.Reply as own
use Rattle.opened_files.proofs.Reading.{if_refused, takes_none}
use Rattle.serve_plans.specs.Plans.{ReadsOn, SendsReplies}
use Rattle.serve_plans.proofs.Answers.{grows_none}
use Rattle.serve_plans.proofs.Opening.{stopped_plans}
use Rattle.serve_plans.proofs.Prompt.{prompt_none}
use Rattle.command_runs.specs.Lines.{Heard, IsReplyOf, MissesFor, PlansSome, SendsNone}
use Rattle.command_runs.proofs.Faults.{Calm}
use Rattle.command_runs.proofs.Lines.{command_some, file_refused}
use Rattle.command_runs.proofs.Runs.{is_run}
use Rattle.journal_plans.proofs.Batches.{tells_itself}

abbrev stopped : Result own.Reply Fault
stopped = Err fault_is.OutOfMemory

some_session : (l : Option Line) (limits : LimitNumbers) (out : SinkSeen) → PlansSome l limits out out stopped
some_session None limits out = (closed_by (refuses not_taken), refl, grows_none out.taken [])
some_session (Some (does command)) limits out = command_some command limits out stopped tt
some_session (Some (watches agent)) limits out =
    (closed_by (refuses (journal_too_many limits.events)), (refused (journal_too_many limits.events), inl refl, refl), grows_none out.taken [])
some_session (Some (exports file)) limits out =
    (closed_by (refuses (journal_too_many limits.events)), (missing, refused (journal_too_many limits.events), inl refl, refl, tt), grows_none out.taken [])
some_session (Some (serves file)) limits out = stopped_plans file limits out.taken out.flushed fault_is.OutOfMemory

no_replies : (file : Text) (limits : LimitNumbers) (files : Option Files) (left left' out out' : Option (List ℕ)) (flushed : Option ℕ)
    → SendsReplies file limits files left left' out out' flushed stopped
no_replies file limits (Some m) (Some input) left' out out' flushed = tt
no_replies file limits (Some m) None left' out out' flushed = tt
no_replies file limits None left left' out out' flushed = tt

heard_none : (l : Option Line) (limits : LimitNumbers) (old new : Seen) → new.input.left ≡ old.input.left → Heard l limits old.shelf old.input new.input old.out old.out stopped
heard_none None limits old new left = tt
heard_none (Some (does command)) limits old new left = tt
heard_none (Some (watches agent)) limits old new left = tt
heard_none (Some (exports file)) limits old new left = tt
heard_none (Some (serves file)) limits old new left =
    let reads : ReadsOn file limits old.shelf.files old.input.left new.input.left old.out.taken old.out.taken =
    subst (λ x. ReadsOn file limits old.shelf.files old.input.left x old.out.taken old.out.taken) (sym left) (prompt_none file limits old.shelf.files old.input.left old.out.taken) in
    (no_replies file limits old.shelf.files old.input.left new.input.left old.out.taken old.out.taken old.out.flushed, reads, tt)

sent_none : (l : Option Line) (out : SinkSeen) → SendsNone l out out stopped
sent_none None out = (refl, tt)
sent_none (Some (does command)) out = (refl, tt)
sent_none (Some (watches agent)) out = tt
sent_none (Some (exports file)) out = (refl, tt)
sent_none (Some (serves file)) out = tt

no_reply : (l : Option Line) → IsReplyOf l stopped
no_reply None = refl
no_reply (Some l) = tt

none_missed : (needs : Bool) (n : ℕ) → MissesFor needs n n stopped
none_missed true n = omega arith
none_missed false n = omega arith

alone_none : (l : Option Line) (out : SinkSeen) → UnlessServes l (out.taken ≡ out.taken)
alone_none None out = refl
alone_none (Some (does command)) out = refl
alone_none (Some (serves file)) out = tt
alone_none (Some (watches agent)) out = refl
alone_none (Some (exports file)) out = refl

no_items : (xs : List ℕ) → length xs ≤ 0 → xs ≡ []
no_items [] h = refl
no_items (x ∷ xs) h = absurd (omega (arith, h))

no_more : (before more : List ℕ) → before ++ more ≡ before → more ≡ []
no_more before more same = no_items more (omega (arith, ap length same, length-append before more))

nothing_more : (told told' : Option (List ℕ)) (before more : List ℕ) → told' ≡ told → told ≡ Some before → told' ≡ Some (before ++ more) → more ≡ []
nothing_more told told' before more same is now = no_more before more (sym (some_is before (before ++ more) (sym is ∙ sym same ∙ now)))

-- a journal behind which nothing is kept
pub nothing_held : (limits : LimitNumbers) (journal : Journal) (lines : List (List Event)) (old new : Seen) (bytes : List ℕ) → new.out.taken ≡ old.out.taken → IsJournal limits bytes journal
    → HoldsPrinted limits journal lines old new bytes
nothing_held limits journal lines old new bytes out is = record {
  count = 0;
  holds = subst (λ (bs : List (List Event)). AreBatches limits.body bytes bs journal.bad) (sym (append-nil journal.batches)) is;
  whole_lines = 0;
  stand = omega arith;
  printed = λ before more was now. omega (arith, ap length (nothing_more old.out.taken new.out.taken before more out was now));
}

-- what is left of the journal where the disk is left alone, the input too and the output, and memory ran out
left_alone : (l : Option Line) (limits : LimitNumbers) (old new : Seen) (code : ℕ) → code ≡ 8 → new.disk ≡ old.disk → new.out ≡ old.out → new.input ≡ old.input → Journals l limits old new code
left_alone l limits old new code eight disk out input = record {
  alone = λ unused. disk;
  there = λ three. disk;
  tells = subst (TellsAlike old.disk.bytes) (sym (ap (λ d. d.bytes) disk)) (tells_itself old.disk.bytes);
  known = λ journal bytes meaning uses told means. record {
    whole = λ n6 n8. absurd (n8 eight);
    front = (told.0, ap (λ d. d.bytes) disk ∙ told.1, nothing_held limits journal (kept_of l limits journal bytes meaning) old new told.0 (ap (λ s. s.taken) out) told.2);
    source = λ rose. absurd (omega (arith, rose, ap (λ (s : SourceSeen). s.faults) input));
    disk = λ rose. absurd (omega (arith, rose, ap (λ d. d.faults) disk));
  };
  untouched = λ journal uses told. if_refused (open_journal limits journal) (LeavesInput old.input new.input) input;
  refused = λ uses four. input;
}

pub starved_run : (l : Option Line) (limits : LimitNumbers) (old new : Seen) (code : ℕ) → code ≡ 8 → Calm old new → new.shelf ≡ old.shelf → new.disk ≡ old.disk → new.out ≡ old.out
    → new.input ≡ old.input
    → TellsErr old new out_of_memory → (IsQuiet old.err.faults new.err.faults → IsFlushed new.err.taken new.err.flushed) → IsRunOf l limits old new code
starved_run l limits old new code eight calm shelf disk out input text whole =
    let left = ap (λ (s : SourceSeen). s.left) input in
    is_run l limits stopped (Err fault_is.OutOfMemory) old old new code (record {
      told = λ files journal bytes meaning at known means. grows_none old.out.taken (session_of l limits files journal bytes meaning).sent;
      some = some_session l limits old.out;
      heard = heard_none l limits old new left;
      sends = sent_none l old.out;
      source_alone = λ is. alone_none l old.out;
      disk_calm = calm.disk_same;
      unopened = λ is. disk;
      line = no_reply l;
      read = tt;
      unread = λ none. input;
      same = refl;
      cause = (refl, calm.source_same, refl);
      misses = none_missed (needs_file l) old.shelf.misses;
      front = (0, refl);
      loads = tt;
      failed_loads = refl;
      all = tt;
      makes = tt;
      asked = omega arith;
      no_store = refl;
      ends = inl (ap (λ (s : SourceSeen). s.ends) input);
      refused = λ needs. tt;
      kept = tt;
      few = takes_none _ old.input.left new.input.left left;
      untouched = file_refused (shape_of l) limits old.shelf.files _ input;
      which = refl;
      files = ap (λ s. s.files) shelf;
      out = ap (λ s. s.taken) out;
      flushed = ap (λ s. s.flushed) out;
      shelf_count = ap (λ s. s.faults) shelf;
      sink_count = ap (λ s. s.faults) out;
      no_miss = ap (λ s. s.misses) shelf;
      no_load = ap (λ s. s.loads) shelf;
      no_loss = ap (λ s. s.failed_loads) shelf;
      no_ask = ap (λ s. s.asked) shelf;
      end_stores = ap (λ s. s.stores) shelf;
      status = eight;
      text = text;
      silent = tt;
      whole = whole;
    }) (left_alone l limits old new code eight disk out input)

same_itself : (limits : LimitNumbers) (bytes : List ℕ) → HoldSame limits.body bytes bytes
same_itself limits bytes batches bad = (λ h. h, λ h. h)

-- and what a crash leaves then
pub starved_safe : {D : Type 0} (may_leave : D → List ℕ → Type 0) (moment : D → ℕ) (left_since : D → ℕ → List ℕ → Type 0) (l : Option Line) (limits : LimitNumbers) (old new : Seen) (disk : D) (code : ℕ)
    → code ≡ 8 → new.out.taken ≡ old.out.taken → ((bytes : List ℕ) → left_since disk (moment disk) bytes → may_leave disk bytes)
    → OutlastsCrashes may_leave moment left_since l limits old new disk disk code
starved_safe may_leave moment left_since l limits old new disk code eight out only = record {
  alone = λ unused. refl;
  known = λ journal input meaning uses told means. record {
    printed = λ bytes may. inr (out, (bytes, may, same_itself limits bytes));
    done = λ zero. absurd (omega (arith, zero, eight));
    inside = at_first moment left_since disk
        (λ bytes. HoldsSameAsOne limits (may_leave disk) bytes ⊎ HoldsSomeFront limits journal (kept_of l limits journal input meaning) bytes)
        (λ bytes left. inl (bytes, only bytes left, same_itself limits bytes));
  };
}
