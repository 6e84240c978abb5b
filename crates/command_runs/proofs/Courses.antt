-- The courses that a run may take, from what its plan, carrying it out and telling ensure.
use Rattle.std.proofs.Common.{◌≡◌, ◌+◌, ◌⊎◌, inl, inr, ℕ, true, false, [], refl, sym, ◌∙◌, ap, subst, arith, Option, Some, None, IfSome, IfOk, Result, Ok, Err}
use Rattle.std.specs.Bool.{⊤}
use Rattle.std.specs.Io.KnownBytes.{Appends}
use Rattle.ew_model.specs.Limits.{LimitNumbers}
use Rattle.ew_outside.specs.Bytes.{IsFlushed}
use Rattle.ew_outside.specs.Counts.{AsksAtMost, IsQuiet, Rose, RisesOnceAtMost}
use Rattle.ew_outside.specs.Outputs.{GrowsByFront}
use Rattle.ew_outside.specs.declared.fault.Fault.{Fault}
use Rattle.ew_outside.specs.declared.fault.Fault.TheVariants as fault_is
use Rattle.command_table.specs.Headline.{FaultLeaves}
use Rattle.command_table.specs.Lines.{UnlessServes, UnlessSends}
use Rattle.command_table.specs.Outcomes.{stored_by}
use Rattle.command_table.specs.Refusals as table
use Rattle.command_table.specs.Refusals.{refusal_status, refusal_text, not_taken}
use Rattle.command_table.specs.Seen.{Seen, Object, shelf, disk, source, sink, failed_text, TellsErr}
use Rattle.command_table.specs.Text.{out_of_memory}
use Rattle.command_table.specs.Table.{Line, does, serves, watches, exports, refuses}
use Rattle.command_table.specs.Reads.{shape_of, reads_input, needs_file, makes_file, most_asked, loads_of_all, TakesAtMost, LeavesInput, CountsLoads, LoadsFront, IfFileRefused}
use Rattle.command_texts.specs.Reasons.{refusal_view}
use Rattle.command_texts.specs.declared.refusal.Refusal.{Refusal}
use Rattle.opened_files.specs.Views.{IsRefusal, LoadsAll, FailedLoadsBy, ReadsNone, reply_view}
use Rattle.opened_files.specs.declared.reply.Reply as own
use Rattle.opened_files.specs.declared.reply.Reply.TheVariants as reply_is
use Rattle.serve_plans.specs.Plans.{Causes, KeepsStreams}
use Rattle.command_runs.specs.Lines.{Heard, IsReplyOf, MakesBy, MissesFor, PlansKnown, PlansSome, ReadsAll, SendsNone}
use Rattle.command_runs.specs.declared.ending.Told.{Told}
use Rattle.command_runs.specs.Endings.{EndFiles, EndFlushed, EndOut, EndShelfCount, EndSinkCount, EndStores, EndsReply, FilesAfter, IsToldWhole, SaysNone, end_status, end_text, fault_status, out_of}
use Rattle.command_runs.proofs.Faults.{Calm, Struck}
use Rattle.command_runs.proofs.Replies.{after_plan, told_end}

-- what the parts of a run ensure
pub record Facts (l : Option Line) (limits : LimitNumbers) (planned : Result own.Reply Fault) (ending : Result (Option Told) Fault) (old mid new : Seen) (code : ℕ) : Type 0 where
  pub told : PlansKnown l limits old.shelf old.disk.bytes old.input old.out mid.out planned
  pub some : PlansSome l limits old.out mid.out planned
  pub heard : Heard l limits old.shelf old.input new.input old.out mid.out planned
  pub sends : SendsNone l old.out mid.out planned
  pub source_alone : planned ≡ Err fault_is.Source → UnlessServes l (mid.out.taken ≡ old.out.taken)
  pub disk_calm : new.disk.faults ≡ old.disk.faults
  pub unopened : planned ≡ Err fault_is.Shelf → new.disk ≡ old.disk
  pub line : IsReplyOf l planned
  pub read : ReadsAll l limits old.input new.input planned
  pub unread : reads_input l ≡ false → LeavesInput old.input new.input
  pub same : mid.shelf.files ≡ old.shelf.files
  pub cause : Causes old.shelf.faults mid.shelf.faults old.input.faults new.input.faults old.out.faults mid.out.faults planned
  pub misses : MissesFor (needs_file l) old.shelf.misses mid.shelf.misses planned
  pub front : LoadsFront (shape_of l).files old.shelf.loads mid.shelf.loads
  pub loads : IfOk planned (λ p. CountsLoads (shape_of l).files limits old.shelf.files old.shelf.loads mid.shelf.loads)
  pub failed_loads : FailedLoadsBy old.shelf.failed_loads mid.shelf.failed_loads planned
  pub all : LoadsAll (shape_of l).files old.shelf.loads mid.shelf.loads planned
  pub makes : MakesBy (makes_file l) old.shelf.misses mid.shelf.misses planned
  pub asked : AsksAtMost (most_asked l limits) old.shelf.asked mid.shelf.asked
  pub no_store : mid.shelf.stores ≡ old.shelf.stores
  pub ends : RisesOnceAtMost old.input.ends new.input.ends
  pub refused : needs_file l ≡ true → ReadsNone old.input new.input planned
  pub kept : KeepsStreams old.input new.input old.out.taken mid.out.taken planned
  pub few : TakesAtMost (limits.input + 1) old.input.left new.input.left
  pub untouched : IfSome old.shelf.files (λ m. IfFileRefused (shape_of l) limits m (LeavesInput old.input new.input))
  pub which : EndsReply planned ending
  pub files : EndFiles planned ending mid.shelf.files new.shelf.files
  pub out : EndOut planned ending mid.out.taken new.out.taken new.out.flushed
  pub flushed : EndFlushed planned ending mid.out.flushed new.out.flushed
  pub shelf_count : EndShelfCount planned ending mid.shelf.faults new.shelf.faults
  pub sink_count : EndSinkCount planned ending mid.out.faults new.out.faults
  pub no_miss : new.shelf.misses ≡ mid.shelf.misses
  pub no_load : new.shelf.loads ≡ mid.shelf.loads
  pub no_loss : new.shelf.failed_loads ≡ mid.shelf.failed_loads
  pub no_ask : new.shelf.asked ≡ mid.shelf.asked
  pub end_stores : EndStores planned ending mid.shelf.stores new.shelf.stores
  pub status : code ≡ end_status ending
  pub text : TellsErr old new (end_text ending)
  pub silent : SaysNone ending old.err new.err
  pub whole : IsToldWhole ending old.err new.err

-- what holds where a line sends nothing, of a line that sends nothing
pub sends_none : {A B : Type 0} (l : Option Line) → (A → B) → UnlessSends l A → UnlessSends l B
sends_none None f h = f h
sends_none (Some (does command)) f h = f h
sends_none (Some (serves file)) f h = tt
sends_none (Some (watches agent)) f h = tt
sends_none (Some (exports file)) f h = f h

-- and where a line serves no peer
pub serves_none : {A B : Type 0} (l : Option Line) → (A → B) → UnlessServes l A → UnlessServes l B
serves_none None f h = f h
serves_none (Some (does command)) f h = f h
serves_none (Some (serves file)) f h = tt
serves_none (Some (watches agent)) f h = f h
serves_none (Some (exports file)) f h = f h

-- the statuses of a refused line, and of words that aren't taken
abbrev pub IsRefused : ℕ → Type 0
IsRefused n = (n ≡ 2) ⊎ IsRefusal n

same_refusal : (x y : table.Refusal) → refuses x ≡ refuses y → x ≡ y
same_refusal x y h = cc

refuses_by : (l : Option Line) (why : Refusal) → IsReplyOf l (Ok (reply_is.Refuses why)) → IsRefused (refusal_status (refusal_view why))
refuses_by None why h = inl (ap refusal_status (same_refusal (refusal_view why) not_taken h))
refuses_by (Some l) why h = inr h

-- the reply is no refusal
abbrev pub IsDoing : own.Reply → Type 0
IsDoing (reply_is.Refuses why) = ⊥
IsDoing p = ⊤

-- the reply is to store
abbrev pub IsStoring : own.Reply → Type 0
IsStoring (reply_is.Stores out to bytes) = ⊤
IsStoring p = ⊥

-- the reply was carried out
pub record Finished (p : own.Reply) (old mid new : Seen) (code : ℕ) : Type 0 where
  pub doing : IsDoing p
  pub zero : code ≡ 0
  pub files : FilesAfter p old.shelf.files new.shelf.files
  pub stores : new.shelf.stores ≡ stored_by (reply_view p) old.shelf.stores
  pub out : Appends mid.out.taken new.out.taken (out_of p)
  pub flushed : IsFlushed new.out.taken new.out.flushed
  pub calm : Calm old new
  pub text : TellsErr old new []
  pub quiet : (new.err.taken ≡ old.err.taken) × (new.err.faults ≡ old.err.faults)

-- the line was refused
pub record TurnedDown (why : table.Refusal) (old mid new : Seen) (code : ℕ) : Type 0 where
  pub refusal : IsRefused (refusal_status why)
  pub status_is : code ≡ refusal_status why
  pub files : new.shelf.files ≡ old.shelf.files
  pub stores : new.shelf.stores ≡ old.shelf.stores
  pub out : new.out.taken ≡ mid.out.taken
  pub flushed : new.out.flushed ≡ mid.out.flushed
  pub calm : Calm old new
  pub text : TellsErr old new (refusal_text why)

-- an object failed before anything was stored or printed at last
pub record BrokenOff (l : Option Line) (object : Object) (old mid new : Seen) (code : ℕ) : Type 0 where
  pub six : code ≡ 6
  pub files : new.shelf.files ≡ old.shelf.files
  pub stores : new.shelf.stores ≡ old.shelf.stores
  pub out : new.out.taken ≡ mid.out.taken
  pub flushed : new.out.flushed ≡ mid.out.flushed
  pub struck : Struck object old new
  pub text : TellsErr old new (failed_text object)
  pub leaves : FaultLeaves l object old new
  pub load : object ≡ shelf → Rose old.shelf.failed_loads new.shelf.failed_loads

-- the store failed
pub record Unstored (p : own.Reply) (old mid new : Seen) (code : ℕ) : Type 0 where
  pub storing : IsStoring p
  pub six : code ≡ 6
  pub files : (new.shelf.files ≡ old.shelf.files) ⊎ FilesAfter p old.shelf.files new.shelf.files
  pub stores : new.shelf.stores ≡ stored_by (reply_view p) old.shelf.stores
  pub out : new.out.taken ≡ mid.out.taken
  pub flushed : new.out.flushed ≡ mid.out.flushed
  pub struck : Struck shelf old new
  pub text : TellsErr old new (failed_text shelf)
  pub failed_loads : new.shelf.failed_loads ≡ old.shelf.failed_loads

-- the output failed at last
pub record Unprinted (p : own.Reply) (old mid new : Seen) (code : ℕ) : Type 0 where
  pub doing : IsDoing p
  pub six : code ≡ 6
  pub files : FilesAfter p old.shelf.files new.shelf.files
  pub stores : new.shelf.stores ≡ stored_by (reply_view p) old.shelf.stores
  pub out : GrowsByFront mid.out.taken new.out.taken (out_of p)
  pub flushed : new.out.flushed ≡ mid.out.flushed
  pub struck : Struck sink old new
  pub text : TellsErr old new (failed_text sink)
  pub failed_loads : new.shelf.failed_loads ≡ old.shelf.failed_loads

-- memory ran out
pub record RanShort (old mid new : Seen) (code : ℕ) : Type 0 where
  pub eight : code ≡ 8
  pub files : new.shelf.files ≡ old.shelf.files
  pub stores : new.shelf.stores ≡ old.shelf.stores
  pub out : new.out.taken ≡ mid.out.taken
  pub calm : Calm old new
  pub text : TellsErr old new out_of_memory

pub data Course (l : Option Line) (planned : Result own.Reply Fault) (old mid new : Seen) (code : ℕ) : Type 0 where
  Done : (p : own.Reply) → planned ≡ Ok p → Finished p old mid new code → Course l planned old mid new code
  Refused : (why : Refusal) → planned ≡ Ok (reply_is.Refuses why) → TurnedDown (refusal_view why) old mid new code → Course l planned old mid new code
  Stopped : (object : Object) (x : Fault) → (x ≡ fault_is.OutOfMemory → ⊥) → (object ≡ sink → x ≡ fault_is.Sink) → planned ≡ Err x → BrokenOff l object old mid new code
      → Course l planned old mid new code
  Landed : (p : own.Reply) → planned ≡ Ok p → Unstored p old mid new code → Course l planned old mid new code
  Broken : (p : own.Reply) → planned ≡ Ok p → Unprinted p old mid new code → Course l planned old mid new code
  Starved : RanShort old mid new code → Course l planned old mid new code

module _ (l : Option Line) (limits : LimitNumbers) (ending : Result (Option Told) Fault) (old mid new : Seen) (code : ℕ) where
  shelf_stops : Facts l limits (Err fault_is.Shelf) ending old mid new code → BrokenOff l shelf old mid new code
  shelf_stops h =
      let failed_loads : Rose old.shelf.failed_loads new.shelf.failed_loads = subst (Rose old.shelf.failed_loads) (sym h.no_loss) h.failed_loads.1 in
      record {
        six = h.status ∙ ap end_status h.which;
        files = h.files ∙ h.same;
        stores = h.end_stores ∙ h.no_store;
        out = h.out;
        flushed = h.flushed;
        struck = record {
          rose = subst (Rose old.shelf.faults) (sym h.shelf_count) h.cause.0.1;
          later = elim [ shelf ↦ omega (arith, h.cause.0.0, h.shelf_count) | disk ↦ omega (arith, h.disk_calm) | source ↦ omega (arith, h.cause.1) | sink ↦ omega (arith, h.cause.2, h.sink_count) ];
          others = elim [ shelf ↦ λ bad. absurd (bad refl) | disk ↦ λ _. h.disk_calm | source ↦ λ _. h.cause.1 | sink ↦ λ _. h.sink_count ∙ h.cause.2 ];
        };
        text = told_end ending (Err fault_is.Shelf) old new h.which h.text;
        leaves = inl (failed_loads, h.files ∙ h.same, h.end_stores ∙ h.no_store, h.out ∙ h.kept.1, h.kept.0, h.unopened refl);
        load = λ _. failed_loads;
      }

  source_stops : Facts l limits (Err fault_is.Source) ending old mid new code → BrokenOff l source old mid new code
  source_stops h = record {
    six = h.status ∙ ap end_status h.which;
    files = h.files ∙ h.same;
    stores = h.end_stores ∙ h.no_store;
    out = h.out;
    flushed = h.flushed;
    struck = record {
      rose = h.cause.1.1;
      later = elim [ shelf ↦ omega (arith, h.cause.0, h.shelf_count) | disk ↦ omega (arith, h.disk_calm) | source ↦ h.cause.1.0 | sink ↦ omega (arith, h.cause.2, h.sink_count) ];
      others = elim [ shelf ↦ λ _. h.shelf_count ∙ h.cause.0 | disk ↦ λ _. h.disk_calm | source ↦ λ bad. absurd (bad refl) | sink ↦ λ _. h.sink_count ∙ h.cause.2 ];
    };
    text = told_end ending (Err fault_is.Source) old new h.which h.text;
    leaves = (h.no_loss ∙ h.failed_loads, (h.files ∙ h.same, h.end_stores ∙ h.no_store, sends_none l (λ same. h.out ∙ same.0) h.sends), serves_none l (λ same. h.out ∙ same) (h.source_alone refl));
    load = λ bad. cc;
  }

  sink_stops : Facts l limits (Err fault_is.Sink) ending old mid new code → BrokenOff l sink old mid new code
  sink_stops h = record {
    six = h.status ∙ ap end_status h.which;
    files = h.files ∙ h.same;
    stores = h.end_stores ∙ h.no_store;
    out = h.out;
    flushed = h.flushed;
    struck = record {
      rose = subst (Rose old.out.faults) (sym h.sink_count) h.cause.2.1;
      later = elim [ shelf ↦ omega (arith, h.cause.0, h.shelf_count) | disk ↦ omega (arith, h.disk_calm) | source ↦ omega (arith, h.cause.1) | sink ↦ omega (arith, h.cause.2.0, h.sink_count) ];
      others = elim [ shelf ↦ λ _. h.shelf_count ∙ h.cause.0 | disk ↦ λ _. h.disk_calm | source ↦ λ _. h.cause.1 | sink ↦ λ bad. absurd (bad refl) ];
    };
    text = told_end ending (Err fault_is.Sink) old new h.which h.text;
    leaves = h.no_loss ∙ h.failed_loads;
    load = λ bad. cc;
  }

  memory_stops : Facts l limits (Err fault_is.OutOfMemory) ending old mid new code → RanShort old mid new code
  memory_stops h = record {
    eight = h.status ∙ ap end_status h.which;
    files = h.files ∙ h.same;
    stores = h.end_stores ∙ h.no_store;
    out = h.out;
    calm = record { shelf_same = h.shelf_count ∙ h.cause.0; disk_same = h.disk_calm; source_same = h.cause.1; sink_same = h.sink_count ∙ h.cause.2 };
    text = told_end ending (Err fault_is.OutOfMemory) old new h.which h.text;
  }

-- a line that was refused, and told so
module _ (l : Option Line) (limits : LimitNumbers) (why : Refusal) (told : Told) (old mid new : Seen) (code : ℕ) where
  refused_so : Facts l limits (Ok (reply_is.Refuses why)) (Ok (Some told)) old mid new code → TurnedDown (refusal_view why) old mid new code
  refused_so h = record {
    refusal = refuses_by l why h.line;
    status_is = h.status ∙ h.which.0;
    files = h.files ∙ h.same;
    stores = h.end_stores ∙ h.no_store;
    out = h.out;
    flushed = h.flushed;
    calm = record { shelf_same = h.shelf_count ∙ h.cause.0; disk_same = h.disk_calm; source_same = h.cause.1; sink_same = h.sink_count ∙ h.cause.2 };
    text = subst (TellsErr old new) h.which.1 h.text;
  }

-- a reply that is no refusal, by its ending
module _ (l : Option Line) (limits : LimitNumbers) (old mid new : Seen) (code : ℕ) (p : own.Reply) where
  done : IsDoing p → Facts l limits (Ok p) (Ok None) old mid new code → Finished p old mid new code
  done doing h = record {
    doing = doing;
    zero = h.status;
    files = after_plan p _ _ _ h.same h.files;
    stores = h.end_stores ∙ ap (stored_by (reply_view p)) h.no_store;
    out = h.out.0;
    flushed = h.out.1;
    calm = record { shelf_same = h.shelf_count ∙ h.cause.0; disk_same = h.disk_calm; source_same = h.cause.1; sink_same = h.sink_count ∙ h.cause.2 };
    text = h.text;
    quiet = h.silent;
  }

  broken : IsDoing p → Facts l limits (Ok p) (Err fault_is.Sink) old mid new code → Unprinted p old mid new code
  broken doing h = record {
    doing = doing;
    six = h.status;
    files = after_plan p _ _ _ h.same h.files;
    stores = h.end_stores ∙ ap (stored_by (reply_view p)) h.no_store;
    out = h.out;
    flushed = h.flushed;
    struck = record {
      rose = subst (λ m. Rose m new.out.faults) h.cause.2 h.sink_count.1;
      later = elim [ shelf ↦ omega (arith, h.shelf_count, h.cause.0) | disk ↦ omega (arith, h.disk_calm) | source ↦ omega (arith, h.cause.1) | sink ↦ omega (arith, h.sink_count.0, h.cause.2) ];
      others = elim [ shelf ↦ λ _. h.shelf_count ∙ h.cause.0 | disk ↦ λ _. h.disk_calm | source ↦ λ _. h.cause.1 | sink ↦ λ bad. absurd (bad refl) ];
    };
    text = h.text;
    failed_loads = h.no_loss ∙ h.failed_loads;
  }

  landed : IsStoring p → Facts l limits (Ok p) (Err fault_is.Shelf) old mid new code → Unstored p old mid new code
  landed storing h = record {
    storing = storing;
    six = h.status;
    stores = h.end_stores ∙ ap (stored_by (reply_view p)) h.no_store;
    files = elim h.files [ inl stays ↦ inl (stays ∙ h.same) | inr after ↦ inr (after_plan p _ _ _ h.same after) ];
    out = h.out;
    flushed = h.flushed;
    struck = record {
      rose = subst (λ m. Rose m new.shelf.faults) h.cause.0 h.shelf_count.1;
      later = elim [ shelf ↦ omega (arith, h.shelf_count.0, h.cause.0) | disk ↦ omega (arith, h.disk_calm) | source ↦ omega (arith, h.cause.1) | sink ↦ omega (arith, h.sink_count, h.cause.2) ];
      others = elim [ shelf ↦ λ bad. absurd (bad refl) | disk ↦ λ _. h.disk_calm | source ↦ λ _. h.cause.1 | sink ↦ λ _. h.sink_count ∙ h.cause.2 ];
    };
    text = h.text;
    failed_loads = h.no_loss ∙ h.failed_loads;
  }

  starved : Facts l limits (Ok p) (Err fault_is.OutOfMemory) old mid new code → RanShort old mid new code
  starved h = record {
    eight = h.status;
    files = h.files ∙ h.same;
    stores = h.end_stores ∙ h.no_store;
    out = h.out;
    calm = record { shelf_same = h.shelf_count ∙ h.cause.0; disk_same = h.disk_calm; source_same = h.cause.1; sink_same = h.sink_count ∙ h.cause.2 };
    text = h.text;
  }

-- what the parts make of a run
pub course : (l : Option Line) (limits : LimitNumbers) (planned : Result own.Reply Fault) (ending : Result (Option Told) Fault) (old mid new : Seen) (code : ℕ)
    → Facts l limits planned ending old mid new code
    → Course l planned old mid new code
course l limits (Err fault_is.Shelf) ending old mid new code h = Stopped shelf _ (λ bad. cc) (λ bad. cc) refl (shelf_stops l limits ending old mid new code h)
course l limits (Err fault_is.Source) ending old mid new code h = Stopped source _ (λ bad. cc) (λ bad. cc) refl (source_stops l limits ending old mid new code h)
course l limits (Err fault_is.OutOfMemory) ending old mid new code h = Starved (memory_stops l limits ending old mid new code h)
course l limits (Err fault_is.Sink) ending old mid new code h = Stopped sink _ (λ bad. cc) (λ is. refl) refl (sink_stops l limits ending old mid new code h)
course l limits (Ok (reply_is.Refuses why)) (Ok (Some told)) old mid new code h = Refused why refl (refused_so l limits why told old mid new code h)
course l limits (Ok (reply_is.Refuses why)) (Ok None) old mid new code h = absurd h.which
course l limits (Ok (reply_is.Refuses why)) (Err fault_is.Shelf) old mid new code h = absurd (let bad = h.which in cc)
course l limits (Ok (reply_is.Refuses why)) (Err fault_is.Source) old mid new code h = absurd (let bad = h.which in cc)
course l limits (Ok (reply_is.Refuses why)) (Err fault_is.Sink) old mid new code h = absurd (let bad = h.which in cc)
course l limits (Ok (reply_is.Refuses why)) (Err fault_is.OutOfMemory) old mid new code h = Starved (starved l limits old mid new code (reply_is.Refuses why) h)
course l limits (Ok (reply_is.Prints out)) (Ok None) old mid new code h = Done (reply_is.Prints out) refl (done l limits old mid new code (reply_is.Prints out) tt h)
course l limits (Ok (reply_is.Prints out)) (Ok (Some told)) old mid new code h = absurd h.which
course l limits (Ok (reply_is.Prints out)) (Err fault_is.Shelf) old mid new code h = absurd h.which
course l limits (Ok (reply_is.Prints out)) (Err fault_is.Source) old mid new code h = absurd h.which
course l limits (Ok (reply_is.Prints out)) (Err fault_is.Sink) old mid new code h =
    Broken (reply_is.Prints out) refl (broken l limits old mid new code (reply_is.Prints out) tt h)
course l limits (Ok (reply_is.Prints out)) (Err fault_is.OutOfMemory) old mid new code h = absurd h.which
course l limits (Ok (reply_is.Stores out to bytes)) (Ok None) old mid new code h =
    Done (reply_is.Stores out to bytes) refl (done l limits old mid new code (reply_is.Stores out to bytes) tt h)
course l limits (Ok (reply_is.Stores out to bytes)) (Ok (Some told)) old mid new code h = absurd h.which
course l limits (Ok (reply_is.Stores out to bytes)) (Err fault_is.Shelf) old mid new code h =
    Landed (reply_is.Stores out to bytes) refl (landed l limits old mid new code (reply_is.Stores out to bytes) tt h)
course l limits (Ok (reply_is.Stores out to bytes)) (Err fault_is.Source) old mid new code h = absurd h.which
course l limits (Ok (reply_is.Stores out to bytes)) (Err fault_is.Sink) old mid new code h =
    Broken (reply_is.Stores out to bytes) refl (broken l limits old mid new code (reply_is.Stores out to bytes) tt h)
course l limits (Ok (reply_is.Stores out to bytes)) (Err fault_is.OutOfMemory) old mid new code h =
    Starved (starved l limits old mid new code (reply_is.Stores out to bytes) h)

-- ---- what doesn't hang on the course

module _ (l : Option Line) (limits : LimitNumbers) (old mid new : Seen) (code : ℕ) where
  -- at status 0, and where something failed that is no load, all loads were made
  pub loaded_all : (planned : Result own.Reply Fault) (ending : Result (Option Told) Fault) → Facts l limits planned ending old mid new code
      → (code ≡ 0) ⊎ ((code ≡ 6) × IsQuiet old.shelf.failed_loads new.shelf.failed_loads) → new.shelf.loads ≡ loads_of_all (shape_of l).files old.shelf.loads
  loaded_all (Ok (reply_is.Prints out)) ending h well = h.no_load ∙ h.all
  loaded_all (Ok (reply_is.Stores out to bytes)) ending h well = h.no_load ∙ h.all
  loaded_all (Ok (reply_is.Refuses why)) (Ok (Some told)) h well =
      let status = refuses_by l why h.line in
      absurd (omega (arith, status, h.status, h.which.0, well))
  loaded_all (Ok (reply_is.Refuses why)) (Ok None) h well = absurd h.which
  loaded_all (Ok (reply_is.Refuses why)) (Err e) h well =
      let eight : code ≡ 8 = h.status ∙ ap fault_status h.which in
      absurd (omega (arith, eight, well))
  loaded_all (Err fault_is.Source) ending h well = h.no_load ∙ h.all
  loaded_all (Err fault_is.Sink) ending h well = h.no_load ∙ h.all
  loaded_all (Err fault_is.Shelf) ending h well =
      let six : code ≡ 6 = h.status ∙ ap end_status h.which in
      absurd (elim well [ inl zero ↦ omega (arith, zero, six) | inr quiet ↦ omega (arith, quiet.1.0, quiet.1.1, h.no_loss, h.failed_loads.0, h.failed_loads.1) ])
  loaded_all (Err fault_is.OutOfMemory) ending h well =
      let eight : code ≡ 8 = h.status ∙ ap end_status h.which in
      absurd (omega (arith, eight, well))

  -- and what is said is flushed, where the error output didn't fail
  pub told_whole : (planned : Result own.Reply Fault) (ending : Result (Option Told) Fault) → Facts l limits planned ending old mid new code
      → (code ≡ 0 → ⊥) → IsQuiet old.err.faults new.err.faults → IsFlushed new.err.taken new.err.flushed
  told_whole planned (Ok None) h other quiet = absurd (other h.status)
  told_whole planned (Ok (Some told)) h other quiet = h.whole quiet
  told_whole planned (Err e) h other quiet = h.whole quiet
