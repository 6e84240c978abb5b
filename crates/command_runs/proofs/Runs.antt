-- From what the parts of a run ensure to what the run is.
use Rattle.std.proofs.Common.{◌≡◌, ◌≤◌, ◌<◌, ◌⊎◌, inl, inr, ℕ, true, false, List, [], ◌++◌, length, take, drop, refl, sym, ◌∙◌, ap, subst, arith, Bool}
use Rattle.std.proofs.lemmas.Bool.{false≢true}
use Rattle.std.proofs.Common.{append_assoc, Option, None, Some, IfOk, IfSome, Result, Ok, Err}
use Rattle.std.specs.Io.KnownBytes.{Appends}
use Rattle.std.proofs.KnownBytes.{Appends-nil, Appends-trans}
use Rattle.ew_model.specs.declared.event.Event.{Event}
use Rattle.ew_model.specs.Limits.{LimitNumbers}
use Rattle.ew_outside.specs.Bytes.{IsFlushed}
use Rattle.ew_outside.specs.Counts.{AsksAtMost, Rose, next}
use Rattle.ew_outside.specs.Files.{Files}
use Rattle.ew_outside.specs.declared.fault.Fault.{Fault}
use Rattle.ew_outside.specs.declared.fault.Fault.TheVariants as fault_is
use Rattle.command_table.specs.Headline.{Hears, IfServes, IsRun, IsRunOf, IsStatus, StoresNothing, NamesFault, ReadsToEnd}
use Rattle.command_table.specs.Kept.{Journals}
use Rattle.command_table.specs.Lines.{session_of, UnlessSends}
use Rattle.command_table.specs.Outcomes.{IsClosed, stored_by}
use Rattle.command_table.specs.Possible.{MayComeTo}
use Rattle.command_table.specs.Reads.{needs_file, makes_file, may_store, most_asked, shape_of, IfFileRefused, LeavesInput, CountsLoads}
use Rattle.command_table.specs.Refusals as table
use Rattle.command_table.specs.Refusals.{not_taken, refusal_status}
use Rattle.command_table.specs.Seen.{Seen, Object, shelf, sink, faults_of, TellsErr}
use Rattle.command_table.specs.Sessions.{Session, IsPrompt, RepliesTo, exchanged, opened_state}
use Rattle.command_table.specs.Table.{Text, Line, does, serves, watches, exports, opened, open_file, refuses}
use Rattle.command_table.specs.Cli.{usage as usage_text}
use Rattle.command_table.specs.Text.{out_of_memory}
use Rattle.command_texts.specs.Reasons.{refusal_view}
use Rattle.opened_files.specs.Views.{MissesBy, ReadsNone, reply_status, reply_view}
use Rattle.opened_files.specs.declared.reply.Reply as own
use Rattle.opened_files.specs.declared.reply.Reply.TheVariants as reply_is
use Rattle.serve_plans.specs.Plans.{Causes, ReadsOn, ReadsWithin, SendsReplies}
use Rattle.command_runs.specs.declared.ending.Told.{Told}
use Rattle.command_runs.specs.Endings.{EndFlushed, EndOut, out_of}
use Rattle.command_runs.specs.Lines.{IsReplyOf, MakesBy, MissesFor, ReadsAll, SendsNone}
use Rattle.command_runs.proofs.Faults.{calm_object}
use Rattle.command_runs.proofs.Courses.{Course, Done, Refused, Stopped, Landed, Broken, Starved, Facts, IsDoing, IsStoring, course, loaded_all, sends_none, told_whole}
use Rattle.command_runs.proofs.Outputting.{is_session, stores_none_so}
use Rattle.command_runs.proofs.Stores.{reads_alone}
use Rattle.command_runs.proofs.Tables.{is_served, stores_first}
use Rattle.journal_plans.proofs.Keeping.{same_taken}

doing_status : (p : own.Reply) → IsDoing p → reply_status p ≡ 0
doing_status (reply_is.Prints out) doing = refl
doing_status (reply_is.Stores out to bytes) doing = refl
doing_status (reply_is.Refuses why) doing = absurd doing

not_doing : (p : own.Reply) → IsDoing p → reply_view p ≡ refuses not_taken → ⊥
not_doing (reply_is.Prints out) doing h = cc
not_doing (reply_is.Stores out to bytes) doing h = cc
not_doing (reply_is.Refuses why) doing h = doing

storing_does : (p : own.Reply) → IsStoring p → IsDoing p
storing_does (reply_is.Prints out) storing = absurd storing
storing_does (reply_is.Stores out to bytes) storing = tt
storing_does (reply_is.Refuses why) storing = absurd storing

-- what a reply that is to store stores
stores_one : (p : own.Reply) (n : ℕ) → IsStoring p → stored_by (reply_view p) n ≡ next n
stores_one (reply_is.Prints out) n storing = absurd storing
stores_one (reply_is.Stores out to bytes) n storing = refl
stores_one (reply_is.Refuses why) n storing = absurd storing

untaken_status : (x : table.Refusal) → refuses x ≡ refuses not_taken → refusal_status x ≡ 2
untaken_status x h = ap refusal_status (same x h)
  where
    same : (x : table.Refusal) → refuses x ≡ refuses not_taken → x ≡ not_taken
    same x h = cc

-- ---- what each course means

module _ (l : Option Line) (planned : Result own.Reply Fault) (old mid new : Seen) (code : ℕ) (sends : SendsNone l old.out mid.out planned) where
  -- where nothing was printed at last, a line that sends nothing leaves the output as it was
  kept_out : new.out.taken ≡ mid.out.taken → UnlessSends l (new.out.taken ≡ old.out.taken)
  kept_out same = sends_none l (λ s. same ∙ s.0) sends

  pub among_so : Course l planned old mid new code → IsStatus code
  among_so (Done p is h) = inl h.zero
  among_so (Refused why is h) =
      let low : 2 ≤ code = omega (arith, h.refusal, h.status_is) in
      let high : code ≤ 8 = omega (arith, h.refusal, h.status_is) in
      inr (low, high)
  among_so (Stopped object x other named is h) = inr (omega (arith, h.six), omega (arith, h.six))
  among_so (Landed p is h) = inr (omega (arith, h.six), omega (arith, h.six))
  among_so (Broken p is h) = inr (omega (arith, h.six), omega (arith, h.six))
  among_so (Starved h) = inr (omega (arith, h.eight), omega (arith, h.eight))

  silent_so : Course l planned old mid new code → code ≡ 0 → (new.err.taken ≡ old.err.taken) × (new.err.faults ≡ old.err.faults)
  silent_so (Done p is h) zero = h.quiet
  silent_so (Refused why is h) zero = absurd (omega (arith, h.refusal, h.status_is, zero))
  silent_so (Stopped object x other named is h) zero = absurd (omega (arith, h.six, zero))
  silent_so (Landed p is h) zero = absurd (omega (arith, h.six, zero))
  silent_so (Broken p is h) zero = absurd (omega (arith, h.six, zero))
  silent_so (Starved h) zero = absurd (omega (arith, h.eight, zero))

  fault_so : Course l planned old mid new code → code ≡ 6 → NamesFault l old new
  fault_so (Done p is h) six = absurd (omega (arith, h.zero, six))
  fault_so (Refused why is h) six = absurd (omega (arith, h.refusal, h.status_is, six))
  fault_so (Stopped object x other named is h) six = record { object = object; rose = h.struck.rose; others = h.struck.others; leaves = h.leaves; text = h.text }
  fault_so (Landed p is h) six = record { object = shelf; rose = h.struck.rose; others = h.struck.others; leaves = inr (h.failed_loads, h.stores ∙ stores_one p old.shelf.stores h.storing, kept_out h.out); text = h.text }
  fault_so (Broken p is h) six = record { object = sink; rose = h.struck.rose; others = h.struck.others; leaves = h.failed_loads; text = h.text }
  fault_so (Starved h) six = absurd (omega (arith, h.eight, six))

  pub always_so : Course l planned old mid new code → (object : Object) → faults_of object old < faults_of object new → code ≡ 6
  always_so (Done p is h) object rose = absurd (omega (arith, rose, calm_object old new h.calm object))
  always_so (Refused why is h) object rose = absurd (omega (arith, rose, calm_object old new h.calm object))
  always_so (Stopped _ x other named is h) object rose = h.six
  always_so (Landed p is h) object rose = h.six
  always_so (Broken p is h) object rose = h.six
  always_so (Starved h) object rose = absurd (omega (arith, rose, calm_object old new h.calm object))

  pub later_so : Course l planned old mid new code → (object : Object) → faults_of object old ≤ faults_of object new
  later_so (Done p is h) object = omega (arith, calm_object old new h.calm object)
  later_so (Refused why is h) object = omega (arith, calm_object old new h.calm object)
  later_so (Stopped _ x other named is h) object = h.struck.later object
  later_so (Landed p is h) object = h.struck.later object
  later_so (Broken p is h) object = h.struck.later object
  later_so (Starved h) object = omega (arith, calm_object old new h.calm object)

  memory_so : Course l planned old mid new code → code ≡ 8 → StoresNothing l old new × TellsErr old new out_of_memory
  memory_so (Done p is h) eight = absurd (omega (arith, h.zero, eight))
  memory_so (Refused why is h) eight = absurd (omega (arith, h.refusal, h.status_is, eight))
  memory_so (Stopped object x other named is h) eight = absurd (omega (arith, h.six, eight))
  memory_so (Landed p is h) eight = absurd (omega (arith, h.six, eight))
  memory_so (Broken p is h) eight = absurd (omega (arith, h.six, eight))
  memory_so (Starved h) eight = ((h.files, h.stores, kept_out h.out), h.text)

  nothing_so : Course l planned old mid new code → (code ≡ 0 → ⊥) → (code ≡ 6 → ⊥) → StoresNothing l old new
  nothing_so (Done p is h) n0 n6 = absurd (n0 h.zero)
  nothing_so (Refused why is h) n0 n6 = (h.files, h.stores, kept_out h.out)
  nothing_so (Stopped object x other named is h) n0 n6 = absurd (n6 h.six)
  nothing_so (Landed p is h) n0 n6 = absurd (n6 h.six)
  nothing_so (Broken p is h) n0 n6 = absurd (n6 h.six)
  nothing_so (Starved h) n0 n6 = (h.files, h.stores, kept_out h.out)

  flushed_at : Course l planned old mid new code → code ≡ 0 → IsFlushed new.out.taken new.out.flushed
  flushed_at (Done p is h) zero = h.flushed
  flushed_at (Refused why is h) zero = absurd (omega (arith, h.refusal, h.status_is, zero))
  flushed_at (Stopped object x other named is h) zero = absurd (omega (arith, h.six, zero))
  flushed_at (Landed p is h) zero = absurd (omega (arith, h.six, zero))
  flushed_at (Broken p is h) zero = absurd (omega (arith, h.six, zero))
  flushed_at (Starved h) zero = absurd (omega (arith, h.eight, zero))

  -- a status other than 6 and 8 is that of a plan
  plan_of : Course l planned old mid new code → (code ≡ 6 → ⊥) → (code ≡ 8 → ⊥) → (p : own.Reply) × (planned ≡ Ok p) × (reply_status p ≡ code)
  plan_of (Done p is h) n6 n8 = (p, is, doing_status p h.doing ∙ sym h.zero)
  plan_of (Refused why is h) n6 n8 = (reply_is.Refuses why, is, sym h.status_is)
  plan_of (Stopped object x other named is h) n6 n8 = absurd (n6 h.six)
  plan_of (Landed p is h) n6 n8 = absurd (n6 h.six)
  plan_of (Broken p is h) n6 n8 = absurd (n6 h.six)
  plan_of (Starved h) n6 n8 = absurd (n8 h.eight)

  -- what was taken at last
  last_taken : Course l planned old mid new code → (bytes : List ℕ) × Appends mid.out.taken new.out.taken bytes
  last_taken (Done p is h) = (out_of p, h.out)
  last_taken (Refused why is h) = ([], same_taken mid.out.taken new.out.taken h.out)
  last_taken (Stopped object x other named is h) = ([], same_taken mid.out.taken new.out.taken h.out)
  last_taken (Landed p is h) = ([], same_taken mid.out.taken new.out.taken h.out)
  last_taken (Broken p is h) = (take h.out.0 (out_of p), h.out.1)
  last_taken (Starved h) = ([], same_taken mid.out.taken new.out.taken h.out)

  -- where no line is taken, the usage is told, or memory ran out
  only_so : Course None planned old mid new code → IsReplyOf None planned → (code ≡ 2) ⊎ (code ≡ 8)
  only_so (Done p is h) line = absurd (not_doing p h.doing (subst (IsReplyOf None) is line))
  only_so (Refused why is h) line =
      let told : refuses (refusal_view why) ≡ refuses not_taken = subst (IsReplyOf None) is line in
      inl (h.status_is ∙ untaken_status (refusal_view why) told)
  only_so (Stopped object x other named is h) line = absurd (other (subst (IsReplyOf None) is line))
  only_so (Landed p is h) line = absurd (not_doing p (storing_does p h.storing) (subst (IsReplyOf None) is line))
  only_so (Broken p is h) line = absurd (not_doing p h.doing (subst (IsReplyOf None) is line))
  only_so (Starved h) line = inr h.eight

-- status 2 is told of words that aren't taken, and of no others
usage_told : (l : Option Line) (p : own.Reply) (s : Session) (old new : Seen) (code : ℕ) (limits : LimitNumbers) → IsReplyOf l (Ok p) → MayComeTo l limits s
    → IsClosed s.sent s.closing old new code → reply_status p ≡ code → code ≡ 2 → (l ≡ None) × TellsErr old new usage_text
usage_told None p s old new code limits line may closed is two = (refl, (subst (λ (x : Session). IsClosed x.sent x.closing old new code) may closed).2)
usage_told (Some l) (reply_is.Prints out) s old new code limits line may closed is two = absurd (omega (arith, is, two))
usage_told (Some l) (reply_is.Stores out to bytes) s old new code limits line may closed is two = absurd (omega (arith, is, two))
usage_told (Some l) (reply_is.Refuses why) s old new code limits line may closed is two = absurd (omega (arith, line, is, two))

-- ---- behind the frames that were answered

-- more was taken behind them
goes_on_more : (limits : LimitNumbers) (events : List Event) (input bytes : List ℕ) (left out out' out'' : Option (List ℕ))
    → IsPrompt limits events input left out out' → Appends out' out'' bytes
    → IsPrompt limits events input left out out''
goes_on_more limits events input bytes left out out' out'' h all = record {
  taken = h.taken;
  answered = h.answered;
  leaves = h.leaves;
  piece = h.piece;
  goes_on = λ frames stop cut.
      let g = h.goes_on frames stop cut in
      let t = exchanged (opened_state limits events) frames in
      (g.0, g.1, (g.2.0 ++ bytes, subst (Appends out out'') (append_assoc t.sent g.2.0 bytes) (Appends-trans out out' out'' (t.sent ++ g.2.0) bytes g.2.1 all)));
}

pub prompt_so : (name : Text) (limits : LimitNumbers) (old mid new : Seen) (files : Files) (events : List Event) (input bytes : List ℕ)
    → ReadsOn name limits old.shelf.files old.input.left new.input.left old.out.taken mid.out.taken
    → Appends mid.out.taken new.out.taken bytes → old.shelf.files ≡ Some files → open_file name limits files ≡ opened events → old.input.left ≡ Some input
    → IsPrompt limits events input new.input.left old.out.taken new.out.taken
prompt_so name limits old mid new files events input bytes h all at opens left =
    let first : ReadsOn name limits (Some files) old.input.left new.input.left old.out.taken mid.out.taken = subst (λ x. ReadsOn name limits x old.input.left new.input.left old.out.taken mid.out.taken) at h in
    let second : ReadsOn name limits (Some files) (Some input) new.input.left old.out.taken mid.out.taken =
    subst (λ x. ReadsOn name limits (Some files) x new.input.left old.out.taken mid.out.taken) left first in
    goes_on_more limits events input bytes new.input.left old.out.taken mid.out.taken new.out.taken (second events opens) all

-- where the source failed, nothing was sent behind the replies
replies_so : (name : Text) (limits : LimitNumbers) (planned : Result own.Reply Fault) (ending : Result (Option Told) Fault) (old mid new : Seen) (code : ℕ) (files : Files)
    (events : List Event) (input : List ℕ) (n : ℕ)
    → SendsReplies name limits old.shelf.files old.input.left new.input.left old.out.taken mid.out.taken mid.out.flushed planned
    → Causes old.shelf.faults mid.shelf.faults old.input.faults new.input.faults old.out.faults mid.out.faults planned
    → EndOut planned ending mid.out.taken new.out.taken new.out.flushed → EndFlushed planned ending mid.out.flushed new.out.flushed
    → old.shelf.files ≡ Some files → open_file name limits files ≡ opened events → old.input.left ≡ Some input
    → new.input.left ≡ Some (drop n input) → n ≤ length input
    → old.input.faults < new.input.faults → RepliesTo limits events input n old.out.taken new.out.taken new.out.flushed
replies_so name limits (Err fault_is.Source) ending old mid new code files events input n sent cause out flushed at opens left rest few rose =
    let r : Result own.Reply Fault = Err fault_is.Source in
    let first : SendsReplies name limits (Some files) old.input.left new.input.left old.out.taken mid.out.taken mid.out.flushed r =
    subst (λ x. SendsReplies name limits x old.input.left new.input.left old.out.taken mid.out.taken mid.out.flushed r) at sent in
    let second : SendsReplies name limits (Some files) (Some input) new.input.left old.out.taken mid.out.taken mid.out.flushed r =
    subst (λ x. SendsReplies name limits (Some files) x new.input.left old.out.taken mid.out.taken mid.out.flushed r) left first in
    subst (λ x. RepliesTo limits events input n old.out.taken x new.out.flushed) (sym out)
    (subst (RepliesTo limits events input n old.out.taken mid.out.taken) (sym flushed) (second events n opens rest few))
replies_so name limits (Err fault_is.Shelf) ending old mid new code files events input n sent cause out flushed at opens left rest few rose =
    absurd (omega (arith, cause.1, rose))
replies_so name limits (Err fault_is.OutOfMemory) ending old mid new code files events input n sent cause out flushed at opens left rest few rose =
    absurd (omega (arith, cause.1, rose))
replies_so name limits (Err fault_is.Sink) ending old mid new code files events input n sent cause out flushed at opens left rest few rose = absurd (omega (arith, cause.1, rose))
replies_so name limits (Ok p) ending old mid new code files events input n sent cause out flushed at opens left rest few rose = absurd (omega (arith, cause.1, rose))

-- ---- the run

-- the misses of a line that needs its file, or not
misses_of : (needs : Bool) (before now : ℕ) (p : own.Reply) → MissesFor needs before now (Ok p) → needs ≡ true → MissesBy before now (Ok p)
misses_of true before now p h is = h
misses_of false before now p h is = absurd (false≢true is)

module _ (l : Option Line) (limits : LimitNumbers) (planned : Result own.Reply Fault) (ending : Result (Option Told) Fault) (old mid new : Seen) (code : ℕ)
    (h : Facts l limits planned ending old mid new code) where
  here : Course l planned old mid new code
  here = course l limits planned ending old mid new code h

  -- what is so of the reply, at a status that is a reply's
  at_reply : (P : Result own.Reply Fault → Type 0) → P planned → (code ≡ 6 → ⊥) → (code ≡ 8 → ⊥) → (p : own.Reply) × P (Ok p) × (reply_status p ≡ code)
  at_reply P all n6 n8 = let a = plan_of l planned old mid new code h.sends here n6 n8 in (a.0, subst P a.1 all, a.2)

  missed : needs_file l ≡ true → code ≡ 3 → Rose old.shelf.misses new.shelf.misses
  missed needs three =
      let a = at_reply (MissesFor (needs_file l) old.shelf.misses mid.shelf.misses) h.misses (λ six. omega (arith, three, six)) (λ eight. omega (arith, three, eight)) in
      subst (Rose old.shelf.misses) (sym h.no_miss) ((misses_of (needs_file l) old.shelf.misses mid.shelf.misses a.0 a.1 needs).1 (a.2 ∙ three))

  found : needs_file l ≡ true → (code ≡ 3 → ⊥) → (code ≡ 6 → ⊥) → (code ≡ 8 → ⊥) → new.shelf.misses ≡ old.shelf.misses
  found needs n3 n6 n8 =
      let a = at_reply (MissesFor (needs_file l) old.shelf.misses mid.shelf.misses) h.misses n6 n8 in
      h.no_miss ∙ (misses_of (needs_file l) old.shelf.misses mid.shelf.misses a.0 a.1 needs).2 (λ three. n3 (sym a.2 ∙ three))

  there : makes_file l ≡ true → code ≡ 3 → new.shelf.misses ≡ old.shelf.misses
  there makes three =
      let a = at_reply (MakesBy (makes_file l) old.shelf.misses mid.shelf.misses) h.makes (λ six. omega (arith, three, six)) (λ eight. omega (arith, three, eight)) in
      h.no_miss ∙ (a.1 makes).0 (a.2 ∙ three)

  absent : makes_file l ≡ true → code ≡ 0 → Rose old.shelf.misses new.shelf.misses
  absent makes zero =
      let a = at_reply (MakesBy (makes_file l) old.shelf.misses mid.shelf.misses) h.makes (λ six. omega (arith, zero, six)) (λ eight. omega (arith, zero, eight)) in
      subst (Rose old.shelf.misses) (sym h.no_miss) ((a.1 makes).1 (a.2 ∙ zero))

  refused_unread : needs_file l ≡ true → (code ≡ 3) ⊎ (code ≡ 4) → LeavesInput old.input new.input
  refused_unread needs bad =
      let a = at_reply (ReadsNone old.input new.input) (h.refused needs) (λ six. omega (arith, bad, six)) (λ eight. omega (arith, bad, eight)) in
      a.1 (elim bad [ inl three ↦ inl (a.2 ∙ three) | inr four ↦ inr (a.2 ∙ four) ])

  -- a line that only reads never stores
  kept : may_store l ≡ false → new.shelf.stores ≡ old.shelf.stores
  kept only = stores_none_so l h.some.0 planned old mid new code h.some.2 here (λ n. reads_alone limits n l h.some.0 only h.some.1)

  read_all : code ≡ 0 → (input : List ℕ) → old.input.left ≡ Some input → ReadsToEnd l limits input → new.input.left ≡ Some []
  read_all zero input left ends =
      let a = at_reply (ReadsAll l limits old.input new.input) h.read (λ six. omega (arith, zero, six)) (λ eight. omega (arith, zero, eight)) in
      a.1 (a.2 ∙ zero) input left ends

  loaded : (code ≡ 6 → ⊥) → (code ≡ 8 → ⊥) → CountsLoads (shape_of l).files limits old.shelf.files old.shelf.loads new.shelf.loads
  loaded n6 n8 =
      let a = at_reply (λ r. IfOk r (λ p. CountsLoads (shape_of l).files limits old.shelf.files old.shelf.loads mid.shelf.loads)) h.loads n6 n8 in
      subst (λ n. CountsLoads (shape_of l).files limits old.shelf.files old.shelf.loads n) (sym h.no_load) a.1

  usage_so : code ≡ 2 → (l ≡ None) × TellsErr old new usage_text
  usage_so two =
      let n6 : code ≡ 6 → ⊥ = λ six. omega (arith, two, six) in
      let n8 : code ≡ 8 → ⊥ = λ eight. omega (arith, two, eight) in
      let a = at_reply (IsReplyOf l) h.line n6 n8 in
      let s = is_session l h.some.0 planned old mid new code h.some.2 here in
      usage_told l a.0 h.some.0 old new code limits a.1 h.some.1 (s.answered n6 n8) a.2 two

-- what a session reads of its peer
hears : (file : Text) (limits : LimitNumbers) (planned : Result own.Reply Fault) (ending : Result (Option Told) Fault) (old mid new : Seen) (code : ℕ)
    → Facts (Some (serves file)) limits planned ending old mid new code → Hears file limits old new code
hears file limits planned ending old mid new code h =
    let l : Option Line = Some (serves file) in
    let k = course l limits planned ending old mid new code h in
    record {
      replies = λ files events input n at opens left rest few rose.
          replies_so file limits planned ending old mid new code files events input n h.heard.0 h.cause h.out h.flushed at opens left rest few rose;
      prompt = λ files events input at opens left.
          let last = last_taken l planned old mid new code h.sends k in
          prompt_so file limits old mid new files events input last.0 h.heard.1 last.1 at opens left;
      within = λ well.
          let a = at_reply l limits planned ending old mid new code h (ReadsWithin limits old.input.left new.input.left) h.heard.2
          (λ six. omega (arith, well, six)) (λ eight. omega (arith, well, eight)) in
          a.1 (elim well [ inl zero ↦ inl (a.2 ∙ zero) | inr five ↦ inr (a.2 ∙ five) ]);
    }

-- what only a session promises
if_hears : (l : Option Line) (limits : LimitNumbers) (planned : Result own.Reply Fault) (ending : Result (Option Told) Fault) (old mid new : Seen) (code : ℕ)
    → Facts l limits planned ending old mid new code → IfServes l limits old new code
if_hears None limits planned ending old mid new code h = tt
if_hears (Some (does command)) limits planned ending old mid new code h = tt
if_hears (Some (watches agent)) limits planned ending old mid new code h = tt
if_hears (Some (exports file)) limits planned ending old mid new code h = tt
if_hears (Some (serves file)) limits planned ending old mid new code h = hears file limits planned ending old mid new code h

only_usage_so : (l : Option Line) (planned : Result own.Reply Fault) (old mid new : Seen) (code : ℕ) → SendsNone l old.out mid.out planned → Course l planned old mid new code
    → IsReplyOf l planned → l ≡ None → (code ≡ 2) ⊎ (code ≡ 8)
only_usage_so None planned old mid new code sends k line is = only_so None planned old mid new code sends k line
only_usage_so (Some l) planned old mid new code sends k line is = absurd cc

-- what the parts make of a run
pub is_run : (l : Option Line) (limits : LimitNumbers) (planned : Result own.Reply Fault) (ending : Result (Option Told) Fault) (old mid new : Seen) (code : ℕ)
    → Facts l limits planned ending old mid new code → Journals l limits old new code → IsRunOf l limits old new code
is_run l limits planned ending old mid new code h journals =
    let k = course l limits planned ending old mid new code h in
    record {
      answers = record {
        known = λ files journal input meaning at told means.
            let s = session_of l limits files journal input meaning in
            let follows = h.told files journal input meaning at told means in
            (is_served l s planned files old mid new code follows at k, sends_none l (λ s'. stores_first l s planned files old mid new code follows at k s'.1) h.sends);
        some = (h.some.0, h.some.1, is_session l h.some.0 planned old mid new code h.some.2 k);
        among = among_so l planned old mid new code h.sends k;
        usage = usage_so l limits planned ending old mid new code h;
        only_usage = only_usage_so l planned old mid new code h.sends k h.line;
        flushed = flushed_at l planned old mid new code h.sends k;
        told = told_whole l limits old mid new code planned ending h;
        silent = silent_so l planned old mid new code h.sends k;
      };
      leaves = record {
        fault = fault_so l planned old mid new code h.sends k;
        always = always_so l planned old mid new code h.sends k;
        later = later_so l planned old mid new code h.sends k;
        memory = memory_so l planned old mid new code h.sends k;
        nothing = nothing_so l planned old mid new code h.sends k;
        kept = kept l limits planned ending old mid new code h;
      };
      reads = record {
        missing = missed l limits planned ending old mid new code h;
        found = found l limits planned ending old mid new code h;
        there = there l limits planned ending old mid new code h;
        absent = absent l limits planned ending old mid new code h;
        front = (h.front.0, h.no_load ∙ h.front.1);
        loads = loaded l limits planned ending old mid new code h;
        loaded = loaded_all l limits old mid new code planned ending h;
        asked = subst (AsksAtMost (most_asked l limits) old.shelf.asked) (sym h.no_ask) h.asked;
        read = read_all l limits planned ending old mid new code h;
        unread = h.unread;
        ends = h.ends;
        few = h.few;
        untouched = λ files at. subst
            (λ x. IfSome x (λ m. IfFileRefused (shape_of l) limits m (LeavesInput old.input new.input))) at h.untouched;
        refused = refused_unread l limits planned ending old mid new code h;
        hears = if_hears l limits planned ending old mid new code h;
      };
      journals = journals;
    }

-- a run whose status is the process's
pub run_ends : (words : List Text) (limits : LimitNumbers) (old new : Seen) (status code : ℕ) → code ≡ status → IsRun words limits old new status
    → IsRun words limits old new code
run_ends words limits old new status code same run = subst (IsRun words limits old new) (sym same) run
