-- What was planned over the journal, as a plan of a session, and what a status tells of it.
use Rattle.std.proofs.Common.{◌≡◌, ◌<◌, ◌⊎◌, inl, inr, ℕ, List, [], zero, suc, take, Option, Some, None, IfOk, Result, Ok, Err, refl, sym, ap, subst, ◌∙◌}
use Rattle.std.specs.Prelude.{⊤}
use Rattle.std.specs.Io.KnownBytes.{Appends}
use Rattle.ew_outside.specs.Seen.{ShelfSeen, SinkSeen}
use Rattle.ew_outside.specs.declared.fault.Fault.{Fault}
use Rattle.ew_outside.specs.declared.fault.Fault.TheVariants as fault_is
use Rattle.opened_files.specs.Views.{reply_status}
use Rattle.opened_files.specs.declared.reply.Reply as own
use Rattle.opened_files.specs.declared.reply.Reply.TheVariants as reply_is
use Rattle.serve_plans.specs.Plans.{FollowsSession}
use Rattle.journal_plans.specs.Watching.{FollowsWatch}
use Rattle.journal_plans.specs.declared.stop.Stop.{Stop}
use Rattle.journal_plans.specs.declared.stop.Stop.TheVariants as stop
use Rattle.command_table.specs.Seen.{Seen}
use Rattle.command_table.specs.Sessions.{Session}
use Rattle.command_runs.specs.declared.ending.Told.{Told}
use Rattle.command_runs.specs.Endings.{EndOut, EndsKept, EndsReply, end_status, out_of}
use Rattle.journal_plans.proofs.Keeping.{same_taken}

-- A reply, or the fault that stopped its making, of what was planned over the journal. A disk's failure is none of these faults: a run that it
-- stopped is like one that a source stopped, but for the object that is named.
abbrev pub as_planned : Result own.Reply Stop → Result own.Reply Fault
as_planned (Ok p) = Ok p
as_planned (Err (stop.Fault fault)) = Err fault
as_planned (Err stop.Disk) = Err fault_is.Source

-- the disk didn't fail
abbrev pub IsNotOfDisk : Result own.Reply Stop → Type 0
IsNotOfDisk (Ok p) = ⊤
IsNotOfDisk (Err (stop.Fault fault)) = ⊤
IsNotOfDisk (Err stop.Disk) = ⊥

pub follows_so : (s : Session) (out out' : SinkSeen) (planned : Result own.Reply Stop) → FollowsWatch s out out' planned → FollowsSession s out.taken out'.taken out'.flushed (as_planned planned)
follows_so s out out' (Ok p) h = h
follows_so s out out' (Err (stop.Fault fault)) h = h
follows_so s out out' (Err stop.Disk) h = h

-- what is so of a reply
pub ok_so : (P : own.Reply → Type 0) (planned : Result own.Reply Stop) → IfOk planned P → IfOk (as_planned planned) P
ok_so P (Ok p) h = h
ok_so P (Err (stop.Fault fault)) h = tt
ok_so P (Err stop.Disk) h = tt

pub any_so : (holds : Type 0) (planned : Result own.Reply Fault) → holds → IfOk planned (λ p. holds)
any_so holds (Ok p) h = h
any_so holds (Err fault) h = tt

-- ---- which plan a status is of

status_of : (p : own.Reply) (ending : Result (Option Told) Fault) (code : ℕ) → EndsReply (Ok p) ending → code ≡ end_status ending → (code ≡ 6 → ⊥) → (code ≡ 8 → ⊥) → reply_status p ≡ code
status_of (reply_is.Prints out) (Ok None) code which status n6 n8 = sym status
status_of (reply_is.Prints out) (Ok (Some told)) code which status n6 n8 = absurd which
status_of (reply_is.Stores out to bytes) (Ok None) code which status n6 n8 = sym status
status_of (reply_is.Stores out to bytes) (Ok (Some told)) code which status n6 n8 = absurd which
status_of (reply_is.Refuses why) (Ok None) code which status n6 n8 = absurd which
status_of (reply_is.Refuses why) (Ok (Some told)) code which status n6 n8 = sym (status ∙ which.0)
status_of p (Err fault_is.Shelf) code which status n6 n8 = absurd (n6 status)
status_of p (Err fault_is.Source) code which status n6 n8 = absurd (n6 status)
status_of p (Err fault_is.Sink) code which status n6 n8 = absurd (n6 status)
status_of p (Err fault_is.OutOfMemory) code which status n6 n8 = absurd (n8 status)

not_fault : (fault : Fault) (code : ℕ) → code ≡ end_status (Err fault) → (code ≡ 6 → ⊥) → (code ≡ 8 → ⊥) → ⊥
not_fault fault_is.Shelf code status n6 n8 = n6 status
not_fault fault_is.Source code status n6 n8 = n6 status
not_fault fault_is.Sink code status n6 n8 = n6 status
not_fault fault_is.OutOfMemory code status n6 n8 = n8 status

-- a status other than 6 and 8 is that of a reply
pub replied : (planned : Result own.Reply Stop) (shelf shelf' : ShelfSeen) (out out' err err' : SinkSeen) (code : ℕ) → EndsKept planned shelf shelf' out out' err err' code
    → (code ≡ 6 → ⊥) → (code ≡ 8 → ⊥) → (p : own.Reply) × (planned ≡ Ok p) × (reply_status p ≡ code)
replied (Ok p) shelf shelf' out out' err err' code (ending, h) n6 n8 = (p, refl, status_of p ending code h.which h.status n6 n8)
replied (Err (stop.Fault fault)) shelf shelf' out out' err err' code h n6 n8 = absurd (not_fault fault code h.2.status n6 n8)
replied (Err stop.Disk) shelf shelf' out out' err err' code h n6 n8 = absurd (n6 h.2)

-- ---- what is printed behind it

front_none : (old new : Option (List ℕ)) (n : ℕ) → Appends old new (take n []) → Appends old new []
front_none old new zero all = all
front_none old new (suc n) all = all

last_of : (p : own.Reply) (ending : Result (Option Told) Fault) (old new : Option (List ℕ)) (flushed : Option ℕ) → EndsReply (Ok p) ending → EndOut (Ok p) ending old new flushed
    → (reply_status p ≡ 0) ⊎ (new ≡ old)
last_of (reply_is.Prints out) ending old new flushed which end = inl refl
last_of (reply_is.Stores out to bytes) ending old new flushed which end = inl refl
last_of (reply_is.Refuses why) (Ok None) old new flushed which end = absurd which
last_of (reply_is.Refuses why) (Ok (Some told)) old new flushed which end = inr end
last_of (reply_is.Refuses why) (Err fault_is.Shelf) old new flushed which end = inr end
last_of (reply_is.Refuses why) (Err fault_is.Source) old new flushed which end = inr end
last_of (reply_is.Refuses why) (Err fault_is.Sink) old new flushed which end = absurd (let bad = which in cc)
last_of (reply_is.Refuses why) (Err fault_is.OutOfMemory) old new flushed which end = inr end

silent_end : (p : own.Reply) (ending : Result (Option Told) Fault) (old new : Option (List ℕ)) (flushed : Option ℕ) → out_of p ≡ [] → EndOut (Ok p) ending old new flushed → Appends old new []
silent_end p (Ok None) old new flushed none end = subst (Appends old new) none end.0
silent_end p (Ok (Some told)) old new flushed none end = same_taken old new end
silent_end p (Err fault_is.Shelf) old new flushed none end = same_taken old new end
silent_end p (Err fault_is.Source) old new flushed none end = same_taken old new end
silent_end p (Err fault_is.Sink) old new flushed none end = front_none old new end.0 (subst (λ (xs : List ℕ). Appends old new (take end.0 xs)) none end.1)
silent_end p (Err fault_is.OutOfMemory) old new flushed none end = same_taken old new end

-- Of a plan over the journal that prints nothing at last: which plan a status and the counts are of, and what of the output is behind it.
pub record Traces (planned : Result own.Reply Stop) (old mid new : Seen) (code : ℕ) : Type 0 where
  pub reply : (code ≡ 6 → ⊥) → (code ≡ 8 → ⊥) → (p : own.Reply) × (planned ≡ Ok p) × (reply_status p ≡ code)
  pub source : old.input.faults < new.input.faults → planned ≡ Err (stop.Fault fault_is.Source)
  pub disk : old.disk.faults < new.disk.faults → (planned ≡ Err stop.Disk) × (new.out ≡ mid.out)
  pub last : ((p : own.Reply) × (planned ≡ Ok p) × (reply_status p ≡ 0)) ⊎ (new.out.taken ≡ mid.out.taken)
  pub grows : Appends mid.out.taken new.out.taken []

pub traced : (planned : Result own.Reply Stop) (old mid new : Seen) (code : ℕ) → EndsKept planned mid.shelf new.shelf mid.out new.out old.err new.err code → IfOk planned (λ p. out_of p ≡ [])
    → (old.input.faults < new.input.faults → planned ≡ Err (stop.Fault fault_is.Source)) → (old.disk.faults < new.disk.faults → planned ≡ Err stop.Disk) → Traces planned old mid new code
traced (Ok p) old mid new code (ending, h) silent source disk = record {
  reply = λ n6 n8. (p, refl, status_of p ending code h.which h.status n6 n8);
  source = source;
  disk = λ rose. absurd (let bad = disk rose in cc);
  last = elim (last_of p ending mid.out.taken new.out.taken new.out.flushed h.which h.taken) [ inl well ↦ inl (p, refl, well) | inr same ↦ inr same ];
  grows = silent_end p ending mid.out.taken new.out.taken new.out.flushed silent h.taken;
}
traced (Err (stop.Fault fault)) old mid new code h silent source disk = record {
  reply = λ n6 n8. absurd (not_fault fault code h.2.status n6 n8);
  source = source;
  disk = λ rose. absurd (let bad = disk rose in cc);
  last = inr (ap (λ o. o.taken) h.1);
  grows = same_taken mid.out.taken new.out.taken (ap (λ o. o.taken) h.1);
}
traced (Err stop.Disk) old mid new code h silent source disk = record {
  reply = λ n6 n8. absurd (n6 h.2);
  source = source;
  disk = λ rose. (refl, h.1);
  last = inr (ap (λ o. o.taken) h.1);
  grows = same_taken mid.out.taken new.out.taken (ap (λ o. o.taken) h.1);
}
