-- The events of a line are told once they stand.
use Rattle.std.proofs.Common.{◌≡◌, ℕ, List, ◌++◌, length, Option, Result, Ok, Err, refl, sym, subst, arith}
use Rattle.std.proofs.lemmas.List.{take_all}
use Rattle.ew_model.specs.declared.event.Event.{Event}
use Rattle.ew_outside.specs.Seen.{SinkSeen}
use Rattle.ew_outside.specs.declared.fault.Fault.TheVariants as fault_is
use Rattle.event_journal.specs.Journal.{JournalSeen, Holds}
use Rattle.journal_plans.specs.Adding.{Adds, IsKeptAs, StandsBy, TellsSome}
use Rattle.journal_plans.specs.Keeping.{Prints}
use Rattle.journal_plans.specs.Stops.{DiskCauses, KeepCauses}
use Rattle.journal_plans.specs.declared.stop.Stop.{Stop}
use Rattle.journal_plans.specs.declared.stop.Stop.TheVariants as stop
use Rattle.journal_plans.proofs.Adding.{kept_holds}

-- a step that reaches the disk alone prints nothing
pub untold : (T : Type 0) (out : SinkSeen) (text : List ℕ) (before now : ℕ) (why : Stop) → DiskCauses {T = T} before now (Err why) → Prints {T = T} out out text (Err why)
untold T out text before now stop.Disk cause = (refl, refl)
untold T out text before now (stop.Fault fault_is.OutOfMemory) cause = (refl, refl)
untold T out text before now (stop.Fault fault_is.Sink) cause = absurd cause
untold T out text before now (stop.Fault fault_is.Shelf) cause = absurd cause
untold T out text before now (stop.Fault fault_is.Source) cause = absurd cause

pub disk_causes : (T : Type 0) (disk disk' sink : ℕ) (why : Stop) → DiskCauses {T = T} disk disk' (Err why) → KeepCauses {T = T} disk disk' sink sink (Err why)
disk_causes T disk disk' sink stop.Disk cause = (cause, refl)
disk_causes T disk disk' sink (stop.Fault fault_is.OutOfMemory) cause = (cause, refl)
disk_causes T disk disk' sink (stop.Fault fault_is.Sink) cause = absurd cause
disk_causes T disk disk' sink (stop.Fault fault_is.Shelf) cause = absurd cause
disk_causes T disk disk' sink (stop.Fault fault_is.Source) cause = absurd cause

-- a step that reaches the output alone
pub told_causes : {T : Type 0} (disk disk' sink sink' : ℕ) (result : Result T Stop) → disk' ≡ disk → KeepCauses 0 0 sink sink' result → KeepCauses disk disk' sink sink' result
told_causes disk disk' sink sink' (Ok x) same cause = (same, cause.1)
told_causes disk disk' sink sink' (Err stop.Disk) same cause = absurd (omega (arith, cause.0.1))
told_causes disk disk' sink sink' (Err (stop.Fault fault_is.OutOfMemory)) same cause = (same, cause.1)
told_causes disk disk' sink sink' (Err (stop.Fault fault_is.Sink)) same cause = (same, cause.1)
told_causes disk disk' sink sink' (Err (stop.Fault fault_is.Shelf)) same cause = absurd cause
told_causes disk disk' sink sink' (Err (stop.Fault fault_is.Source)) same cause = absurd cause

-- all that is added is a front of it
all_stands : (journal : JournalSeen) (told : Option (List ℕ)) (may : List ℕ → Type 0) (before added : List (List Event)) → IsKeptAs journal told may (before ++ added) → TellsSome journal.limits.body told before added
all_stands journal told may before added (bytes, is, k) = (
  bytes,
  is,
  (
    length added,
    omega arith,
    subst (λ (bs : List (List Event)). Holds journal.limits.body (before ++ bs) bytes) (sym (take_all (length added) added (omega arith))) (kept_holds journal bytes may (before ++ added) k),
  ),
)

told_stands : {T : Type 0} (journal : JournalSeen) (told : Option (List ℕ)) (may : List ℕ → Type 0) (before added : List (List Event)) (sink sink' : ℕ) (result : Result T Stop)
    → KeepCauses 0 0 sink sink' result → IsKeptAs journal told may (before ++ added) → StandsBy journal told may before added result
told_stands journal told may before added sink sink' (Ok x) cause k = k
told_stands journal told may before added sink sink' (Err stop.Disk) cause k = all_stands journal told may before added k
told_stands journal told may before added sink sink' (Err (stop.Fault fault_is.OutOfMemory)) cause k = all_stands journal told may before added k
told_stands journal told may before added sink sink' (Err (stop.Fault fault_is.Sink)) cause k = k
told_stands journal told may before added sink sink' (Err (stop.Fault fault_is.Shelf)) cause k = absurd cause
told_stands journal told may before added sink sink' (Err (stop.Fault fault_is.Source)) cause k = absurd cause

module _ {D : Type 0} (may_leave : D → List ℕ → Type 0) (moment : D → ℕ) (left_since : D → ℕ → List ℕ → Type 0) where
  -- what was added stays as it is while it is told
  pub told_adds : {T U : Type 0} (journal journal' : JournalSeen) (disk disk' : D) (told told' : Option (List ℕ)) (added : List (List Event)) (sink sink' : ℕ) (x : U) (result : Result T Stop)
      → KeepCauses 0 0 sink sink' result → Adds {T = U} may_leave moment left_since journal journal' disk disk' told told' added (Ok x) → Adds may_leave moment left_since journal journal' disk disk' told told' added result
  told_adds journal journal' disk disk' told told' added sink sink' x result cause h = record {
    stands = λ before k. told_stands journal' told' (may_leave disk') before added sink sink' result cause (h.stands before k);
    moments = h.moments;
  }
