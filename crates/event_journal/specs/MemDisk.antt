-- What a disk in memory holds after its calls, and what a crash may leave of it.
use Rattle.std.specs.Prelude.{◌≡◌, ◌≤◌, ◌⊎◌, ℕ, true, false, List, [], ◌∷◌, ◌++◌, length, take, Result, Ok, Err, IsErr, is_err, Vec}
use Rattle.std.specs.Global.{Global}
use Rattle.ew_outside.specs.Counts.{next}
use Rattle.ew_outside.specs.Memory.{Schedule, after_call}
use Rattle.ew_outside.specs.declared.fault.Failed.{Failed}
use Rattle.event_journal.specs.Disk.{written, IsTorn}
use Rattle.event_journal.specs.declared.mem_disk.DiskCall.{DiskCall}
use Rattle.event_journal.specs.declared.mem_disk.DiskCall.TheVariants.{Len, Read, Write, FailedWrite, Sync}
use Rattle.event_journal.specs.declared.mem_disk.Tear.{Tear}

-- a disk in memory: its first bytes, its calls in order but for those that memory ran out for, how many these were, which calls are to
-- fail, and what stands of a write that is to fail
pub record MemDiskSeen : Type 0 where
  pub first : List ℕ
  pub made : List DiskCall
  pub starved : ℕ
  pub calls : Schedule
  pub tear : Tear

-- the bytes after a call
abbrev pub after : List ℕ → DiskCall → List ℕ
after bytes (Len failed) = bytes
after bytes (Read at room failed) = bytes
after bytes (Write at piece) = written bytes at piece.items
after bytes (FailedWrite at piece left) = written bytes at left.items
after bytes (Sync failed) = bytes

-- the bytes after these calls
abbrev pub content : List ℕ → List DiskCall → List ℕ
content bytes [] = bytes
content bytes (call ∷ made) = content (after bytes call) made

-- the bytes are torn, by a write of so many bytes, from what a crash might have left before it
abbrev pub IsTornFrom : (List ℕ → Type 0) → ℕ → ℕ → List ℕ → Type 0
IsTornFrom before at count c = (d : List ℕ) × before d × IsTorn at count d c

-- What a crash may leave after a call, where before it it might have left these: what stands there after a write, or what is torn by it; and
-- after a sync that was answered Ok the bytes, which stay.
abbrev pub leaves : List ℕ → (List ℕ → Type 0) → DiskCall → List ℕ → Type 0
leaves bytes before (Len failed) c = before c
leaves bytes before (Read at room failed) c = before c
leaves bytes before (Write at piece) c = (c ≡ written bytes at piece.items) ⊎ IsTornFrom before at (length piece.items) c
leaves bytes before (FailedWrite at piece left) c = (c ≡ written bytes at left.items) ⊎ IsTornFrom before at (length piece.items) c
leaves bytes before (Sync true) c = before c
leaves bytes before (Sync false) c = c ≡ bytes

-- what a crash may leave after these calls
abbrev pub MayLeave : List ℕ → (List ℕ → Type 0) → List DiskCall → List ℕ → Type 0
MayLeave bytes before [] c = before c
MayLeave bytes before (call ∷ made) c = MayLeave (after bytes call) (leaves bytes before call) made c

-- what a crash may have left after so many of these calls, or more
abbrev pub LeftSince : List ℕ → List DiskCall → ℕ → List ℕ → Type 0
LeftSince first made t c = (n : ℕ) × (t ≤ n) × (n ≤ length made) × MayLeave first (λ b. b ≡ first) (take n made) c

-- one call more is kept
abbrev pub HasKept : MemDiskSeen → MemDiskSeen → DiskCall → Type 0
HasKept old new call = (new.made ≡ old.made ++ call ∷ []) × (new.starved ≡ old.starved)

-- memory ran out for a call, which is counted alone
abbrev pub HasStarved : MemDiskSeen → MemDiskSeen → Type 0
HasStarved old new = (new.made ≡ old.made) × (new.starved ≡ next old.starved)

-- what stays as it was in a call, and that it is counted
pub record Counted {T : Type 0} (old new : MemDiskSeen) (result : Result T Failed) : Type 0 where
  pub first : new.first ≡ old.first
  pub tear : new.tear ≡ old.tear
  pub calls : new.calls ≡ after_call old.calls (is_err result)

-- the call is kept; or it failed, and memory ran out for it
abbrev pub KeepsCall : {T : Type 0} → MemDiskSeen → MemDiskSeen → DiskCall → Result T Failed → Type 0
KeepsCall old new call result = Counted old new result × (HasKept old new call ⊎ (IsErr result × HasStarved old new))

-- a write is kept with its bytes, and one that failed with what stands in their place too; or it failed, and memory ran out for it
abbrev pub KeepsWrite : {T : Type 0} → MemDiskSeen → MemDiskSeen → ℕ → List ℕ → Result T Failed → Type 0
KeepsWrite old new at piece (Ok x) = Counted old new (Ok x) × ((bytes : Vec ℕ Global) × (bytes.items ≡ piece) × HasKept old new (Write at bytes))
KeepsWrite {T} old new at piece (Err e) =
    Counted {T = T} old new (Err e)
    × (((bytes : Vec ℕ Global) × (left : Vec ℕ Global) × (bytes.items ≡ piece) × (length left.items ≤ length piece) × HasKept old new (FailedWrite at bytes left)) ⊎ HasStarved old new)
