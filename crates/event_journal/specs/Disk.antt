-- What the calls of a disk do to its bytes, and to what a crash may leave of them.
use Rattle.std.specs.Prelude.{◌≡◌, ◌≤◌, ◌<◌, ◌+◌, ◌⊎◌, ℕ, List, [], ◌++◌, length, take, drop, max, ⊤, Option, None, Some, Result, Ok, Err}
use Rattle.ew_outside.specs.declared.fault.Failed.{Failed}

-- a disk: its bytes, where it tells them, and how many of its calls failed
pub record DiskSeen : Type 0 where
  pub bytes : Option (List ℕ)
  pub faults : ℕ

-- the bytes with a piece written over them, from a place on
abbrev pub written : List ℕ → ℕ → List ℕ → List ℕ
written bytes at piece = take at bytes ++ piece ++ drop (at + length piece) bytes

-- What a crash may make of the bytes where a write of so many bytes is not synced: any bytes in its range and past the old end, and any
-- length from the old one to the end of the range. All other bytes stay.
pub record IsTorn (at count : ℕ) (old new : List ℕ) : Type 0 where
  pub before : take at new ≡ take at old
  pub after : drop (at + count) new ≡ drop (at + count) old
  pub no_shorter : length old ≤ length new
  pub no_longer : length new ≤ max (length old) (at + count)

-- what a read gives, where the bytes are told: those from the place on, as many as it says, and none exactly at the end or without room
abbrev pub ReadGives : Option (List ℕ) → ℕ → Result ℕ Failed → List ℕ → Type 0
ReadGives told at (Err _) buf = ⊤
ReadGives None at (Ok n) buf = n ≤ length buf
ReadGives (Some bytes) at (Ok n) buf =
    (n ≤ length buf) × (n ≤ length (drop at bytes)) × (take n buf ≡ take n (drop at bytes)) × (n ≡ 0 → 0 < length buf → drop at bytes ≡ [])

-- what a write leaves, where the bytes are told: the piece stands there; where the write failed, no more is changed than by a crash
abbrev pub WriteLeaves : {T : Type 0} → Option (List ℕ) → Option (List ℕ) → ℕ → List ℕ → Result T Failed → Type 0
WriteLeaves None new at piece result = new ≡ None
WriteLeaves (Some old) new at piece (Ok _) = new ≡ Some (written old at piece)
WriteLeaves (Some old) new at piece (Err _) = (bytes : List ℕ) × (new ≡ Some bytes) × IsTorn at (length piece) old bytes

-- the new disk tells its bytes exactly where the old one did
abbrev pub TellsAlike : Option (List ℕ) → Option (List ℕ) → Type 0
TellsAlike None new = new ≡ None
TellsAlike (Some _) new = (bytes : List ℕ) × (new ≡ Some bytes)

-- a crash leaves these bytes and nothing else
abbrev pub LeavesJust : List ℕ → (List ℕ → Type 0) → Type 0
LeavesJust bytes may_leave = (c : List ℕ) → may_leave c → c ≡ bytes

-- a crash leaves nothing that it might not have left before
abbrev pub LeavesNoMore : (List ℕ → Type 0) → (List ℕ → Type 0) → Type 0
LeavesNoMore old new = (c : List ℕ) → new c → old c

-- what a crash may leave now is torn from what it might have left before
abbrev pub LeavesTorn : ℕ → ℕ → (List ℕ → Type 0) → (List ℕ → Type 0) → Type 0
LeavesTorn at count old new = (c : List ℕ) → new c → (d : List ℕ) × old d × IsTorn at count d c

-- Time passes in a call, of which these are the moments before and after. What a crash since an earlier moment might have left is what it
-- might have left by the time of the call, or what it may leave now; and what it might have left is not forgotten.
pub record Passes (before now : ℕ) (past since : ℕ → List ℕ → Type 0) (may_leave : List ℕ → Type 0) : Type 0 where
  pub later : before ≤ now
  pub no_more : (t : ℕ) (c : List ℕ) → t ≤ before → since t c → past t c ⊎ may_leave c
  pub kept : (t : ℕ) (c : List ℕ) → t ≤ before → past t c → since t c

-- A crash at any moment from the old disk to the new one leaves bytes that have P, and nothing else that it might not have left before.
pub record StaysWithin {D : Type 0} (moment : D → ℕ) (left_since : D → ℕ → List ℕ → Type 0) (old new : D) (P : List ℕ → Type 0) : Type 0 where
  pub later : moment old ≤ moment new
  pub each : (c : List ℕ) → left_since new (moment old) c → P c
  pub earlier : (t : ℕ) (c : List ℕ) → t ≤ moment old → left_since new t c → left_since old t c ⊎ P c
