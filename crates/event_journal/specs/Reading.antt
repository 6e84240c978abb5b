-- What is read of a journal's bytes: the words of the contracts inside this crate.
use Rattle.std.specs.Prelude.{◌≡◌, ◌≤◌, ℕ, List, [], ◌∷◌, length, take, drop, Option, None, Some, Result, Ok, Err, ⊤}
use Rattle.ew_model.specs.declared.event.Event.{Event}
use Rattle.ew_model.specs.Limits.{LimitNumbers}
use Rattle.ew_outside.specs.Counts.{Rises}
use Rattle.peer_definitions.specs.Batches.{BeginWith, batch_bytes, journal_bytes, journal_events, IsClosed, IsBroken}
use Rattle.event_journal.specs.Journal.{HoldsTooMany}
use Rattle.event_journal.specs.declared.fault.OpenFault.{OpenFault}
use Rattle.event_journal.specs.declared.fault.OpenFault.TheVariants.{Failed, BadBatch, TooMany, OutOfMemory}
use Rattle.event_journal.specs.declared.reading.Contents.{Contents}

-- the bytes are all that the disk tells
abbrev pub IsWhole : Option (List ℕ) → List ℕ → Type 0
IsWhole None bytes = ⊤
IsWhole (Some all) bytes = bytes ≡ all

-- the bytes are the front of those that the disk tells, of which there are so many
abbrev pub IsFront : Option (List ℕ) → List ℕ → ℕ → Type 0
IsFront None bytes len = ⊤
IsFront (Some all) bytes len = (bytes ≡ take (length bytes) all) × (len ≡ length all)

-- the bytes begin with this batch, which has so many bytes, and at least one byte comes after it
pub record IsFirst (most : ℕ) (bytes : List ℕ) (batch : List Event) (len : ℕ) : Type 0 where
  pub begins : BeginWith most bytes (batch ∷ []) (drop len bytes)
  pub size : len ≡ length (batch_bytes batch)

-- the bytes begin with batches of these events, which end at this place, and are no more than the limit
pub record IsRead (limits : LimitNumbers) (bytes : List ℕ) (events : List Event) (place : ℕ) : Type 0 where
  pub batches : List (List Event)
  pub begins : BeginWith limits.body bytes batches (drop place bytes)
  pub place_is : place ≡ length (journal_bytes batches)
  pub events_are : events ≡ journal_events batches
  pub within : length events ≤ limits.events

-- the bytes begin with batches, and then a bad place comes
pub record IsBad (limits : LimitNumbers) (bytes : List ℕ) (place : ℕ) : Type 0 where
  pub events : List Event
  pub read : IsRead limits bytes events place
  pub broken : IsBroken limits.body (drop place bytes)

-- a disk that was read failed, which it counted, or memory ran out, which no disk counts
abbrev pub FailsOnly : OpenFault → ℕ → ℕ → Type 0
FailsOnly Failed before now = Rises before now
FailsOnly OutOfMemory before now = now ≡ before
FailsOnly (BadBatch offset) before now = ⊥
FailsOnly (TooMany count) before now = ⊥

-- what was read of bytes
abbrev pub IsReading : LimitNumbers → List ℕ → Result Contents OpenFault → Type 0
IsReading limits bytes (Ok found) = IsRead limits bytes found.events.items found.gate × IsClosed (drop found.gate bytes)
IsReading limits bytes (Err (BadBatch offset)) = IsBad limits bytes offset
IsReading limits bytes (Err (TooMany count)) = HoldsTooMany limits count bytes
IsReading limits bytes (Err Failed) = ⊥
IsReading limits bytes (Err OutOfMemory) = ⊤
