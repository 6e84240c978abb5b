-- What a journal is, and what a crash leaves of it.
use Rattle.std.specs.Prelude.{◌≡◌, ◌<◌, ◌≤◌, ◌⊎◌, ℕ, Bool, List, [], ◌∷◌, ◌++◌, length, Option, None, Some, IfSome, Result, Ok, Err}
use Rattle.ew_model.specs.declared.event.Event.{Event}
use Rattle.ew_model.specs.Limits.{LimitNumbers}
use Rattle.peer_definitions.specs.Batches.{journal_bytes, journal_events, BeginWith, IsClosed, AreBatches}
use Rattle.ew_outside.specs.Counts.{Rises}
use Rattle.event_journal.specs.Disk.{LeavesJust}
use Rattle.event_journal.specs.declared.fault.OpenFault.{OpenFault}
use Rattle.event_journal.specs.declared.fault.OpenFault.TheVariants.{Failed, BadBatch, TooMany, OutOfMemory}

-- a journal: its limits, the place of the closed gate that ends it, how many events it holds, and whether an append failed
pub record JournalSeen : Type 0 where
  pub limits : LimitNumbers
  pub gate : ℕ
  pub count : ℕ
  pub failed : Bool

-- the bytes hold these batches, and a closed gate after them at this place
pub record RestsAt (most : ℕ) (bytes : List ℕ) (batches : List (List Event)) (gate : ℕ) : Type 0 where
  pub rest : List ℕ
  pub begins : BeginWith most bytes batches rest
  pub closed : IsClosed rest
  pub place : gate ≡ length (journal_bytes batches)

-- The disk is as the journal's last call left it: its bytes hold these batches and then the closed gate, the journal counts their events,
-- and a crash leaves these bytes and nothing else.
pub record IsKept (journal : JournalSeen) (bytes : List ℕ) (may_leave : List ℕ → Type 0) (batches : List (List Event)) : Type 0 where
  pub at_rest : RestsAt journal.limits.body bytes batches journal.gate
  pub counted : journal.count ≡ length (journal_events batches)
  pub durable : LeavesJust bytes may_leave

-- where the disk tells its bytes, it is as the journal's last call left it
abbrev pub IsKeptOn : JournalSeen → Option (List ℕ) → (List ℕ → Type 0) → Type 0
IsKeptOn journal told may_leave = IfSome told (λ bytes. (batches : List (List Event)) × IsKept journal bytes may_leave batches)

-- what an opening does to the count of faults: it rises where the disk failed, and only there
abbrev pub CountsOpening : {T : Type 0} → ℕ → ℕ → Result T OpenFault → Type 0
CountsOpening before now (Ok _) = now ≡ before
CountsOpening before now (Err Failed) = Rises before now
CountsOpening before now (Err (BadBatch _)) = now ≡ before
CountsOpening before now (Err (TooMany _)) = now ≡ before
CountsOpening before now (Err OutOfMemory) = now ≡ before

-- the bytes hold the batches, without a bad place
abbrev pub Holds : ℕ → List (List Event) → List ℕ → Type 0
Holds most batches bytes = AreBatches most bytes batches None

-- the bytes hold the batches from before, or these and the new one
abbrev pub HoldsOneMoreAtMost : ℕ → List (List Event) → List Event → List ℕ → Type 0
HoldsOneMoreAtMost most batches batch bytes = Holds most batches bytes ⊎ Holds most (batches ++ batch ∷ []) bytes

-- two disks hold the same batches, and have the same bad place or none
abbrev pub HoldSame : ℕ → List ℕ → List ℕ → Type 0
HoldSame most bytes others =
    (batches : List (List Event)) (bad : Option ℕ) → (AreBatches most bytes batches bad → AreBatches most others batches bad) × (AreBatches most others batches bad → AreBatches most bytes batches bad)

-- the bytes hold batches of these events in order, without a bad place
abbrev pub HoldsEvents : ℕ → List Event → List ℕ → Type 0
HoldsEvents most events bytes = (batches : List (List Event)) × Holds most batches bytes × (events ≡ journal_events batches)

-- the bytes hold batches of so many events at most, and then this bad place
abbrev pub IsBadAt : LimitNumbers → ℕ → List ℕ → Type 0
IsBadAt limits bad bytes = (batches : List (List Event)) × AreBatches limits.body bytes batches (Some bad) × (length (journal_events batches) ≤ limits.events)

-- the bytes begin with batches, of which the last is the first with which the events are more than the limit; they are so many
pub record HoldsTooMany (limits : LimitNumbers) (count : ℕ) (bytes : List ℕ) : Type 0 where
  pub batches : List (List Event)
  pub last : List Event
  pub rest : List ℕ
  pub begins : BeginWith limits.body bytes (batches ++ last ∷ []) rest
  pub within : length (journal_events batches) ≤ limits.events
  pub above : limits.events < count
  pub counted : count ≡ length (journal_events (batches ++ last ∷ []))
