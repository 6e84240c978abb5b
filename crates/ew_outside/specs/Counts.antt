-- Counts of faults, misses, loads, stores and ends. A count never falls, and at the last value of 64 bits it stands still.
use Rattle.std.specs.Prelude.{◌≡◌, ℕ, ◌+◌, ◌-◌, ◌^◌, ◌<◌, ◌≤◌, ◌⊎◌, min, max, Bool, true, false, Option, None, Some, Result, Ok, Err}
use Rattle.ew_outside.specs.declared.fault.ShelfFault.{ShelfFault}
use Rattle.ew_outside.specs.declared.fault.ShelfFault.TheVariants.{Failed, OutOfMemory}

-- one more, up to the last value
abbrev pub next : ℕ → ℕ
next n = min (n + 1) (2 ^ 64 - 1)

-- the count rose, or stands at its last value
abbrev pub Rose : ℕ → ℕ → Type 0
Rose before now = next before ≤ now

-- the count rose, or stands at its last value; it never fell
abbrev pub Rises : ℕ → ℕ → Type 0
Rises before now = (before ≤ now) × Rose before now

-- the count is as before, or rose by one
abbrev pub RisesOnceAtMost : ℕ → ℕ → Type 0
RisesOnceAtMost before now = (now ≡ before) ⊎ (now ≡ next before)

-- the count didn't rise, and would have shown it
abbrev pub IsQuiet : ℕ → ℕ → Type 0
IsQuiet before now = (now ≡ before) × (now < 2 ^ 64 - 1)

-- what a call of a source or a sink does to the count of faults: it rises where the call failed, and only there
abbrev pub Counts : {T E : Type 0} → ℕ → ℕ → Result T E → Type 0
Counts before now (Ok _) = now ≡ before
Counts before now (Err _) = (before ≤ now) × Rose before now

-- the same of a call of a shelf, whose want of memory is no fault
abbrev pub CountsFaults : {T : Type 0} → ℕ → ℕ → Result T ShelfFault → Type 0
CountsFaults before now (Ok _) = now ≡ before
CountsFaults before now (Err Failed) = (before ≤ now) × Rose before now
CountsFaults before now (Err OutOfMemory) = now ≡ before

-- what a load does to the count of misses: it rises where nothing was found, and only there
abbrev pub CountsMisses : {T E : Type 0} → ℕ → ℕ → Result (Option T) E → Type 0
CountsMisses before now (Ok None) = (before ≤ now) × Rose before now
CountsMisses before now (Ok (Some _)) = now ≡ before
CountsMisses before now (Err _) = now ≡ before

-- what a store does to the count of stores: it rises, but where memory ran out, so that nothing was stored
abbrev pub CountsStores : {T : Type 0} → ℕ → ℕ → Result T ShelfFault → Type 0
CountsStores before now (Ok _) = now ≡ next before
CountsStores before now (Err Failed) = now ≡ next before
CountsStores before now (Err OutOfMemory) = now ≡ before

-- what a load does to the greatest bound that was asked for so far
abbrev pub Asks : ℕ → ℕ → ℕ → Type 0
Asks bound before now = now ≡ max bound before

-- no more was asked for than this, or than before
abbrev pub AsksAtMost : ℕ → ℕ → ℕ → Type 0
AsksAtMost bound before now = now ≤ max bound before

-- the count of ends rises where a buffer with room got no byte, and only there
abbrev pub EndsAfter : ℕ → ℕ → ℕ → ℕ → Type 0
EndsAfter room n before now = (n ≡ 0 → 0 < room → now ≡ next before) × (0 < n → now ≡ before) × (room ≡ 0 → now ≡ before)

-- what a read of a buffer with so much room does to the count of ends
abbrev pub CountsEnds : {E : Type 0} → ℕ → ℕ → ℕ → Result ℕ E → Type 0
CountsEnds room before now (Ok n) = EndsAfter room n before now
CountsEnds room before now (Err _) = now ≡ before

-- the shelf failed, by more than want of memory
abbrev pub is_failed : {T : Type 0} → Result T ShelfFault → Bool
is_failed (Ok _) = false
is_failed (Err Failed) = true
is_failed (Err OutOfMemory) = false
