-- What becomes of the count of faults where one call of the system follows another.
use Rattle.std.specs.Prelude.{◌≡◌, ℕ, Result, Ok, Err}
use Rattle.ew_outside.specs.Counts.{CountsFaults}
use Rattle.ew_outside.specs.declared.fault.ShelfFault.{ShelfFault}

-- a call of a shelf counts its own faults; where the one before it was refused, it makes no call any more
abbrev pub CountsThen : {S T : Type 0} → Result S ShelfFault → ℕ → ℕ → Result T ShelfFault → Type 0
CountsThen (Ok _) before now result = CountsFaults before now result
CountsThen (Err _) before now result = now ≡ before
