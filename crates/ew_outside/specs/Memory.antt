-- What the parts of the forms in memory are seen as.
use Rattle.std.specs.Prelude.{◌≡◌, ℕ, List, Bool, if◌then◌else◌, Result, Ok, Err}
use Rattle.std.specs.FinMap.{insert}
use Rattle.ew_outside.specs.Counts.{next}
use Rattle.ew_outside.specs.Files.{Files}
use Rattle.ew_outside.specs.declared.fault.ShelfFault.{ShelfFault}
use Rattle.ew_outside.specs.declared.fault.ShelfFault.TheVariants.{Failed, OutOfMemory}

-- the numbers of the calls that are to fail, how many calls were made, which is the next one's number, and how many failed
pub record Schedule : Type 0 where
  pub failing : List ℕ
  pub made : ℕ
  pub faults : ℕ

-- the schedule after one more call, which failed or not
abbrev pub after_call : Schedule → Bool → Schedule
after_call s failed = record {
  failing = s.failing;
  made = next s.made;
  faults = if failed then next s.faults else s.faults;
}

-- the bytes taken, how many of them are flushed, and for how many there is room in all
pub record Intake : Type 0 where
  pub taken : List ℕ
  pub flushed : ℕ
  pub room : ℕ

-- a store in memory fails where it is to fail, and then its bytes land exactly where they are to land; for want of memory nothing lands
abbrev pub StoresAsPlanned : {T : Type 0} → Type 0 → Type 0 → Files → Files → List ℕ → List ℕ → Result T ShelfFault → Type 0
StoresAsPlanned fails lands old new name bytes (Ok _) = ¬ fails
StoresAsPlanned fails lands old new name bytes (Err Failed) = fails × (lands → new ≡ insert old name bytes) × (¬ lands → new ≡ old)
StoresAsPlanned fails lands old new name bytes (Err OutOfMemory) = fails → lands
