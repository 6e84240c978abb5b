-- Which counts moved, by what stopped a step.
use Rattle.std.specs.Prelude.{◌≡◌, ⊤, ℕ, Result, Ok, Err}
use Rattle.ew_outside.specs.Counts.{Rises}
use Rattle.ew_outside.specs.declared.fault.Fault.TheVariants as fault_is
use Rattle.journal_plans.specs.declared.stop.Stop.{Stop}
use Rattle.journal_plans.specs.declared.stop.Stop.TheVariants as stop

-- of a step that reaches the disk alone
abbrev pub DiskCauses : {T : Type 0} → ℕ → ℕ → Result T Stop → Type 0
DiskCauses before now (Ok _) = now ≡ before
DiskCauses before now (Err stop.Disk) = Rises before now
DiskCauses before now (Err (stop.Fault fault_is.OutOfMemory)) = now ≡ before
DiskCauses before now (Err (stop.Fault fault_is.Shelf)) = ⊥
DiskCauses before now (Err (stop.Fault fault_is.Source)) = ⊥
DiskCauses before now (Err (stop.Fault fault_is.Sink)) = ⊥

-- of a step that reaches the disk and the output
abbrev pub KeepCauses : {T : Type 0} → ℕ → ℕ → ℕ → ℕ → Result T Stop → Type 0
KeepCauses disk disk' sink sink' (Ok _) = (disk' ≡ disk) × (sink' ≡ sink)
KeepCauses disk disk' sink sink' (Err stop.Disk) = Rises disk disk' × (sink' ≡ sink)
KeepCauses disk disk' sink sink' (Err (stop.Fault fault_is.OutOfMemory)) = (disk' ≡ disk) × (sink' ≡ sink)
KeepCauses disk disk' sink sink' (Err (stop.Fault fault_is.Sink)) = (disk' ≡ disk) × Rises sink sink'
KeepCauses disk disk' sink sink' (Err (stop.Fault fault_is.Shelf)) = ⊥
KeepCauses disk disk' sink sink' (Err (stop.Fault fault_is.Source)) = ⊥

-- of a watch, which reaches the source too
abbrev pub WatchCauses : {T : Type 0} → ℕ → ℕ → ℕ → ℕ → ℕ → ℕ → Result T Stop → Type 0
WatchCauses disk disk' source source' sink sink' (Ok _) = (disk' ≡ disk) × (source' ≡ source) × (sink' ≡ sink)
WatchCauses disk disk' source source' sink sink' (Err stop.Disk) = Rises disk disk' × (source' ≡ source) × (sink' ≡ sink)
WatchCauses disk disk' source source' sink sink' (Err (stop.Fault fault_is.OutOfMemory)) = (disk' ≡ disk) × (source' ≡ source) × (sink' ≡ sink)
WatchCauses disk disk' source source' sink sink' (Err (stop.Fault fault_is.Source)) = (disk' ≡ disk) × Rises source source' × (sink' ≡ sink)
WatchCauses disk disk' source source' sink sink' (Err (stop.Fault fault_is.Sink)) = (disk' ≡ disk) × (source' ≡ source) × Rises sink sink'
WatchCauses disk disk' source source' sink sink' (Err (stop.Fault fault_is.Shelf)) = ⊥

-- of an export, which reaches the shelf and the disk
abbrev pub ExportCauses : {T : Type 0} → ℕ → ℕ → ℕ → ℕ → Result T Stop → Type 0
ExportCauses shelf shelf' disk disk' (Ok _) = (shelf' ≡ shelf) × (disk' ≡ disk)
ExportCauses shelf shelf' disk disk' (Err stop.Disk) = (shelf' ≡ shelf) × Rises disk disk'
ExportCauses shelf shelf' disk disk' (Err (stop.Fault fault_is.OutOfMemory)) = (shelf' ≡ shelf) × (disk' ≡ disk)
ExportCauses shelf shelf' disk disk' (Err (stop.Fault fault_is.Shelf)) = Rises shelf shelf' × (disk' ≡ disk)
ExportCauses shelf shelf' disk disk' (Err (stop.Fault fault_is.Source)) = ⊥
ExportCauses shelf shelf' disk disk' (Err (stop.Fault fault_is.Sink)) = ⊥

-- a load failed exactly where the shelf did
abbrev pub FailedLoadsOf : {T : Type 0} → ℕ → ℕ → Result T Stop → Type 0
FailedLoadsOf before now (Err (stop.Fault fault_is.Shelf)) = Rises before now
FailedLoadsOf before now result = now ≡ before

-- the shelf failed
abbrev pub IsOfShelf : {T : Type 0} → Result T Stop → Type 0
IsOfShelf (Err (stop.Fault fault_is.Shelf)) = ⊤
IsOfShelf result = ⊥
