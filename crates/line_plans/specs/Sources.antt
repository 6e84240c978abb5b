-- What a command that reads its input answers and leaves.
use Rattle.std.specs.Prelude.{◌≡◌, ⊤, ℕ, List, [], Option, Some, Result, Ok, Err}
use Rattle.ew_outside.specs.Files.{Files}
use Rattle.ew_outside.specs.Counts.{Rises}
use Rattle.ew_outside.specs.Seen.{SourceSeen}
use Rattle.command_table.specs.Reads.{LeavesInput}
use Rattle.command_table.specs.Table.{Reply}
use Rattle.opened_files.specs.declared.reply.Reply as code
use Rattle.ew_outside.specs.declared.fault.Fault.{Fault}
use Rattle.ew_outside.specs.declared.fault.Fault.TheVariants as fault_is
use Rattle.opened_files.specs.Views.{reply_view, reply_status}

-- which count moved of a step that reaches the source alone
abbrev pub SourceCauses : {T : Type 0} → ℕ → ℕ → Result T Fault → Type 0
SourceCauses before now (Ok _) = now ≡ before
SourceCauses before now (Err fault_is.OutOfMemory) = now ≡ before
SourceCauses before now (Err fault_is.Shelf) = ⊥
SourceCauses before now (Err fault_is.Source) = Rises before now
SourceCauses before now (Err fault_is.Sink) = ⊥

-- which counts moved: none, but that of the object that is named
abbrev pub Causes : {T : Type 0} → ℕ → ℕ → ℕ → ℕ → Result T Fault → Type 0
Causes shelf shelf' source source' (Ok _) = (shelf' ≡ shelf) × (source' ≡ source)
Causes shelf shelf' source source' (Err fault_is.OutOfMemory) = (shelf' ≡ shelf) × (source' ≡ source)
Causes shelf shelf' source source' (Err fault_is.Shelf) = Rises shelf shelf' × (source' ≡ source)
Causes shelf shelf' source source' (Err fault_is.Source) = (shelf' ≡ shelf) × Rises source source'
Causes shelf shelf' source source' (Err fault_is.Sink) = ⊥

-- the plan is this reply, whatever the input means, where shelf and source told what they hold
abbrev pub PlansBy : {Reading : Type 0} → (List ℕ → Reading → Type 0) → (Files → List ℕ → Reading → Reply) → Option Files → Option (List ℕ) → Result code.Reply Fault → Type 0
PlansBy {Reading} Means reply (Some m) (Some input) (Ok p) = (reading : Reading) → Means input reading → reply_view p ≡ reply m input reading
PlansBy Means reply _ _ _ = ⊤

-- at status 0 nothing is left of an input that was told
abbrev pub ReadsAll : Option (List ℕ) → Option (List ℕ) → Result code.Reply Fault → Type 0
ReadsAll (Some input) new (Ok p) = reply_status p ≡ 0 → new ≡ Some []
ReadsAll _ new _ = ⊤

-- where a load failed, the input is as before
abbrev pub KeepsInput : SourceSeen → SourceSeen → Result code.Reply Fault → Type 0
KeepsInput old new (Err fault_is.Shelf) = LeavesInput old new
KeepsInput old new _ = ⊤
