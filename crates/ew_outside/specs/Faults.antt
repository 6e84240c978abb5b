-- Why a run stops.
use Rattle.ew_outside.specs.declared.fault.ShelfFault.{ShelfFault}
use Rattle.ew_outside.specs.declared.fault.ShelfFault.TheVariants as shelf_fault
use Rattle.ew_outside.specs.declared.fault.Fault.{Fault}
use Rattle.ew_outside.specs.declared.fault.Fault.TheVariants as fault

-- what a shelf's fault stops a run by
abbrev pub fault_of : ShelfFault → Fault
fault_of shelf_fault.Failed = fault.Shelf
fault_of shelf_fault.OutOfMemory = fault.OutOfMemory
