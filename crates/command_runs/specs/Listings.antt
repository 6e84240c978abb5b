-- What is shown of a file that is open.
use Rattle.std.specs.Prelude.{◌≡◌, ⊤, ℕ, Result, Ok, Err}
use Rattle.std.specs.Global.{Vec}
use Rattle.replica.specs.declared.fault.VersionFault.{VersionFault}
use Rattle.replica.specs.declared.fault.VersionFault.TheVariants.{Unknown, OutOfMemory}
use Rattle.command_table.specs.Table.{Reply, prints, refuses}
use Rattle.command_table.specs.Refusals.{index_out_of_range, unknown}
use Rattle.caret_places.specs.declared.fault.CaretFault.{CaretFault}
use Rattle.caret_places.specs.declared.fault.CaretFault.TheVariants as taking
use Rattle.command_runs.specs.declared.commands.ListingFault.{ListingFault}
use Rattle.command_runs.specs.declared.commands.ListingFault.TheVariants as fault

-- the reply prints what was listed, or is refused for the id that isn't held
abbrev pub Shows : Reply → Result (Vec ℕ) VersionFault → Type 0
Shows reply (Ok text) = reply ≡ prints text.items
Shows reply (Err (Unknown id)) = reply ≡ refuses (unknown id)
Shows reply (Err OutOfMemory) = ⊤

-- the reply prints what was listed, or is refused for the reason
abbrev pub Lists : Reply → Result (Vec ℕ) ListingFault → Type 0
Lists reply (Ok text) = reply ≡ prints text.items
Lists reply (Err (fault.Unknown id)) = reply ≡ refuses (unknown id)
Lists reply (Err (fault.OutOfRange index len)) = reply ≡ refuses (index_out_of_range index len)
Lists reply (Err fault.OutOfMemory) = ⊤

-- why a caret isn't shown that was to be taken at an index
abbrev pub caret_fault : ℕ → CaretFault → ListingFault
caret_fault index (taking.Unknown id) = fault.Unknown id
caret_fault index (taking.OutOfRange len) = fault.OutOfRange index len
caret_fault index taking.OutOfMemory = fault.OutOfMemory
