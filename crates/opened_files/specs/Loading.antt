-- What a load of a file whole answers.
use Rattle.std.specs.Prelude.{◌≡◌, ◌≤◌, ℕ, Result, Ok, Err}
use Rattle.ew_outside.specs.declared.fault.ShelfFault.{ShelfFault}
use Rattle.ew_outside.specs.Counts.{Rose}
use Rattle.command_table.specs.Loads.{File, missing, too_long, whole}
use Rattle.opened_files.specs.declared.load.Loaded.{Loaded}
use Rattle.opened_files.specs.declared.load.Loaded.TheVariants as loaded

-- the file that was found
abbrev pub loaded_view : Loaded → File
loaded_view loaded.Missing = missing
loaded_view loaded.TooLong = too_long
loaded_view (loaded.Whole bytes) = whole bytes.items

-- the count of misses rises exactly where the file is missing
abbrev pub LoadMisses : ℕ → ℕ → Result Loaded ShelfFault → Type 0
LoadMisses before now (Ok loaded.Missing) = (before ≤ now) × Rose before now
LoadMisses before now (Ok _) = now ≡ before
LoadMisses before now (Err _) = now ≡ before
