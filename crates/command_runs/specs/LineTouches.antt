-- At most how often walkers are touched by a run of a line.
use Rattle.std.specs.Prelude.{◌≤◌, ℕ, List, Option, Some, None}
use Rattle.ew_model.specs.Limits.{LimitNumbers}
use Rattle.ew_outside.specs.Files.{Files}
use Rattle.command_table.specs.Table.{Line, does, serves, watches, exports}
use Rattle.journal_plans.specs.Opening.{JournalTakes}
use Rattle.opened_files.specs.Touches.{CommandTakes}
use Rattle.serve_plans.specs.SessionTouches.{SessionTakes}

-- where the files or the journal are told, and for a session the input too, a run of the line takes no more
abbrev pub LineTakes : Option Line → LimitNumbers → Option Files → Option (List ℕ) → Option (List ℕ) → ℕ → ℕ → Type 0
LineTakes (Some (serves name)) limits files journal left before now = SessionTakes name limits files left before now
LineTakes (Some (watches agent)) limits files journal left before now = JournalTakes limits journal before now
LineTakes (Some (exports name)) limits files journal left before now = JournalTakes limits journal before now
LineTakes (Some (does command)) limits files journal left before now = CommandTakes command limits files before now
LineTakes None limits files journal left before now = now ≤ before
