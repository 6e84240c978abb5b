-- What receiving takes in a merge.
use Rattle.std.specs.Prelude.{◌≡◌, ℕ, List, [], length, drop}
use Rattle.ew_model.specs.declared.event.Event.{Event}
use Rattle.ew_model.specs.Cuts.{latest_cut}
use Rattle.ew_model.specs.Limits.{LimitNumbers, AreLimits}
use Rattle.ew_model.specs.Rounds.{most_touches}
use Rattle.ew_model.specs.Touches.{touches}
use Rattle.ew_outside.specs.Files.{Files}
use Rattle.table_laws.specs.MergeLaws.{HoldsBytes, command_answer}
use Rattle.command_table.specs.Scripts.{Reading}
use Rattle.command_table.specs.Table.{Text, merge, open_file, opened}

-- Where a merge is done, receiving takes the touches of the events behind the latest critical cut that isn't above the file's old
-- number of events, as if none had come before them.
abbrev pub MergesSpare : Type 0
MergesSpare = (limits : LimitNumbers) (files : Files) (input : List ℕ) (reading : Reading) (name other : Text)
    → AreLimits limits → HoldsBytes files name → HoldsBytes files other
    → let there = command_answer (merge name other) limits files input reading in
    there.status ≡ 0
    → (events others now : List Event) × (open_file name limits files ≡ opened events) × (open_file other limits files ≡ opened others)
    × (open_file name limits there.files ≡ opened now) × (most_touches limits events [] others ≡ touches (drop (latest_cut now (length events)) now) 0)
