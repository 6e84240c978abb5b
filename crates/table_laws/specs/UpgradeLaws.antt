-- What upgrading a file promises.
use Rattle.std.specs.Prelude.{◌≡◌, ◌⊎◌, ℕ, List, length, Some}
use Rattle.std.specs.FinMap.{get}
use Rattle.ew_model.specs.declared.event.Event.{Event}
use Rattle.ew_model.specs.Limits.{LimitNumbers, AreLimits}
use Rattle.file_words.specs.File.{file_of}
use Rattle.file_words.specs.FileRuns.{file2_of}
use Rattle.ew_outside.specs.Files.{Files}
use Rattle.command_table.specs.Scripts.{Reading}
use Rattle.command_table.specs.Table.{Text, upgrade, Answer, open_file, opened}
use Rattle.command_table.specs.Text.{upgraded_text}
use Rattle.table_laws.specs.MergeLaws.{HoldsBytes, command_answer}

-- the file was the one of these events of the version that is told, and it is the one of version 2 afterwards, and opens as before; files
-- of other names stay, and no file changes where the version was 2
pub record IsUpgraded (limits : LimitNumbers) (files : Files) (name : Text) (there : Answer) (events : List Event) (version : ℕ) : Type 0 where
  pub was : ((version ≡ 1) × (get files name ≡ Some (file_of events))) ⊎ ((version ≡ 2) × (get files name ≡ Some (file2_of events)))
  pub told : there.out ≡ upgraded_text version (length events)
  pub is : get there.files name ≡ Some (file2_of events)
  pub opened_before : open_file name limits files ≡ opened events
  pub opens : open_file name limits there.files ≡ opened events
  pub others : (other : Text) → (other ≡ name → ⊥) → get there.files other ≡ get files other
  pub same : version ≡ 2 → there.files ≡ files

-- Where an upgrade is done, its file is of version 2 afterwards, and of the events that it was of before; other files stay, and all of them where it was of version 2.
abbrev pub UpgradesKeep : Type 0
UpgradesKeep = (limits : LimitNumbers) (files : Files) (input : List ℕ) (reading : Reading) (name : Text)
    → AreLimits limits → HoldsBytes files name
    → let there = command_answer (upgrade name) limits files input reading in
    there.status ≡ 0
    → (events : List Event) × (version : ℕ) × IsUpgraded limits files name there events version
