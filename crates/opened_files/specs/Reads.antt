-- Files as they are read, before their events are judged.
use Rattle.std.specs.Prelude.{◌≡◌, List, ℕ, slice_index}
use Rattle.file_words.specs.FileVersions.{file_found}
use Rattle.ew_model.specs.Limits.{LimitNumbers}
use Rattle.command_table.specs.Loads.{File, whole}
use Rattle.command_table.specs.Table.{Text, opened_as, read_as, refused}
use Rattle.command_table.specs.Refusals.{refusal_status}
use Rattle.command_texts.specs.Reasons.{refusal_view}
use Rattle.stored_histories.specs.Giving.{HoldsFile}
use Rattle.opened_files.specs.Views.{IsFileStatus, IsRefusal}
use Rattle.opened_files.specs.declared.open.FileEvents.{FileEvents}
use Rattle.opened_files.specs.declared.open.Found.{Found}
use Rattle.opened_files.specs.declared.open.Found.TheVariants as found

-- the events of a file were given within these limits, and its bytes name the version; or it is refused for what these are found to be
abbrev pub IsReadAs : Text → LimitNumbers → List ℕ → Found FileEvents → Type 0
IsReadAs name limits bytes (found.Open file) = HoldsFile (file_found limits.events bytes) file.given × (file.given.limits ≡ limits) × (file.version ≡ slice_index bytes 7)
IsReadAs name limits bytes (found.Refused why) =
    (read_as name limits (file_found limits.events bytes) ≡ refused (refusal_view why)) × IsFileStatus (refusal_status (refusal_view why))

-- the same of what the shelf has for the name
abbrev pub IsLoadedAs : Text → LimitNumbers → File → Found FileEvents → Type 0
IsLoadedAs name limits file (found.Open read) = (bytes : List ℕ) × (file ≡ whole bytes) × IsReadAs name limits bytes (found.Open read)
IsLoadedAs name limits file (found.Refused why) = (opened_as name limits file ≡ refused (refusal_view why)) × IsRefusal (refusal_status (refusal_view why))
