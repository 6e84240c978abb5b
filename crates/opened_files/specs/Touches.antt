-- At most how often walkers are touched by a command, where the shelf tells its files.
use Rattle.std.specs.Prelude.{◌≤◌, ⊤, ℕ, ◌+◌, List, [], Option, None, Some}
use Rattle.std.specs.FinMap.{get}
use Rattle.ew_model.specs.declared.event.Event.{Event}
use Rattle.ew_model.specs.Ancestors.{version_events}
use Rattle.file_words.specs.FileFaults.{FileFinding}
use Rattle.file_words.specs.FileFaults.FileFinding.{IsFile}
use Rattle.file_words.specs.FileVersions.{file_found}
use Rattle.ew_model.specs.Limits.{LimitNumbers, most_file_bytes}
use Rattle.ew_model.specs.Rounds.{most_touches}
use Rattle.ew_model.specs.Touches.{touches}
use Rattle.blame_definitions.specs.Blame.{blame_touches}
use Rattle.ew_outside.specs.Files.{Files}
use Rattle.peer_definitions.specs.Touches.{made_touches}
use Rattle.command_table.specs.Loads.{File, missing, too_long, whole, whole_of}
use Rattle.command_table.specs.Table.{Text, Command, create, edit, show, merge, upgrade, undo, make, net, Listing, past, replay, caret, blame, Opened, opened, refused, open_file}

-- a file that is found is walked over from its start, also where one of its events isn't good
abbrev pub found_touches : FileFinding → ℕ
found_touches (IsFile events) = touches events 0
found_touches finding = 0

-- those of loading a file
abbrev pub load_touches : LimitNumbers → File → ℕ
load_touches limits missing = 0
load_touches limits too_long = 0
load_touches limits (whole bytes) = found_touches (file_found limits.events bytes)

-- those of loading the file of a name
abbrev pub file_touches : Text → LimitNumbers → Files → ℕ
file_touches name limits files = load_touches limits (whole_of (most_file_bytes limits.events) (get files name))

-- none behind a file that is refused
abbrev pub touches_over : (List Event → ℕ) → Opened → ℕ
touches_over count (opened events) = count events
touches_over count (refused why) = 0

-- A past text and a blame are walked over their version's events, and a replay over all; a caret over those of its version, and over all.
abbrev pub listing_touches : Listing → List Event → ℕ
listing_touches (past version) events = touches (version_events events version) 0
listing_touches replay events = touches events 0
listing_touches (caret version index) events = touches (version_events events version) 0 + touches events 0
listing_touches (blame version columns) events = blame_touches events version
listing_touches listing events = 0

-- those of merging another file into events: of loading it, and of receiving what it holds
abbrev pub merge_touches : Text → LimitNumbers → Files → List Event → ℕ
merge_touches other limits files events = file_touches other limits files + touches_over (most_touches limits events []) (open_file other limits files)

-- where the files are told, the steps rose by no more
abbrev pub TouchesAtMost : (Files → ℕ) → Option Files → ℕ → ℕ → Type 0
TouchesAtMost most (Some files) before now = now ≤ before + most files
TouchesAtMost most None before now = ⊤

-- A run of a command takes no more: an edit and an upgrade walk nothing but the load, an undo walks over all events once more, and of
-- a net no number is claimed.
abbrev pub CommandTakes : Command → LimitNumbers → Option Files → ℕ → ℕ → Type 0
CommandTakes (create name) limits files before now = now ≤ before
CommandTakes (edit name agent) limits files before now = TouchesAtMost (file_touches name limits) files before now
CommandTakes (show listing name) limits files before now =
    TouchesAtMost (λ m. file_touches name limits m + touches_over (listing_touches listing) (open_file name limits m)) files before now
CommandTakes (merge name other) limits files before now =
    TouchesAtMost (λ m. file_touches name limits m + touches_over (merge_touches other limits m) (open_file name limits m)) files before now
CommandTakes (upgrade name) limits files before now = TouchesAtMost (file_touches name limits) files before now
CommandTakes (undo name agent first count) limits files before now =
    TouchesAtMost (λ m. file_touches name limits m + touches_over (λ events. touches events 0) (open_file name limits m)) files before now
CommandTakes (make seed count) limits files before now = now ≤ before + made_touches limits seed count
CommandTakes net limits files before now = ⊤
