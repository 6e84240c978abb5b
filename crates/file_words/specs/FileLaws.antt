-- What the reading of a file of version 1 promises.
use Rattle.std.specs.Prelude.{◌≡◌, ℕ, ◌≤◌, ◌↔◌, List, length}
use Rattle.ew_model.specs.declared.event.Event.{Event}
use Rattle.ew_model.specs.Sound.{AreSound}
use Rattle.ew_model.specs.Bytes.{AreBytes}
use Rattle.ew_model.specs.Writable.{IsWritable}
use Rattle.file_words.specs.File.{file_of}
use Rattle.file_words.specs.FileFaults.{file_finding}
use Rattle.file_words.specs.FileFaults.FileFinding.{IsFile}

-- the bytes are the one file of version 1 of these events, and there are at most so many
pub record IsFileOf (most : ℕ) (events : List Event) (bytes : List ℕ) : Type 0 where
  pub spelled : bytes ≡ file_of events
  pub sound : AreSound events
  pub writable : IsWritable events
  pub few : length events ≤ most

-- Where version 1 is the only one, events are read from bytes exactly where the bytes are their file.
abbrev pub FilesAreRead : Type 0
FilesAreRead = (most : ℕ) (bytes : List ℕ) (events : List Event) → AreBytes bytes
    → (file_finding most bytes ≡ IsFile events) ↔ IsFileOf most events bytes

-- A file of version 1 is that of one list of events.
abbrev pub FilesDiffer : Type 0
FilesDiffer = (xs ys : List Event) → AreSound xs → AreSound ys → IsWritable xs → IsWritable ys → file_of xs ≡ file_of ys → xs ≡ ys
