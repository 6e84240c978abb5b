-- What the reading of a file promises, whichever version it is of.
use Rattle.std.specs.Prelude.{◌≡◌, ◌⊎◌, ℕ, ◌≤◌, ◌↔◌, false, List, length, ◌==◌, slice_index}
use Rattle.ew_model.specs.declared.event.Event.{Event}
use Rattle.ew_model.specs.Sound.{AreSound}
use Rattle.ew_model.specs.Bytes.{AreBytes}
use Rattle.ew_model.specs.Writable.{IsWritable}
use Rattle.ew_model.specs.Limits.{most_file_bytes}
use Rattle.file_words.specs.FileFaults.{file_finding}
use Rattle.file_words.specs.FileFaults.FileFinding.{IsFile}
use Rattle.file_words.specs.FileLaws.{IsFileOf}
use Rattle.file_words.specs.FileRuns.{file2_of}
use Rattle.file_words.specs.FileVersions.{file_found}

-- the bytes are the one file in runs of these events, and there are at most so many
pub record IsRunFileOf (most : ℕ) (events : List Event) (bytes : List ℕ) : Type 0 where
  pub spelled : bytes ≡ file2_of events
  pub sound : AreSound events
  pub writable : IsWritable events
  pub few : length events ≤ most

-- Events are read from bytes exactly where the bytes are one of their two files.
abbrev pub BothVersionsAreRead : Type 0
BothVersionsAreRead = (most : ℕ) (bytes : List ℕ) (events : List Event) → AreBytes bytes
    → (file_found most bytes ≡ IsFile events) ↔ (IsFileOf most events bytes ⊎ IsRunFileOf most events bytes)

-- A file in runs is that of one list of events.
abbrev pub RunFilesDiffer : Type 0
RunFilesDiffer = (xs ys : List Event) → AreSound xs → AreSound ys → IsWritable xs → IsWritable ys → file2_of xs ≡ file2_of ys → xs ≡ ys

-- Of bytes that don't name version 2 it is found what is found where version 1 is the only one.
abbrev pub VersionOneStays : Type 0
VersionOneStays = (most : ℕ) (bytes : List ℕ) → (slice_index bytes 7 == 2) ≡ false → file_found most bytes ≡ file_finding most bytes

-- A file in runs has no more bytes than files of so many events may have.
abbrev pub RunFilesAreShort : Type 0
RunFilesAreShort = (events : List Event) → AreSound events → IsWritable events → length (file2_of events) ≤ most_file_bytes (length events)
