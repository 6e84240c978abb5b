-- What bytes are, whichever version of the event file they are of.
use Rattle.std.specs.Prelude.{ℕ, ◌-◌, Bool, not, ◌||◌, List, length, take, drop, Option, if◌then◌else◌, nat_lt, nat_eq, ◌==◌, slice_get, slice_index, codes}
use Rattle.std.specs.Cmp.Lexicographic.{pointwise}
use Rattle.sha2.specs.Sha256.{sha256}
use Rattle.ew_model.specs.declared.event.Event.{Event}
use Rattle.file_words.specs.FileFaults.{Reader, FileFinding, finding_of, read_events}
use Rattle.file_words.specs.FileFaults.FileFinding.{Short, BadMagic, BadVersion, BadDigest}
use Rattle.file_words.specs.FileRuns.{read_run_events}

-- the version that bytes name, if they reach so far
abbrev pub version_of : List ℕ → Option ℕ
version_of bytes = slice_get bytes 7

-- a version that is read
abbrev pub is_version : ℕ → Bool
is_version version = version == 1 || version == 2

-- at most so many events, as the version writes them
abbrev pub read_of_version : ℕ → ℕ → Reader (List Event)
read_of_version version most = if version == 1 then read_events most else read_run_events most

-- the digest is that of the bytes before it, and these say which events
unfoldable pub content_found : ℕ → ℕ → List ℕ → List ℕ → FileFinding
content_found version most content digest =
    if pointwise nat_eq digest (sha256 content)
    then finding_of (length content) (read_of_version version most (drop 8 content))
    else BadDigest digest (sha256 content)

-- the events of which the bytes are the file, of either version, or the first fault
unfoldable pub file_found : ℕ → List ℕ → FileFinding
file_found most bytes =
    let end = length bytes - 32 in
    if nat_lt (length bytes) 48 then Short (length bytes)
    else if not (pointwise nat_eq (take 7 bytes) (codes "EGWFILE")) then BadMagic
    else if not (is_version (slice_index bytes 7)) then BadVersion (slice_index bytes 7)
    else content_found (slice_index bytes 7) most (take end bytes) (drop end bytes)
