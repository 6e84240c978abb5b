-- What is found of bytes is the events whose file they are.
use Rattle.std.proofs.Common.{◌≡◌, ◌⊎◌, ℕ, List, Result, Ok, Err, sym, ◌∙◌}
use Rattle.std.specs.Prelude.{IfOk, MatchResult}
use Rattle.std.specs.Global.{Vec}
use Rattle.ew_model.specs.declared.event.Event.{Event}
use Rattle.file_words.specs.FileFaults as model
use Rattle.file_words.specs.FileFaults.{FileFinding}
use Rattle.file_words.specs.FileVersionLaws.{IsRunFileOf}
use Rattle.file_words.specs.FileVersions.{file_found}
use Rattle.ew_model.specs.Bytes.{AreBytes}
use Rattle.file_words.specs.FileLaws.{IsFileOf}
use Rattle.file_words.proofs.VersionReading.{both_versions_read}
use Rattle.event_file.specs.declared.fault.FileFault.{FileFault}
use Rattle.event_file.specs.declared.fault.FileFault.TheVariants.{Short, BadMagic, BadVersion, BadDigest, BadRecord, TooMany, OutOfMemory}
use Rattle.event_file.specs.Faults.{IsFault, IsFound}

pub found_file : (most : ℕ) (bytes : List ℕ) (r : Result (Vec Event) FileFault) → AreBytes bytes → IsFound r (file_found most bytes) → IfOk r (λ events. IsFileOf most events.items bytes ⊎ IsRunFileOf most events.items bytes)
found_file most bytes (Ok read) fits found = (both_versions_read most bytes read.items fits).0 found
found_file most bytes (Err fault) fits found = tt

-- a file has no fault
memory_alone : (fault : FileFault) (found : FileFinding) (events : List Event) → found ≡ model.IsFile events → IsFault fault found → fault ≡ OutOfMemory
memory_alone OutOfMemory found events is h = cc
memory_alone (Short len) found events is h = absurd cc
memory_alone BadMagic found events is h = absurd cc
memory_alone (BadVersion version) found events is h = absurd cc
memory_alone (BadDigest stored other) found events is h = absurd cc
memory_alone (BadRecord offset kind) found events is h = absurd cc
memory_alone (TooMany count) found events is h = absurd cc

same_events : (xs ys : List Event) → model.IsFile xs ≡ model.IsFile ys → xs ≡ ys
same_events xs ys e = cc

pub only_found : (most : ℕ) (bytes : List ℕ) (events : List Event) (r : Result (Vec Event) FileFault) → AreBytes bytes → IsFound r (file_found most bytes) → IsFileOf most events bytes ⊎ IsRunFileOf most events bytes → MatchResult r (λ read. read.items ≡ events) (λ fault. fault ≡ OutOfMemory)
only_found most bytes events r fits found f = at r found
  where
    is : file_found most bytes ≡ model.IsFile events
    is = (both_versions_read most bytes events fits).1 f

    at : (s : Result (Vec Event) FileFault) → IsFound s (file_found most bytes) → MatchResult s (λ read. read.items ≡ events) (λ fault. fault ≡ OutOfMemory)
    at (Ok read) h = same_events read.items events (sym h ∙ is)
    at (Err fault) h = memory_alone fault (file_found most bytes) events is h
