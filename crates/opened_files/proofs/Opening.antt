-- Files that are opened by what is read of them.
use Rattle.std.proofs.Common.{◌≡◌, ◌∙◌, ℕ, zero, suc, List, [], ◌∷◌, slice_get, slice_index, Option, Some, None, IfSome, ⊎_elim, inl, inr, refl, sym, ap, subst}
use Rattle.std.specs.FinMap.{get}
use Rattle.std.specs.Prelude.{unwrap_or}
use Rattle.ew_model.specs.declared.event.Event.{Event}
use Rattle.ew_model.specs.Limits.{LimitNumbers, most_file_bytes}
use Rattle.ew_model.specs.Verdicts.{first_bad}
use Rattle.ew_outside.specs.Files.{Files}
use Rattle.command_table.specs.Loads.{File, whole, whole_of}
use Rattle.command_table.specs.Table.{Opened, Text, judged, named_version, opened_as, read_as}
use Rattle.replica.specs.Giving.{WereGiven}
use Rattle.opened_files.specs.Reads.{IsLoadedAs, IsReadAs}
use Rattle.opened_files.specs.Views.{IsOfVersion, IsVersioned, versioned_view}
use Rattle.opened_files.specs.declared.open.FileEvents.{FileEvents}
use Rattle.opened_files.specs.declared.open.Found.{Found}
use Rattle.opened_files.specs.declared.open.Found.TheVariants as found
use Rattle.opened_files.specs.declared.open.Versioned.{Versioned}

-- a number of a list, or 0 behind its end
pub number_or : (xs : List ℕ) (i : ℕ) → unwrap_or (slice_get xs i) 0 ≡ slice_index xs i
number_or [] i = refl
number_or (x ∷ xs) zero = refl
number_or (x ∷ xs) (suc i) = number_or xs i

-- bytes that were read are what the shelf has
pub loaded_whole : (name : Text) (limits : LimitNumbers) (bytes : List ℕ) (f : Found FileEvents) → IsReadAs name limits bytes f → IsLoadedAs name limits (whole bytes) f
loaded_whole name limits bytes (found.Open file) read = (bytes, refl, read)
loaded_whole name limits bytes (found.Refused why) read = (read.0, ⊎_elim (λ four. inr (inl four)) (λ seven. inr (inr (inr seven))) read.1)

-- a file whose events were given is opened by how these are judged
pub opened_given : (name : Text) (limits : LimitNumbers) (file : File) (read : FileEvents) → IsLoadedAs name limits file (found.Open read) → (o : Opened)
    → ((events : List Event) → WereGiven events read.given → o ≡ judged name events (first_bad events)) → o ≡ opened_as name limits file
opened_given name limits file read loaded o told =
    let holds = loaded.2.0 in
    told holds.0 holds.2 ∙ sym (ap (opened_as name limits) loaded.1 ∙ ap (read_as name limits) holds.1)

-- and with the version that its bytes name
pub versioned_given : (name : Text) (limits : LimitNumbers) (file : File) (read : FileEvents) → IsLoadedAs name limits file (found.Open read) → (f : Found Versioned)
    → ((events : List Event) → WereGiven events read.given → versioned_view f ≡ judged name events (first_bad events)) → IsOfVersion read.version f → IsVersioned name limits file f
versioned_given name limits file read loaded f told version = (
  opened_given name limits file read loaded (versioned_view f) told,
  subst (λ v. IsOfVersion v f) (loaded.2.2 ∙ sym (ap named_version loaded.1)) version,
)

-- where the files are told
pub versioned_told : (name : Text) (limits : LimitNumbers) (files : Option Files) (read : FileEvents) → IfSome files (λ m. IsLoadedAs name limits (whole_of (most_file_bytes limits.events) (get m name)) (found.Open read))
    → (f : Found Versioned) → ((events : List Event) → WereGiven events read.given → versioned_view f ≡ judged name events (first_bad events)) → IsOfVersion read.version f
    → IfSome files (λ m. IsVersioned name limits (whole_of (most_file_bytes limits.events) (get m name)) f)
versioned_told name limits (Some m) read loaded f told version = versioned_given name limits (whole_of (most_file_bytes limits.events) (get m name)) read loaded f told version
versioned_told name limits None read loaded f told version = tt
