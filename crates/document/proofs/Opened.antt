-- Documents of files, and why there are none.
use Rattle.std.proofs.Common.{◌≡◌, ◌⊎◌, ◌∙◌, ℕ, List, [], None, Result, Ok, Err, OnOk, OnErr, sym, ap, subst}
use Rattle.ew_model.specs.declared.event.Event.{Event}
use Rattle.ew_model.specs.Bytes.{AreBytes}
use Rattle.ew_model.specs.Kept.{ReplicaState}
use Rattle.ew_model.specs.Limits.{LimitNumbers, program_limits}
use Rattle.ew_model.specs.Verdicts.{first_bad}
use Rattle.file_words.specs.FileLaws.{IsFileOf}
use Rattle.file_words.specs.FileVersionLaws.{IsRunFileOf}
use Rattle.file_words.specs.FileVersions.{file_found}
use Rattle.file_words.proofs.VersionReading.{both_versions_read}
use Rattle.stored_histories.specs.Giving.{HoldsFile}
use Rattle.replica.specs.Answers.{Loads}
use Rattle.replica.specs.Giving.{Given, WereGiven}
use Rattle.replica.specs.declared.fault.LoadFault.{LoadFault}
use Rattle.document.specs.declared.fault.OpeningFault.TheVariants as opening
use Rattle.document.specs.Documents.{Opens, RefusesFile}

-- the events that were given are those of the file
given_file : (file : List ℕ) (given : Given) → AreBytes file → (holds : HoldsFile (file_found program_limits.events file) given) → IsFileOf program_limits.events holds.0 file ⊎ IsRunFileOf program_limits.events holds.0 file
given_file file given bytes holds = (both_versions_read program_limits.events file holds.0 bytes).0 holds.1

-- a replica of the events that were given is the document of the file
pub opened : (file : List ℕ) (given : Given) (r : ReplicaState) → AreBytes file → HoldsFile (file_found program_limits.events file) given → given.limits ≡ program_limits
    → ((events : List Event) → WereGiven events given → Loads events given.limits (Ok r)) → Opens file r
opened file given r bytes holds limits loads =
    let is = loads holds.0 holds.2 in
    let state : r ≡ record { limits = program_limits; held = holds.0; waiting = [] } = is.1 ∙ ap (λ (l : LimitNumbers). record { limits = l; held = holds.0; waiting = [] }) limits in
    let held : holds.0 ≡ r.held = sym (ap (λ (s : ReplicaState). s.held) state) in
    record {
      file_of = subst (λ (events : List Event). IsFileOf program_limits.events events file ⊎ IsRunFileOf program_limits.events events file) held (given_file file given bytes holds);
      good = subst (λ (events : List Event). first_bad events ≡ None) held is.0;
      fresh = state ∙ ap (λ (events : List Event). record { limits = program_limits; held = events; waiting = [] }) held;
    }

-- where one of them is bad there is no document
pub refused : (file : List ℕ) (given : Given) (fault : LoadFault) → AreBytes file → HoldsFile (file_found program_limits.events file) given
    → ((events : List Event) → WereGiven events given → Loads events given.limits (Err fault)) → RefusesFile file (opening.Load fault)
refused file given fault bytes holds loads = (holds.0, given_file file given bytes holds, loads holds.0 holds.2)

-- what holds either way
pub either : {T E : Type 0} (P : Type 0) (r : Result T E) → OnOk r P → OnErr r P → P
either P (Ok x) ok err = ok
either P (Err e) ok err = err
