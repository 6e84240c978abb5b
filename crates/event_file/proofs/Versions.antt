-- What is read of a file of either version, its start first.
use Rattle.std.proofs.Common.{◌≡◌, ℕ, Bool, true, false, cond, List, [], None, Result, Ok, Err, refl, sym, ap, ◌∙◌}
use Rattle.std.specs.Prelude.{nat_lt, nat_eq}
use Rattle.ew_model.specs.declared.event.Event.{Event}
use Rattle.file_words.specs.FileFaults as model
use Rattle.file_words.specs.FileFaults.{Reader, done, stops, go_on, ◌>>=◌, number, read_names, read_records, read_end, read_events, finding_of}
use Rattle.file_words.specs.FileRuns.{read_runs, read_run_events}
use Rattle.file_words.specs.FileVersions.{read_of_version}
use Rattle.event_file.specs.declared.fault.Stop.{Stop}
use Rattle.event_file.specs.declared.fault.Stop.TheVariants.{Field, OverLimit, OutOfMemory}
use Rattle.event_file.specs.Reading.{Stops}
use Rattle.event_file.specs.Versions.{read_start, records_of}

abbrev limited : ℕ → (List (List ℕ) → ℕ → Reader (List Event)) → List (List ℕ) → Reader (List Event)
limited most next agents = number >>= (λ count. cond (nat_lt most count) (stops (model.OverLimit count)) (next agents count))

abbrev start : ℕ → List (List ℕ) → Reader (List (List ℕ) × ℕ)
start most agents = number >>= (λ count. cond (nat_lt most count) (stops (model.OverLimit count)) (done (agents, count)))

in_two : (most : ℕ) (next : List (List ℕ) → ℕ → Reader (List Event)) (r : Result (List (List ℕ) × List ℕ) model.Stop) → go_on r (limited most next) ≡ go_on (go_on r (start most)) (λ s. next s.0 s.1)
in_two most next (Err why) = refl
in_two most next (Ok found) = counted (number found.1)
  where
    below : (b : Bool) (count : ℕ) (left : List ℕ) → (cond b (stops (model.OverLimit count)) (next found.0 count)) left ≡ go_on {A = List (List ℕ) × ℕ} ((cond b (stops (model.OverLimit count)) (done (found.0, count))) left) (λ s. next s.0 s.1)
    below true count left = refl
    below false count left = refl

    counted : (n : Result (ℕ × List ℕ) model.Stop) → go_on n (λ count. cond (nat_lt most count) (stops (model.OverLimit count)) (next found.0 count)) ≡ go_on {A = List (List ℕ) × ℕ} (go_on n (λ count. cond (nat_lt most count) (stops (model.OverLimit count)) (done (found.0, count)))) (λ s. next s.0 s.1)
    counted (Err why) = refl
    counted (Ok m) = below (nat_lt most m.0) m.0 m.1

-- the start is read, and then the records
version_at : (b : Bool) (most : ℕ) (bytes : List ℕ) → (cond b (read_events most) (read_run_events most)) bytes ≡ go_on (read_start most bytes) (λ s. (cond b (read_records s.0 [] s.1) (read_runs s.0 [] None s.1 s.1)) >>= read_end s.0)
unfolding read_events read_run_events
version_at true most bytes = in_two most (λ agents count. read_records agents [] count >>= read_end agents) ((number >>= read_names []) bytes)
version_at false most bytes = in_two most (λ agents count. read_runs agents [] None count count >>= read_end agents) ((number >>= read_names []) bytes)

version_start : (version most : ℕ) (bytes : List ℕ) → read_of_version version most bytes ≡ go_on (read_start most bytes) (λ s. records_of version s.0 s.1)
version_start version most bytes = version_at (nat_eq version 1) most bytes

pub stops_start : (stop : Stop) (version most : ℕ) (bytes : List ℕ) → Stops stop (read_start most bytes) → Stops stop (read_of_version version most bytes)
stops_start OutOfMemory version most bytes h = tt
stops_start (Field left kind) version most bytes h = version_start version most bytes ∙ ap (λ r. go_on r (λ s. records_of version s.0 s.1)) h
stops_start (OverLimit count) version most bytes h = version_start version most bytes ∙ ap (λ r. go_on r (λ s. records_of version s.0 s.1)) h

pub start_found : (version most len count : ℕ) (bytes left : List ℕ) (agents : List (List ℕ)) → read_start most bytes ≡ Ok ((agents, count), left) → finding_of len (records_of version agents count left) ≡ finding_of len (read_of_version version most bytes)
start_found version most len count bytes left agents one = ap (finding_of len) (sym (version_start version most bytes ∙ ap (λ r. go_on r (λ s. records_of version s.0 s.1)) one))
