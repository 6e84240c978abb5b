-- No file in runs has more bytes than a file of so many events may have.
use Rattle.std.proofs.Common.{◌≡◌, ℕ, ◌*◌, ◌≤◌, Bool, true, false, cond, List, [], ◌∷◌, ◌++◌, length, fold, flat_map, Option, Some, None, sym, ap, subst, ◌∙◌, arith}
use Rattle.std.specs.List.{list_any, position_or_len, AllByRecursion}
use Rattle.std.proofs.lemmas.Bool.{leb-true}
use Rattle.std.proofs.lemmas.List.{length-append}
use Rattle.sha2.specs.Sha256.{sha256}
use Rattle.sha2.proofs.Facts256.{length-sha256}
use Rattle.ew_model.specs.declared.id.Id.{Id}
use Rattle.ew_model.specs.declared.event.Event.{Event}
use Rattle.ew_model.specs.Ancestors.{ids_of}
use Rattle.ew_model.specs.Ids.{id_eq, name_eq}
use Rattle.ew_model.specs.Sound.{AreSound}
use Rattle.ew_model.specs.Bytes.{four_bytes, name_bytes}
use Rattle.ew_model.specs.Writable.{with_agent, agents_of, are_writable_after}
use Rattle.ew_model.proofs.EntryLaws.{all_joined}
use Rattle.ew_model.proofs.AgentLaws.{agents_few_from}
use Rattle.file_words.specs.FileRuns.{RunOps, FileRun, ops_count, run_events, file_runs, run_ops_bytes, run_record, file2_content, file2_of}
use Rattle.file_words.specs.FileRuns.RunOps.{Insertions, Deletions, BackDeletions, OneMark}
use Rattle.file_words.specs.FileRunLaws.{IsSteady}
use Rattle.file_words.specs.FileVersionLaws.{RunFilesAreShort}
use Rattle.file_words.proofs.FileRuns.{steady_some, runs_hold}
use Rattle.file_words.proofs.LongestRuns.{runs_longest}
use Rattle.file_words.proofs.RunFields.{AreSoundOps}
use Rattle.file_words.proofs.RunEvents.{run_count, run_back, run_sound_back}
use Rattle.file_words.proofs.RunReading.{events_in, AreBehind, behind_parts, sound_front, sound_behind}
use Rattle.file_words.proofs.VersionReading.{content2_is}
use Rattle.ew_model.proofs.NameLaws.{name_short}

-- ---- names

abbrev AreShort : List (List ℕ) → Type 0
AreShort names = AllByRecursion (λ name. length name ≤ 32) names

names_length : (agents : List (List ℕ)) → AreShort agents → length (flat_map name_bytes agents) ≤ 33 * length agents
names_length [] h = omega arith
names_length (name ∷ agents) h = omega (arith, length-append (name_bytes name) (flat_map name_bytes agents), h.0, names_length agents h.1)

agent_short : (b : Bool) (agents : List (List ℕ)) (name : List ℕ) → AreShort agents → length name ≤ 32 → AreShort (cond b agents (agents ++ name ∷ []))
agent_short true agents name h p = h
agent_short false agents name h p = all_joined (λ a. length a ≤ 32) agents (name ∷ []) h (p, tt)

agents_short : (agents : List (List ℕ)) (events : List Event) → AreShort agents → AreSound events → AreShort (fold with_agent agents events)
agents_short agents [] h s = h
agents_short agents (e ∷ events) h s =
    agents_short (with_agent agents e) events (agent_short (list_any (name_eq e.id.agent) agents) agents e.id.agent h (name_short e.id.agent s.0.id.agent)) s.1

-- ---- records

fours_length : {X : Type 0} (f : X → ℕ) (xs : List X) → length (flat_map (λ x. four_bytes (f x)) xs) ≡ 4 * length xs
fours_length f [] = omega arith
fours_length f (x ∷ xs) =
    let more = fours_length f xs in
    let size = length-append (four_bytes (f x)) (flat_map (λ y. four_bytes (f y)) xs) in
    omega (arith, more, size)

ops_length : (ops : RunOps) → IsSteady ops → AreSoundOps ops → length (run_ops_bytes ops) ≤ 34 * ops_count ops
ops_length (Insertions at text) steady sound =
    let chars = fours_length (λ (c : ℕ). c) text in
    omega (arith, chars, steady)
ops_length (Deletions at count) steady sound = omega (arith, steady)
ops_length (BackDeletions at count) steady sound = omega (arith, steady.0)
ops_length (OneMark label) steady sound = let name = name_short label sound in omega (arith, name)

record_length : (history : List Event) (r : FileRun) → IsSteady r.ops → AreSoundOps r.ops → length r.parents ≤ 16 → length (run_record history r) ≤ 107 * ops_count r.ops
unfolding run_record
record_length history r steady sound few =
    let parents = flat_map (λ (p : Id). four_bytes (position_or_len (id_eq p) (ids_of history))) r.parents in
    let on = fours_length (λ (p : Id). position_or_len (id_eq p) (ids_of history)) r.parents in
    let behind = length-append parents (run_ops_bytes r.ops) in
    let done = ops_length r.ops steady sound in
    let some = steady_some r.ops steady in
    omega (arith, on, behind, done, some, few)

records_length : (history : List Event) (runs : List FileRun) (before : List Event) (last : Option FileRun) → AreBehind last runs → AreSound (events_in runs) → are_writable_after before (events_in runs) ≡ true → length (flat_map (run_record history) runs) ≤ 107 * length (events_in runs)
records_length history [] before last behind sound h = omega arith
records_length history (r ∷ runs) before last behind sound h =
    let b = behind_parts last r runs behind in
    let later = events_in runs in
    let w = run_back r before later b.0 h in
    let q = run_sound_back r b.0 (sound_front (run_events r) later sound) in
    let few : length r.parents ≤ 16 = leb-true (length r.parents) 16 w.first.few in
    let first = record_length history r b.0 q.ops few in
    let more = records_length history runs (before ++ run_events r) (Some r) b.2 (sound_behind (run_events r) later sound) w.rest in
    omega (arith, first, more, length-append (run_record history r) (flat_map (run_record history) runs), length-append (run_events r) later, run_count r)

-- ---- the file

pub run_files_short : RunFilesAreShort
unfolding file2_of
run_files_short history sound writable =
    let agents = agents_of history in
    let names = flat_map name_bytes agents in
    let runs = file_runs history in
    let records = flat_map (run_record history) runs in
    let hold : events_in runs ≡ history = runs_hold history in
    let few = records_length history runs [] None (runs_longest.0 history) (subst AreSound (sym hold) sound) (ap (are_writable_after []) hold ∙ writable.each) in
    let as_many = ap (λ (xs : List Event). length xs) hold in
    let content = ap (λ (t : List ℕ). length t) (content2_is history) in
    let size = length-append names (four_bytes (length history) ++ records) in
    omega (arith, content, size, few, as_many, names_length agents (agents_short [] history tt sound), agents_few_from [] history, length-append (file2_content history) (sha256 (file2_content history)), length-sha256 (file2_content history))
