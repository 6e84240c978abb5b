-- Rows on the file in runs.
use Rattle.std.proofs.Common.{◌≡◌, ℕ, List, [], ◌∷◌, ◌++◌, refl, take, map, length, flat_map}
use Rattle.std.specs.Prelude.{slice_set}
use Rattle.sha2.specs.Sha256.{sha256, first_words, schedule, rounds, compress, hash_after, digest_bytes}
use Rattle.ew_model.specs.declared.event.Event.{Event}
use Rattle.ew_model.specs.declared.event.Op.{Op}
use Rattle.ew_model.specs.declared.event.Op.TheVariants.{Ins, Del, Mark}
use Rattle.ew_model.specs.Bytes.{four_bytes}
use Rattle.ew_model.specs.Edits.{chain_of}
use Rattle.file_words.specs.File.{record_bytes, file_content, with_digest}
use Rattle.file_words.specs.FileFaults.{FileFinding, read_events, read_names, read_name, read_records, read_record, read_parents, read_op, read_end}
use Rattle.file_words.specs.FileFaults.RecordFault.{AgentNumber, IdTwice, ParentPosition, KindBad, RunJoin, RunLength, Scalar, Trailing}
use Rattle.file_words.specs.FileFaults.FileFinding.{IsFile, BadVersion, BadRecord, TooMany}
use Rattle.file_words.specs.FileRuns.{RunOps, FileRun, file_runs, run_record, file2_content, read_text, read_run_ops, read_run_record, read_runs, read_run_events}
use Rattle.file_words.specs.FileRuns.RunOps.{Insertions, Deletions, BackDeletions, OneMark}
use Rattle.file_words.specs.FileVersions.{content_found, file_found}
use Rattle.ew_model.proofs.Rows.Events.{id, event, abc}

-- operations of one agent in a row
abbrev in_line : List Op → List Event
in_line ops = chain_of (97 ∷ []) 0 [] ops

-- what the runs of a history do
abbrev done_in : List Event → List RunOps
done_in history = map (λ (r : FileRun). r.ops) (file_runs history)

-- where a run begins, by agent, number, parents and step
runs :
    (done_in abc ≡ Insertions 0 (97 ∷ 98 ∷ 99 ∷ []) ∷ [])
    × (done_in (in_line (Del 5 ∷ Del 5 ∷ Del 4 ∷ [])) ≡ Deletions 5 2 ∷ Deletions 4 1 ∷ [])
    × (done_in (in_line (Del 5 ∷ Del 4 ∷ Del 3 ∷ Del 3 ∷ [])) ≡ BackDeletions 5 3 ∷ Deletions 3 1 ∷ [])
    × (done_in (in_line (Del 0 ∷ Del 0 ∷ Del 1 ∷ [])) ≡ Deletions 0 2 ∷ Deletions 1 1 ∷ [])
    × (done_in (in_line (Ins 3 97 ∷ Ins 4 98 ∷ Ins 4 99 ∷ Del 4 ∷ [])) ≡ Insertions 3 (97 ∷ 98 ∷ []) ∷ Insertions 4 (99 ∷ []) ∷ Deletions 4 1 ∷ [])
    × (done_in (in_line (Mark (109 ∷ []) ∷ Mark (109 ∷ []) ∷ Ins 0 97 ∷ [])) ≡ OneMark (109 ∷ []) ∷ OneMark (109 ∷ []) ∷ Insertions 0 (97 ∷ []) ∷ [])
    × (done_in (event (id 97 0) (Ins 0 97) [] ∷ event (id 98 1) (Ins 1 98) (id 97 0 ∷ []) ∷ []) ≡ Insertions 0 (97 ∷ []) ∷ Insertions 1 (98 ∷ []) ∷ [])
    × (done_in (event (id 97 0) (Ins 0 97) [] ∷ event (id 97 2) (Ins 1 98) (id 97 0 ∷ []) ∷ []) ≡ Insertions 0 (97 ∷ []) ∷ Insertions 1 (98 ∷ []) ∷ [])
    × (done_in (event (id 97 0) (Ins 0 97) [] ∷ event (id 97 1) (Ins 1 98) [] ∷ []) ≡ Insertions 0 (97 ∷ []) ∷ Insertions 1 (98 ∷ []) ∷ [])
unfolding file_runs
runs = (refl, refl, refl, refl, refl, refl, refl, refl, refl)

-- three characters in one record
abbrev word : List ℕ
word = 69 ∷ 71 ∷ 87 ∷ 70 ∷ 73 ∷ 76 ∷ 69 ∷ 2 ∷ 1 ∷ 0 ∷ 0 ∷ 0 ∷ 1 ∷ 97 ∷ 3 ∷ 0 ∷ 0 ∷ 0 ∷ 0 ∷ 0 ∷ 0 ∷ 0 ∷ 0 ∷ 0 ∷ 0 ∷ 0 ∷ 0 ∷ 0 ∷ 0 ∷ 0 ∷ 0 ∷ 0 ∷ 3 ∷ 0 ∷ 0 ∷ 0 ∷ 97 ∷ 0 ∷ 0 ∷ 0 ∷ 98 ∷ 0 ∷ 0 ∷ 0 ∷ 99 ∷ 0 ∷ 0 ∷ 0 ∷ []

written : file2_content abc ≡ word
unfolding file2_content file_runs run_record
written = refl

-- the same characters in two records, of which the second continues the first
abbrev parted : List ℕ
parted = take 32 word ++ 1 ∷ 0 ∷ 0 ∷ 0 ∷ 97 ∷ 0 ∷ 0 ∷ 0 ∷ 0 ∷ 0 ∷ 0 ∷ 0 ∷ 1 ∷ 0 ∷ 0 ∷ 0 ∷ 1 ∷ 0 ∷ 0 ∷ 0 ∷ 0 ∷ 0 ∷ 1 ∷ 0 ∷ 0 ∷ 0 ∷ 2 ∷ 0 ∷ 0 ∷ 0 ∷ 98 ∷ 0 ∷ 0 ∷ 0 ∷ 99 ∷ 0 ∷ 0 ∷ 0 ∷ []

abbrev found : List ℕ → FileFinding
found content = file_found 9 (with_digest content)

findings :
    (found word ≡ IsFile abc)
    × (file_found 3 (with_digest (file_content abc)) ≡ IsFile abc)
    × (file_found 2 (with_digest word) ≡ TooMany 3)
    × (found parted ≡ BadRecord 54 RunJoin)
    × (found (slice_set word 32 0) ≡ BadRecord 32 RunLength)
    × (found (slice_set word 32 4) ≡ BadRecord 32 RunLength)
    × (found (slice_set word 32 2) ≡ BadRecord 44 AgentNumber)
    × (found (slice_set word 27 4) ≡ BadRecord 27 KindBad)
    × (found (slice_set word 27 1) ≡ BadRecord 36 Trailing)
    × (found (slice_set word 27 3) ≡ BadRecord 32 RunLength)
    × (found (slice_set word 41 216) ≡ BadRecord 40 Scalar)
    × (found (slice_set word 7 3) ≡ BadVersion 3)
unfolding file_found content_found read_events read_names read_name read_records read_record read_parents read_op read_end read_text read_run_ops read_run_record read_runs read_run_events file_content record_bytes sha256 first_words schedule rounds compress hash_after digest_bytes
findings = (refl, refl, refl, refl, refl, refl, refl, refl, refl, refl, refl, refl)

-- a record of deletions of the first agent: its number, the positions of its parents, its kind, its index and its length
abbrev deletions : ℕ → List ℕ → ℕ → ℕ → ℕ → List ℕ
deletions seq parents kind at count = four_bytes 0 ++ four_bytes seq ++ length parents ∷ flat_map four_bytes parents ++ kind ∷ four_bytes at ++ four_bytes count

-- what is found of two records of one agent, where there are so many events
abbrev pair : ℕ → List ℕ → List ℕ → FileFinding
pair count first second = found (take 14 word ++ four_bytes count ++ first ++ second)

pairs :
    (pair 2 (deletions 0 [] 1 5 1) (deletions 1 (0 ∷ []) 1 4 1) ≡ BadRecord 50 RunJoin)
    × (pair 3 (deletions 0 [] 1 5 1) (deletions 1 (0 ∷ []) 3 4 2) ≡ BadRecord 50 RunJoin)
    × (pair 3 (deletions 0 [] 1 5 1) (deletions 1 (0 ∷ []) 3 5 2) ≡ BadRecord 50 RunJoin)
    × (pair 3 (deletions 0 [] 1 5 2) (deletions 2 (1 ∷ []) 1 4 1) ≡ IsFile (in_line (Del 5 ∷ Del 5 ∷ Del 4 ∷ [])))
    × (pair 3 (deletions 0 [] 3 5 2) (deletions 2 (1 ∷ []) 1 3 1) ≡ BadRecord 50 RunJoin)
    × (pair 3 (deletions 0 [] 3 5 2) (deletions 2 (1 ∷ []) 1 4 1) ≡ IsFile (in_line (Del 5 ∷ Del 4 ∷ Del 4 ∷ [])))
    × (pair 1 (deletions 0 [] 3 5 1) [] ≡ BadRecord 32 RunLength)
    × (pair 3 (deletions 0 [] 3 1 3) [] ≡ BadRecord 32 RunLength)
    × (pair 2 (deletions 0 [] 3 1 2) [] ≡ IsFile (in_line (Del 1 ∷ Del 0 ∷ [])))
    × (pair 2 (deletions 0 [] 1 5 1) (deletions 0 (0 ∷ []) 1 5 1) ≡ BadRecord 40 IdTwice)
    × (pair 4 (deletions 2 [] 1 5 1) (deletions 0 (0 ∷ []) 1 5 3) ≡ BadRecord 54 IdTwice)
    × (pair 4 (deletions 2 [] 1 5 1) (deletions 0 (0 ∷ []) 1 5 4) ≡ BadRecord 54 RunLength)
    × (pair 3 (deletions 0 [] 1 5 2) (deletions 2 (2 ∷ []) 1 4 1) ≡ BadRecord 45 ParentPosition)
    × (pair 4294967295 (deletions 0 [] 1 0 4294967295) [] ≡ TooMany 4294967295)
unfolding file_found content_found read_names read_name read_parents read_end read_text read_run_ops read_run_record read_runs read_run_events sha256 first_words schedule rounds compress hash_after digest_bytes
pairs = (refl, refl, refl, refl, refl, refl, refl, refl, refl, refl, refl, refl, refl, refl)

-- numbers and indices at the end of their range
ends :
    (found (slice_set (slice_set (slice_set (slice_set word 28 253) 29 255) 30 255) 31 255) ≡ IsFile (in_line (Ins 4294967293 97 ∷ Ins 4294967294 98 ∷ Ins 4294967295 99 ∷ [])))
    × (found (slice_set (slice_set (slice_set (slice_set word 28 254) 29 255) 30 255) 31 255) ≡ BadRecord 32 RunLength)
    × (found (slice_set (slice_set (slice_set (slice_set word 22 253) 23 255) 24 255) 25 255) ≡ IsFile (chain_of (97 ∷ []) 4294967293 [] (Ins 0 97 ∷ Ins 1 98 ∷ Ins 2 99 ∷ [])))
    × (found (slice_set (slice_set (slice_set (slice_set word 22 254) 23 255) 24 255) 25 255) ≡ BadRecord 32 RunLength)
unfolding file_found content_found read_names read_name read_parents read_end read_text read_run_ops read_run_record read_runs read_run_events sha256 first_words schedule rounds compress hash_after digest_bytes
ends = (refl, refl, refl, refl)
