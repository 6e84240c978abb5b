-- Rows on the faults of a file: a file of 68 bytes with a byte or two changed, its digest made right again.
use Rattle.std.proofs.Common.{◌≡◌, ℕ, List, [], ◌∷◌, ◌++◌, refl, take, codes}
use Rattle.std.specs.Prelude.{slice_set}
use Rattle.sha2.specs.Sha256.{sha256, first_words, schedule, rounds, compress, hash_after, digest_bytes}
use Rattle.file_words.specs.File.{record_bytes, file_content, file_of, with_digest}
use Rattle.file_words.specs.FileFaults.{FileFinding, file_finding, content_finding, read_events, read_names, read_name, read_records, read_record, read_parents, read_op, read_end}
use Rattle.file_words.specs.FileFaults.RecordFault.{Cut, NameBad, NameTwice, AgentNumber, IdTwice, ParentCount, ParentPosition, ParentOrder, KindBad, Scalar, Trailing, UnusedAgent}
use Rattle.file_words.specs.FileFaults.FileFinding.{IsFile, Short, BadMagic, BadVersion, BadRecord, TooMany}
use Rattle.ew_model.specs.declared.event.Op.TheVariants.{Mark}
use Rattle.ew_model.proofs.Rows.Events.{id, event, ins, abc}

-- the file before its digest
abbrev letter : List ℕ
letter = 69 ∷ 71 ∷ 87 ∷ 70 ∷ 73 ∷ 76 ∷ 69 ∷ 1 ∷ 1 ∷ 0 ∷ 0 ∷ 0 ∷ 1 ∷ 97 ∷ 1 ∷ 0 ∷ 0 ∷ 0 ∷ 0 ∷ 0 ∷ 0 ∷ 0 ∷ 0 ∷ 0 ∷ 0 ∷ 0 ∷ 0 ∷ 0 ∷ 0 ∷ 0 ∷ 0 ∷ 0 ∷ 97 ∷ 0 ∷ 0 ∷ 0 ∷ []

-- with its name a second time
abbrev two_names : List ℕ
two_names = slice_set (slice_set letter 8 2) 15 97

-- three records, the last with two parents in the wrong order
abbrev two_parents : List ℕ
two_parents = slice_set (slice_set (file_content abc) 66 2) 72 0

-- what is found where this byte is changed
abbrev changed : ℕ → ℕ → FileFinding
changed at b = file_finding 9 (with_digest (slice_set letter at b))

whole : file_finding 1 (with_digest letter) ≡ IsFile (ins 97 0 0 97 [] ∷ [])
unfolding file_finding content_finding read_events read_names read_name read_records read_record read_parents read_op read_end sha256 first_words schedule rounds compress hash_after digest_bytes
whole = refl

too_many : file_finding 0 (with_digest letter) ≡ TooMany 1
unfolding file_finding content_finding read_events read_names read_name read_records read_record read_parents read_op read_end sha256 first_words schedule rounds compress hash_after digest_bytes
too_many = refl

changes :
    (changed 12 0 ≡ BadRecord 12 NameBad)
    × (changed 13 0x20 ≡ BadRecord 12 NameBad)
    × (changed 8 2 ≡ BadRecord 14 NameBad)
    × (changed 18 1 ≡ BadRecord 18 AgentNumber)
    × (changed 26 17 ≡ BadRecord 26 ParentCount)
    × (changed 26 1 ≡ BadRecord 27 ParentPosition)
    × (changed 27 2 ≡ BadRecord 28 NameBad)
    × (changed 27 3 ≡ BadRecord 27 KindBad)
    × (changed 33 0xd8 ≡ BadRecord 32 Scalar)
    × (changed 14 2 ≡ BadRecord 36 Cut)
    × (changed 14 0 ≡ BadRecord 18 Trailing)
    × (file_finding 9 (with_digest two_names) ≡ BadRecord 14 NameTwice)
    × (file_finding 9 (with_digest (slice_set (file_content abc) 40 0)) ≡ BadRecord 40 IdTwice)
    × (file_finding 9 (with_digest two_parents) ≡ BadRecord 71 ParentOrder)
    × (file_finding 9 (with_digest (take 14 letter ++ 0 ∷ 0 ∷ 0 ∷ 0 ∷ [])) ≡ BadRecord 18 UnusedAgent)
unfolding file_finding content_finding read_events read_names read_name read_records read_record read_parents read_op read_end file_content record_bytes sha256 first_words schedule rounds compress hash_after digest_bytes
changes = (refl, refl, refl, refl, refl, refl, refl, refl, refl, refl, refl, refl, refl, refl, refl)

version_two : file_finding 9 (with_digest (slice_set letter 7 2)) ≡ BadVersion 2
unfolding file_finding content_finding sha256 first_words schedule rounds compress hash_after digest_bytes
version_two = refl

other_mark : file_finding 9 (with_digest (slice_set letter 6 70)) ≡ BadMagic
unfolding file_finding content_finding sha256 first_words schedule rounds compress hash_after digest_bytes
other_mark = refl

short : file_finding 9 (take 47 (with_digest letter)) ≡ Short 47
unfolding file_finding content_finding sha256 first_words schedule rounds compress hash_after digest_bytes
short = refl

written : with_digest letter ≡ file_of (ins 97 0 0 97 [] ∷ [])
unfolding file_of file_content record_bytes sha256 first_words schedule rounds compress hash_after digest_bytes
written = refl

-- the file of one mark before its digest, and with a byte of it changed
abbrev label : List ℕ
label = 69 ∷ 71 ∷ 87 ∷ 70 ∷ 73 ∷ 76 ∷ 69 ∷ 1 ∷ 1 ∷ 0 ∷ 0 ∷ 0 ∷ 1 ∷ 97 ∷ 1 ∷ 0 ∷ 0 ∷ 0 ∷ 0 ∷ 0 ∷ 0 ∷ 0 ∷ 0 ∷ 0 ∷ 0 ∷ 0 ∷ 0 ∷ 2 ∷ 1 ∷ 109 ∷ []

abbrev relabelled : ℕ → ℕ → FileFinding
relabelled at b = file_finding 9 (with_digest (slice_set label at b))

marked : file_finding 1 (with_digest label) ≡ IsFile (event (id 97 0) (Mark (codes "m")) [] ∷ [])
unfolding file_finding content_finding read_events read_names read_name read_records read_record read_parents read_op read_end sha256 first_words schedule rounds compress hash_after digest_bytes
marked = refl

-- a label that is empty, too long, cut or no name, an index in its place, and a kind that is none
marks :
    (relabelled 28 0 ≡ BadRecord 28 NameBad)
    × (relabelled 28 33 ≡ BadRecord 28 NameBad)
    × (relabelled 28 2 ≡ BadRecord 28 Cut)
    × (relabelled 29 0x20 ≡ BadRecord 28 NameBad)
    × (relabelled 29 0x2d ≡ BadRecord 28 NameBad)
    × (relabelled 27 1 ≡ BadRecord 28 Cut)
    × (relabelled 27 3 ≡ BadRecord 27 KindBad)
unfolding file_finding content_finding read_events read_names read_name read_records read_record read_parents read_op read_end sha256 first_words schedule rounds compress hash_after digest_bytes
marks = (refl, refl, refl, refl, refl, refl, refl)
