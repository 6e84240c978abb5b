-- The laws of both versions of the event file: what is read of bytes is what was written there, and the other way round.
use Rattle.std.proofs.Common.{◌≡◌, ◌⊎◌, ℕ, ◌+◌, ◌-◌, ◌^◌, ◌<◌, ◌≤◌, Bool, true, false, cond, not, ltb, eqb, ◌||◌, inl, inr, List, [], ◌∷◌, ◌++◌, length, take, drop, get_or, flat_map, Ok, refl, sym, ap, subst, ◌∙◌, append_assoc, arith}
use Rattle.std.specs.Prelude.{nat_eq}
use Rattle.std.specs.Cmp.Lexicographic.{pointwise}
use Rattle.std.proofs.Math.Seq.{drop-cons}
use Rattle.std.proofs.lemmas.Bool.{not-false, or_cases, ltb-false, le-ltb, eqb-true, cond-true, cond-false}
use Rattle.std.proofs.lemmas.Cmp.{nat_list_eq_equiv}
use Rattle.std.proofs.lemmas.List.{take_at, drop_at, take-append-drop, length-append, length-take, get_or-take}
use Rattle.sha2.specs.Sha256.{sha256}
use Rattle.sha2.proofs.Facts256.{length-sha256}
use Rattle.ew_model.specs.declared.event.Event.{Event}
use Rattle.ew_model.specs.Sound.{AreSound}
use Rattle.ew_model.proofs.ListPlaces.{take_first}
use Rattle.ew_model.specs.Bytes.{four_bytes, name_bytes, AreBytes}
use Rattle.ew_model.specs.Writable.{agents_of, IsWritable}
use Rattle.file_words.specs.File.{file_content, file_of}
use Rattle.file_words.specs.FileFaults.{FileFinding, finding_of, content_finding, file_finding, read_events}
use Rattle.file_words.specs.FileFaults.FileFinding.{IsFile, Short, BadMagic, BadVersion, BadDigest}
use Rattle.file_words.specs.FileLaws.{IsFileOf}
use Rattle.file_words.specs.FileRuns.{run_record, file_runs, file2_content, file2_of, read_run_events}
use Rattle.file_words.specs.FileVersions.{is_version, read_of_version, content_found, file_found}
use Rattle.file_words.specs.FileVersionLaws.{IsRunFileOf, BothVersionsAreRead, RunFilesDiffer, VersionOneStays}
use Rattle.ew_model.proofs.ByteLaws.{AreBytes-take, AreBytes-drop}
use Rattle.ew_model.proofs.RisingLists.{pointwise_same}
use Rattle.file_words.proofs.FileEvents.{events_text, events_take, events_again}
use Rattle.file_words.proofs.FileReading.{mark, content_is, passed, checked, is_file_of, file_is}
use Rattle.file_words.proofs.RunReading.{run_events_text, run_events_take, run_events_again}

pub content2_is : (events : List Event) → file2_content events ≡ mark ++ (2 ∷ run_events_text events)
unfolding file2_content
content2_is events =
    let start = four_bytes (length (agents_of events)) in
    ap (λ t. mark ++ (2 ∷ (start ++ t))) (append_assoc (flat_map name_bytes (agents_of events)) (four_bytes (length events)) (flat_map (run_record events) (file_runs events)))

-- bytes that begin with the mark and a version
first_eight : (xs : List ℕ) (version : ℕ) → 8 ≤ length xs → take 7 xs ≡ mark → get_or xs 7 0 ≡ version → xs ≡ mark ++ (version ∷ drop 8 xs)
first_eight xs version long front is =
    let lt : 7 < length xs = omega arith in
    sym (take-append-drop 7 xs) ∙ ap (λ t. t ++ drop 7 xs) front ∙ ap (λ t. mark ++ t) (drop-cons xs 7 0 lt ∙ ap (λ b. b ∷ drop 8 xs) is)

-- ---- what is found is the file

-- the parts of bytes in which events are found
record IsFoundIn (most : ℕ) (bytes : List ℕ) (events : List Event) (version : ℕ) (content left : List ℕ) : Type 0 where
  parts : bytes ≡ content ++ sha256 content
  fits : AreBytes content
  is : content ≡ mark ++ (version ∷ drop 8 content)
  read : read_of_version version most (drop 8 content) ≡ Ok (events, left)

found_take : (most : ℕ) (bytes : List ℕ) (events : List Event) → AreBytes bytes → file_found most bytes ≡ IsFile events
    → (version : ℕ) × (content : List ℕ) × (left : List ℕ) × (is_version version ≡ true) × IsFoundIn most bytes events version content left
unfolding file_found content_found
found_take most bytes events fits e =
    let end = length bytes - 32 in
    let content = take end bytes in
    let digest = drop end bytes in
    let version = get_or bytes 7 0 in
    let wrong_mark = not (pointwise nat_eq (take 7 bytes) mark) in
    let wrong_version = not (is_version version) in
    let by_content = content_found version most content digest in
    let by_version = cond wrong_version (BadVersion version) by_content in
    let a = passed (ltb (length bytes) 48) (Short (length bytes)) (cond wrong_mark BadMagic by_version) (IsFile events) (λ n. absurd cc) e in
    let b = passed wrong_mark BadMagic by_version (IsFile events) (λ n. absurd cc) a.1 in
    let c = passed wrong_version (BadVersion version) by_content (IsFile events) (λ n. absurd cc) b.1 in
    let long : 48 ≤ length bytes = ltb-false (length bytes) 48 a.0 in
    let d = checked (pointwise nat_eq digest (sha256 content)) (finding_of (length content) (read_of_version version most (drop 8 content))) (BadDigest digest (sha256 content)) (IsFile events) (λ n. absurd cc) c.1 in
    let f = is_file_of (length content) (read_of_version version most (drop 8 content)) events d.1 in
    let front : take 7 content ≡ mark = take_first 7 end bytes (omega arith) ∙ pointwise_same (take 7 bytes) mark (not-false (pointwise nat_eq (take 7 bytes) mark) b.0) in
    let named : get_or content 7 0 ≡ version = get_or-take end bytes 7 0 (omega arith) in (
      version,
      content,
      f.0,
      not-false (is_version version) c.0,
      record {
        parts = sym (take-append-drop end bytes) ∙ ap (λ t. content ++ t) (pointwise_same digest (sha256 content) d.0);
        fits = AreBytes-take end bytes fits;
        is = first_eight content version (omega (arith, length-take end bytes)) front named;
        read = f.1;
      },
    )

taken_1 : (most : ℕ) (bytes : List ℕ) (events : List Event) (content left : List ℕ) → IsFoundIn most bytes events 1 content left → IsFileOf most events bytes
unfolding file_of
taken_1 most bytes events content left f =
    let r = events_take most (drop 8 content) (events, left) (AreBytes-drop 8 content f.fits) f.read in
    let is : content ≡ file_content events = f.is ∙ ap (λ t. mark ++ (1 ∷ t)) r.spelled ∙ sym (content_is events) in
    record { spelled = f.parts ∙ ap (λ t. t ++ sha256 t) is; sound = r.sound; writable = r.writable; few = r.few }

taken_2 : (most : ℕ) (bytes : List ℕ) (events : List Event) (content left : List ℕ) → IsFoundIn most bytes events 2 content left → IsRunFileOf most events bytes
unfolding file2_of
taken_2 most bytes events content left f =
    let r = run_events_take most (drop 8 content) (events, left) (AreBytes-drop 8 content f.fits) f.read in
    let is : content ≡ file2_content events = f.is ∙ ap (λ t. mark ++ (2 ∷ t)) r.spelled ∙ sym (content2_is events) in
    record { spelled = f.parts ∙ ap (λ t. t ++ sha256 t) is; sound = r.sound; writable = r.writable; few = r.few }

taken : (most : ℕ) (bytes : List ℕ) (events : List Event) → AreBytes bytes → file_found most bytes ≡ IsFile events → IsFileOf most events bytes ⊎ IsRunFileOf most events bytes
taken most bytes events fits e =
    let f = found_take most bytes events fits e in
    elim (or_cases (eqb f.0 1) (eqb f.0 2) f.3) [
      | inl t ↦ inl (taken_1 most bytes events f.1 f.2 (subst (λ v. IsFoundIn most bytes events v f.1 f.2) (eqb-true f.0 1 t) f.4))
      | inr t ↦ inr (taken_2 most bytes events f.1 f.2 (subst (λ v. IsFoundIn most bytes events v f.1 f.2) (eqb-true f.0 2 t) f.4))
    ]

-- ---- the file is found

-- a content of a version, whose text reads as events
found_again : (most : ℕ) (events : List Event) (version : ℕ) (content text : List ℕ) → is_version version ≡ true → content ≡ mark ++ (version ∷ text) → 8 ≤ length text → read_of_version version most text ≡ Ok (events, []) → file_found most (content ++ sha256 content) ≡ IsFile events
unfolding file_found content_found
found_again most events version content text known is long read =
    let bytes = content ++ sha256 content in
    let end = length bytes - 32 in
    let size : length bytes ≡ length content + 32 = length-append content (sha256 content) ∙ ap (λ n. length content + n) (length-sha256 content) in
    let content_size = ap (λ (t : List ℕ). length t) is in
    let ends : length content ≡ end = omega (arith, size) in
    let same : bytes ≡ mark ++ (version ∷ (text ++ sha256 content)) = ap (λ t. t ++ sha256 content) is in
    let a : ltb (length bytes) 48 ≡ false = le-ltb (length bytes) 48 (omega (arith, size, content_size, long)) in
    let b : not (pointwise nat_eq (take 7 bytes) mark) ≡ false = ap (λ t. not (pointwise nat_eq (take 7 t) mark)) same in
    let v : get_or bytes 7 0 ≡ version = ap (λ t. get_or t 7 0) same in
    let c : not (is_version (get_or bytes 7 0)) ≡ false = ap (λ n. not (is_version n)) v ∙ ap not known in
    let by_content = content_found (get_or bytes 7 0) most (take end bytes) (drop end bytes) in
    let by_version = cond (not (is_version (get_or bytes 7 0))) (BadVersion (get_or bytes 7 0)) by_content in
    let behind : read_of_version version most (drop 8 content) ≡ Ok (events, []) = ap (λ t. read_of_version version most (drop 8 t)) is ∙ read in
    cond-false (ltb (length bytes) 48) (Short (length bytes)) (cond (not (pointwise nat_eq (take 7 bytes) mark)) BadMagic by_version) a
    ∙ cond-false (not (pointwise nat_eq (take 7 bytes) mark)) BadMagic by_version b
    ∙ cond-false (not (is_version (get_or bytes 7 0))) (BadVersion (get_or bytes 7 0)) by_content c
    ∙ ap (λ n. content_found n most (take end bytes) (drop end bytes)) v
    ∙ ap (λ t. content_found version most t (drop end bytes)) (take_at content (sha256 content) end ends)
    ∙ ap (λ t. content_found version most content t) (drop_at content (sha256 content) end ends)
    ∙ cond-true (pointwise nat_eq (sha256 content) (sha256 content)) (finding_of (length content) (read_of_version version most (drop 8 content))) (BadDigest (sha256 content) (sha256 content)) (nat_list_eq_equiv.refl (sha256 content))
    ∙ ap (finding_of (length content)) behind

text_long : (first names count rest : List ℕ) → length first ≡ 4 → length count ≡ 4 → 8 ≤ length (first ++ (names ++ (count ++ rest)))
text_long first names count rest four_first four_count =
    omega (arith, length-append first (names ++ (count ++ rest)), length-append names (count ++ rest), length-append count rest, four_first, four_count)

plain_file_again : (most : ℕ) (events : List Event) → AreSound events → IsWritable events → length events ≤ most → file_found most (file_of events) ≡ IsFile events
unfolding file_of
plain_file_again most events sound writable few =
    found_again most events 1 (file_content events) (events_text events) refl (content_is events)
    (text_long (four_bytes (length (agents_of events))) (flat_map name_bytes (agents_of events)) (four_bytes (length events)) _ refl refl)
    (events_again most events sound writable few)

pub run_file_again : (most : ℕ) (events : List Event) → AreSound events → IsWritable events → length events ≤ most → file_found most (file2_of events) ≡ IsFile events
unfolding file2_of
run_file_again most events sound writable few =
    found_again most events 2 (file2_content events) (run_events_text events) refl (content2_is events)
    (text_long (four_bytes (length (agents_of events))) (flat_map name_bytes (agents_of events)) (four_bytes (length events)) _ refl refl)
    (run_events_again most events sound writable few)

given : (most : ℕ) (bytes : List ℕ) (events : List Event) → IsFileOf most events bytes ⊎ IsRunFileOf most events bytes → file_found most bytes ≡ IsFile events
given most bytes events (inl f) = ap (file_found most) f.spelled ∙ plain_file_again most events f.sound f.writable f.few
given most bytes events (inr f) = ap (file_found most) f.spelled ∙ run_file_again most events f.sound f.writable f.few

pub both_versions_read : BothVersionsAreRead
both_versions_read most bytes events fits = (λ e. taken most bytes events fits e, λ f. given most bytes events f)

pub run_files_differ : RunFilesDiffer
run_files_differ xs ys sound_xs sound_ys writable_xs writable_ys e =
    let most = 2 ^ 32 in
    file_is xs ys (sym (run_file_again most xs sound_xs writable_xs (omega (arith, writable_xs.few))) ∙ ap (file_found most) e ∙ run_file_again most ys sound_ys writable_ys (omega (arith, writable_ys.few)))

-- ---- version 1 alone

by_test : (most : ℕ) (content digest : List ℕ) (version : ℕ) (b : Bool)
    → cond (not (b || false)) (BadVersion version) (cond (pointwise nat_eq digest (sha256 content)) (finding_of (length content) ((cond b (read_events most) (read_run_events most)) (drop 8 content))) (BadDigest digest (sha256 content)))
    ≡ cond (not b) (BadVersion version) (cond (pointwise nat_eq digest (sha256 content)) (finding_of (length content) (read_events most (drop 8 content))) (BadDigest digest (sha256 content)))
by_test most content digest version true = refl
by_test most content digest version false = refl

pub version_one_stays : VersionOneStays
unfolding file_found file_finding content_found content_finding
version_one_stays most bytes other =
    let end = length bytes - 32 in
    let version = get_or bytes 7 0 in
    let around : FileFinding → FileFinding = λ found. cond (ltb (length bytes) 48) (Short (length bytes)) (cond (not (pointwise nat_eq (take 7 bytes) mark)) BadMagic found) in
    ap (λ b. around (cond (not (eqb version 1 || b)) (BadVersion version) (content_found version most (take end bytes) (drop end bytes)))) other
    ∙ ap around (by_test most (take end bytes) (drop end bytes) version (eqb version 1))
