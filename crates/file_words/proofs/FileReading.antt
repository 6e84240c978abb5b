-- The laws of the event file: what is read of bytes is what was written there, and the other way round.
use Rattle.std.proofs.Common.{◌≡◌, ℕ, ◌+◌, ◌-◌, ◌^◌, ◌<◌, ◌≤◌, Bool, true, false, cond, not, ltb, eqb, List, [], ◌∷◌, ◌++◌, length, take, drop, get_or, flat_map, Result, Ok, Err, refl, sym, ap, ◌∙◌, append_assoc, arith}
use Rattle.std.specs.Prelude.{nat_eq, codes}
use Rattle.std.specs.Cmp.Lexicographic.{pointwise}
use Rattle.std.proofs.Math.Seq.{drop-cons}
use Rattle.std.proofs.lemmas.Bool.{not-false, ltb-false, le-ltb, eqb-true, cond-true, cond-false}
use Rattle.std.proofs.lemmas.Cmp.{nat_list_eq_equiv}
use Rattle.std.proofs.lemmas.List.{take_at, drop_at, take-append-drop, length-append, length-take, get_or-take}
use Rattle.sha2.specs.Sha256.{sha256}
use Rattle.sha2.proofs.Facts256.{length-sha256}
use Rattle.ew_model.specs.declared.event.Event.{Event}
use Rattle.ew_model.specs.Sound.{AreSound}
use Rattle.ew_model.proofs.ListPlaces.{take_first}
use Rattle.ew_model.specs.Bytes.{four_bytes, name_bytes, AreBytes}
use Rattle.ew_model.specs.Writable.{agents_of, IsWritable}
use Rattle.file_words.specs.File.{record_bytes, file_content, file_of}
use Rattle.file_words.specs.FileFaults.{Stop, FileFinding, finding_of, content_finding, file_finding, read_events}
use Rattle.file_words.specs.FileFaults.Stop.{BadField, OverLimit}
use Rattle.file_words.specs.FileFaults.FileFinding.{IsFile, Short, BadMagic, BadVersion, BadDigest}
use Rattle.file_words.specs.FileLaws.{IsFileOf, FilesAreRead, FilesDiffer}
use Rattle.ew_model.proofs.ByteLaws.{AreBytes-take, AreBytes-drop}
use Rattle.file_words.proofs.FileEvents.{events_text, AreEventsRead, events_take, events_again}
use Rattle.ew_model.proofs.RisingLists.{pointwise_same}

-- the mark and the version
abbrev pub mark : List ℕ
mark = codes "EGWFILE"

pub content_is : (events : List Event) → file_content events ≡ mark ++ (1 ∷ events_text events)
unfolding file_content
content_is events =
    let start = four_bytes (length (agents_of events)) in
    ap (λ t. mark ++ (1 ∷ (start ++ t))) (append_assoc (flat_map name_bytes (agents_of events)) (four_bytes (length events)) (flat_map (record_bytes events) events))

-- a test that let its second case through
pub passed : {A : Type 0} (b : Bool) (x y z : A) → (x ≡ z → false ≡ true) → cond b x y ≡ z → (b ≡ false) × (y ≡ z)
passed true x y z n e = absurd (let f : false ≡ true = n e in cc)
passed false x y z n e = (refl, e)

pub is_file_of : (len : ℕ) (r : Result (List Event × List ℕ) Stop) (events : List Event) → finding_of len r ≡ IsFile events → (left : List ℕ) × (r ≡ Ok (events, left))
is_file_of len (Ok found) events e = let same : found.0 ≡ events = cc in (found.1, ap (λ xs. Ok (xs, found.1)) same)
is_file_of len (Err (BadField left kind)) events e = absurd cc
is_file_of len (Err (OverLimit count)) events e = absurd cc

pub checked : (b : Bool) (x y z : FileFinding) → (y ≡ z → false ≡ true) → cond b x y ≡ z → (b ≡ true) × (x ≡ z)
checked true x y z n e = (refl, e)
checked false x y z n e = absurd (let f : false ≡ true = n e in cc)

-- bytes that begin with the mark and the version
eight_first : (xs : List ℕ) → 8 ≤ length xs → take 7 xs ≡ mark → get_or xs 7 0 ≡ 1 → xs ≡ mark ++ (1 ∷ drop 8 xs)
eight_first xs long front version =
    let lt : 7 < length xs = omega arith in
    sym (take-append-drop 7 xs) ∙ ap (λ t. t ++ drop 7 xs) front ∙ ap (λ t. mark ++ t) (drop-cons xs 7 0 lt ∙ ap (λ b. b ∷ drop 8 xs) version)

content_take : (most : ℕ) (content digest : List ℕ) (events : List Event) → AreBytes content → content_finding most content digest ≡ IsFile events → (digest ≡ sha256 content) × AreEventsRead most (drop 8 content) events
unfolding content_finding
content_take most content digest events fits e =
    let c = checked (pointwise nat_eq digest (sha256 content)) (finding_of (length content) (read_events most (drop 8 content))) (BadDigest digest (sha256 content)) (IsFile events) (λ n. absurd cc) e in
    let f = is_file_of (length content) (read_events most (drop 8 content)) events c.1 in
    (pointwise_same digest (sha256 content) c.0, events_take most (drop 8 content) (events, f.0) (AreBytes-drop 8 content fits) f.1)

pub file_take : (most : ℕ) (bytes : List ℕ) (events : List Event) → AreBytes bytes → file_finding most bytes ≡ IsFile events → IsFileOf most events bytes
unfolding file_finding file_of
file_take most bytes events fits e =
    let end = length bytes - 32 in
    let content = take end bytes in
    let digest = drop end bytes in
    let wrong_mark = not (pointwise nat_eq (take 7 bytes) mark) in
    let wrong_version = not (eqb (get_or bytes 7 0) 1) in
    let by_content = content_finding most content digest in
    let by_version = cond wrong_version (BadVersion (get_or bytes 7 0)) by_content in
    let a = passed (ltb (length bytes) 48) (Short (length bytes)) (cond wrong_mark BadMagic by_version) (IsFile events) (λ n. absurd cc) e in
    let b = passed wrong_mark BadMagic by_version (IsFile events) (λ n. absurd cc) a.1 in
    let c = passed wrong_version (BadVersion (get_or bytes 7 0)) by_content (IsFile events) (λ n. absurd cc) b.1 in
    let long : 48 ≤ length bytes = ltb-false (length bytes) 48 a.0 in
    let d = content_take most content digest events (AreBytes-take end bytes fits) c.1 in
    let front : take 7 content ≡ mark = take_first 7 end bytes (omega arith) ∙ pointwise_same (take 7 bytes) mark (not-false (pointwise nat_eq (take 7 bytes) mark) b.0) in
    let version : get_or content 7 0 ≡ 1 = get_or-take end bytes 7 0 (omega arith) ∙ eqb-true (get_or bytes 7 0) 1 (not-false (eqb (get_or bytes 7 0) 1) c.0) in
    let is : content ≡ file_content events = eight_first content (omega (arith, length-take end bytes)) front version ∙ ap (λ t. mark ++ (1 ∷ t)) d.1.spelled ∙ sym (content_is events) in
    record {
      spelled = sym (take-append-drop end bytes) ∙ ap (λ t. content ++ t) d.0 ∙ ap (λ t. t ++ sha256 t) is;
      sound = d.1.sound;
      writable = d.1.writable;
      few = d.1.few;
    }

-- a content with the mark, the version and at least eight bytes more
content_long : (events : List Event) → 16 ≤ length (file_content events)
content_long events =
    let rest = flat_map name_bytes (agents_of events) ++ (four_bytes (length events) ++ flat_map (record_bytes events) events) in
    let size = ap (λ (t : List ℕ). length t) (content_is events) in
    omega (arith, size, length-append (flat_map name_bytes (agents_of events)) (four_bytes (length events) ++ flat_map (record_bytes events) events))

pub file_again : (most : ℕ) (events : List Event) → AreSound events → IsWritable events → length events ≤ most → file_finding most (file_of events) ≡ IsFile events
unfolding file_finding file_of content_finding
file_again most events sound writable few =
    let content = file_content events in
    let bytes = content ++ sha256 content in
    let end = length bytes - 32 in
    let long = content_long events in
    let size : length bytes ≡ length content + 32 = length-append content (sha256 content) ∙ ap (λ n. length content + n) (length-sha256 content) in
    let ends : length content ≡ end = omega arith in
    let same : bytes ≡ mark ++ (1 ∷ (events_text events ++ sha256 content)) = ap (λ t. t ++ sha256 content) (content_is events) in
    let a : ltb (length bytes) 48 ≡ false = le-ltb (length bytes) 48 (omega arith) in
    let b : not (pointwise nat_eq (take 7 bytes) mark) ≡ false = ap (λ t. not (pointwise nat_eq (take 7 t) mark)) same in
    let v : get_or bytes 7 0 ≡ 1 = ap (λ t. get_or t 7 0) same in
    let c : not (eqb (get_or bytes 7 0) 1) ≡ false = ap (λ n. not (eqb n 1)) v in
    let by_content = content_finding most (take end bytes) (drop end bytes) in
    let by_version = cond (not (eqb (get_or bytes 7 0) 1)) (BadVersion (get_or bytes 7 0)) by_content in
    let read : read_events most (drop 8 content) ≡ Ok (events, []) = ap (λ t. read_events most (drop 8 t)) (content_is events) ∙ events_again most events sound writable few in
    cond-false (ltb (length bytes) 48) (Short (length bytes)) (cond (not (pointwise nat_eq (take 7 bytes) mark)) BadMagic by_version) a
    ∙ cond-false (not (pointwise nat_eq (take 7 bytes) mark)) BadMagic by_version b
    ∙ cond-false (not (eqb (get_or bytes 7 0) 1)) (BadVersion (get_or bytes 7 0)) by_content c
    ∙ ap (λ t. content_finding most t (drop end bytes)) (take_at content (sha256 content) end ends)
    ∙ ap (λ t. content_finding most content t) (drop_at content (sha256 content) end ends)
    ∙ cond-true (pointwise nat_eq (sha256 content) (sha256 content)) (finding_of (length content) (read_events most (drop 8 content))) (BadDigest (sha256 content) (sha256 content)) (nat_list_eq_equiv.refl (sha256 content))
    ∙ ap (finding_of (length content)) read

pub files_are_read : FilesAreRead
files_are_read most bytes events fits =
    (λ e. file_take most bytes events fits e, λ f. ap (file_finding most) f.spelled ∙ file_again most events f.sound f.writable f.few)

pub file_is : (xs ys : List Event) → IsFile xs ≡ IsFile ys → xs ≡ ys
file_is xs ys e = cc

pub files_differ : FilesDiffer
files_differ xs ys sound_xs sound_ys writable_xs writable_ys e =
    let most = 2 ^ 32 in
    file_is xs ys (sym (file_again most xs sound_xs writable_xs (omega (arith, writable_xs.few))) ∙ ap (file_finding most) e ∙ file_again most ys sound_ys writable_ys (omega (arith, writable_ys.few)))
