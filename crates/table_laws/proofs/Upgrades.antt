-- An upgrade that is done.
use Rattle.std.proofs.Common.{◌≡◌, ℕ, ◌++◌, Bool, true, false, slice_index, if◌then◌else◌, inl, inr, ⊎_elim, List, Some, IfSome, refl, sym, ap, ◌∙◌, subst, arith}
use Rattle.std.specs.FinMap.{get}
use Rattle.sha2.specs.Sha256.{sha256}
use Rattle.ew_model.specs.declared.event.Event.{Event}
use Rattle.ew_model.specs.Bytes.{AreBytes}
use Rattle.ew_model.specs.Ids.{name_eq}
use Rattle.ew_model.specs.Limits.{LimitNumbers, most_file_bytes}
use Rattle.ew_model.proofs.IdLaws.{name_exact}
use Rattle.file_words.specs.File.{file_content, file_of}
use Rattle.file_words.specs.FileLaws.{IsFileOf}
use Rattle.file_words.specs.FileRuns.{file2_content, file2_of}
use Rattle.file_words.specs.FileVersionLaws.{IsRunFileOf}
use Rattle.file_words.proofs.FileReading.{content_is}
use Rattle.file_words.proofs.VersionReading.{both_versions_read, content2_is}
use Rattle.ew_outside.specs.Files.{Files}
use Rattle.command_table.specs.Loads.{too_long, whole, whole_of}
use Rattle.command_table.specs.Table.{Text, Reply, Answer, answer_of, judged, named_version, open_file, over_events, read_as, upgrade_reply, upgraded_reply}
use Rattle.table_laws.specs.UpgradeLaws.{UpgradesKeep}
use Rattle.table_laws.proofs.MergedFiles.{Opens, answer_status, opened_is, opens, status_in, storable, stored_elsewhere, stored_here, stored_opens}
use Rattle.replica.proofs.Beginnings.{good_from_none_bad}

-- a file names its version
names_one : (events : List Event) → slice_index (file_of events) 7 ≡ 1
unfolding file_of
names_one events = ap (λ content. slice_index (content ++ sha256 (file_content events)) 7) (content_is events)

names_two : (events : List Event) → slice_index (file2_of events) 7 ≡ 2
unfolding file2_of
names_two events = ap (λ content. slice_index (content ++ sha256 (file2_content events)) 7) (content2_is events)

-- what is answered over a file that opens
upgraded_so : (limits : LimitNumbers) (files : Files) (name : Text) (events : List Event) (o : Opens limits files name events) (version : ℕ) → slice_index o.bytes 7 ≡ version
    → upgrade_reply name limits (whole_of (most_file_bytes limits.events) (get files name)) ≡ upgraded_reply name events version
upgraded_so limits files name events o version is =
    ap (λ found. upgrade_reply name limits (whole_of (most_file_bytes limits.events) found)) o.here
    ∙ ap (λ (b : Bool). upgrade_reply name limits (if b then too_long else whole o.bytes)) o.short
    ∙ ap (λ found. over_events (λ xs. upgraded_reply name xs (slice_index o.bytes 7)) (read_as name limits found)) o.read
    ∙ ap (λ bad. over_events (λ xs. upgraded_reply name xs (slice_index o.bytes 7)) (judged name events bad)) o.good
    ∙ ap (upgraded_reply name events) is

not_true : (b : Bool) → (b ≡ true → ⊥) → b ≡ false
not_true true never = absurd (never refl)
not_true false never = refl

-- names that aren't the same compare so
pub apart_names : (one other : Text) → (one ≡ other → ⊥) → name_eq one other ≡ false
apart_names one other apart = not_true (name_eq one other) (λ same. apart (name_exact one other same))

pub upgrades_keep : UpgradesKeep
upgrades_keep limits files input reading name numbers all zero =
    let file = whole_of (most_file_bytes limits.events) (get files name) in
    let reply = upgrade_reply name limits file in
    let status : status_in reply ≡ 0 = sym (answer_status reply files) ∙ zero in
    let d = opens (λ xs. upgraded_reply name xs (named_version file)) name limits files status in
    let events = d.0 in
    let o = d.1 in
    let fits : AreBytes o.bytes = subst (λ x. IfSome x AreBytes) o.here all in
    let good = good_from_none_bad events o.good in
    let one = storable limits files name events all o in
    ⊎_elim
    (λ (f : IsFileOf limits.events events o.bytes).
    let t : answer_of reply files ≡ answer_of (upgraded_reply name events 1) files =
    ap (λ (r : Reply). answer_of r files) (upgraded_so limits files name events o 1 (ap (λ bytes. slice_index bytes 7) f.spelled ∙ names_one events)) in (
      events,
      1,
      record {
        was = inl (refl, o.here ∙ ap Some f.spelled);
        told = ap (λ (a : Answer). a.out) t;
        is = ap (λ (a : Answer). get a.files name) t ∙ stored_here files name (file2_of events);
        opened_before = opened_is name limits files events o;
        opens = ap (λ (a : Answer). open_file name limits a.files) t ∙ stored_opens limits files name events numbers good one;
        others = λ other apart. ap (λ (a : Answer). get a.files other) t ∙ stored_elsewhere files name other (file2_of events) (apart_names other name apart);
        same = λ two. absurd (omega (arith, two));
      },
    ))
    (λ (f : IsRunFileOf limits.events events o.bytes).
    let t : answer_of reply files ≡ answer_of (upgraded_reply name events 2) files =
    ap (λ (r : Reply). answer_of r files) (upgraded_so limits files name events o 2 (ap (λ bytes. slice_index bytes 7) f.spelled ∙ names_two events)) in (
      events,
      2,
      record {
        was = inr (refl, o.here ∙ ap Some f.spelled);
        told = ap (λ (a : Answer). a.out) t;
        is = ap (λ (a : Answer). get a.files name) t ∙ o.here ∙ ap Some f.spelled;
        opened_before = opened_is name limits files events o;
        opens = ap (λ (a : Answer). open_file name limits a.files) t ∙ opened_is name limits files events o;
        others = λ other apart. ap (λ (a : Answer). get a.files other) t;
        same = λ two. ap (λ (a : Answer). a.files) t;
      },
    ))
    ((both_versions_read limits.events o.bytes events fits).0 o.read)
