-- A watch that is done keeps what an edit makes, and an export that is done opens as the journal.
use Rattle.std.proofs.Common.{◌≡◌, ℕ, Bool, true, false, nat_lt, if◌then◌else◌, inl, inr, List, [], ◌∷◌, ◌++◌, length, flat_map, Option, None, Some, refl, sym, ap, ◌∙◌, subst, append_assoc, append-nil, arith}
use Rattle.std.specs.FinMap.{get}
use Rattle.std.specs.List.{AllByRecursion}
use Rattle.std.proofs.lemmas.Bool.{cases_lt, ltb-false}
use Rattle.std.proofs.lemmas.Grind.{flat_map-append}
use Rattle.ew_model.specs.declared.event.Event.{Event}
use Rattle.ew_model.specs.Edits.{Edit, EditRefusal, edit_refusal, events_of_edit}
use Rattle.ew_model.specs.Edits.EditRefusal.{OutOfRange, TooManyHeads, Full}
use Rattle.ew_model.specs.Limits.{LimitNumbers, AreLimits}
use Rattle.ew_model.specs.Scripts.{Numbered}
use Rattle.ew_model.specs.Sound.{AreSound, IsSound}
use Rattle.ew_model.specs.Verdicts.{BadEvent, first_bad}
use Rattle.ew_model.proofs.EntryLaws.{all_joined}
use Rattle.file_words.specs.FileRuns.{file2_of}
use Rattle.peer_definitions.specs.Batches.{IsBatch, journal_events}
use Rattle.peer_definitions.specs.Pieces.{frame_room, pieces}
use Rattle.peer_exchange.proofs.PieceLaws.{pieces_whole, some_room}
use Rattle.replica.proofs.Beginnings.{good_from_none_bad}
use Rattle.command_table.specs.Journals.{Journal, IsJournal, ended_journal, export_reply, judged_journal, keeps_nothing, kept_watch, open_journal, watch_end, watch_input, watch_opened, Watch}
use Rattle.command_table.specs.Loads.{missing, too_long, whole, whole_of}
use Rattle.command_table.specs.Refusals.{input_too_long, journal_too_many}
use Rattle.command_table.specs.Scripts.{Edited, ran, edited_by, then_edited, Watched, watched_by, then_watched, batches_of, script}
use Rattle.command_table.specs.Sessions.{closed_by, session_answer}
use Rattle.command_table.specs.Table.{Text, Reply, stores, refuses, Answer, Opened, opened, refused, open_file}
use Rattle.table_laws.specs.JournalLaws.{WatchesEdit, ExportsOpen}
use Rattle.table_laws.proofs.MergedFiles.{IsStorable, answer_status, status_in, stored_elsewhere, stored_here, stored_opens}
use Rattle.table_laws.proofs.Upgrades.{apart_names}

-- ---- what is kept of a script

-- a line that nothing speaks against, whatever it makes
line_kept : (line : ℕ) (r : Option EditRefusal) (events made : List Event) (more : Watched) (later : Edited) → (then_watched line r made more).stopped ≡ None
    → (more.stopped ≡ None → later ≡ ran ((events ++ made) ++ flat_map (λ (l : List Event). l) more.kept))
    → then_edited line r later ≡ ran (events ++ flat_map (λ (l : List Event). l) (then_watched line r made more).kept)
line_kept line (Some why) events made more later none rest = absurd cc
line_kept line None events [] more later none rest = rest none ∙ ap (λ (xs : List Event). ran (xs ++ flat_map (λ (l : List Event). l) more.kept)) (append-nil events)
line_kept line None events (e ∷ made) more later none rest = rest none ∙ ap ran (append_assoc events (e ∷ made) (flat_map (λ (l : List Event). l) more.kept))

edits_kept : (limits : LimitNumbers) (agent : List ℕ) (events : List Event) (edits : List (Numbered Edit)) → (watched_by limits agent events edits).stopped ≡ None
    → edited_by limits agent events edits ≡ ran (events ++ flat_map (λ (l : List Event). l) (watched_by limits agent events edits).kept)
edits_kept limits agent events [] none = ap ran (sym (append-nil events))
edits_kept limits agent events (i ∷ items) none =
    let made = events_of_edit events agent i.item in
    line_kept i.line (edit_refusal limits events agent i.item) events made (watched_by limits agent (events ++ made) items) (edited_by limits agent (events ++ made) items) none
    (edits_kept limits agent (events ++ made) items)

-- the events of the batches are those of the lines
batches_hold : (limits : LimitNumbers) (lines : List (List Event)) → AreLimits limits → journal_events (batches_of limits lines) ≡ flat_map (λ (l : List Event). l) lines
batches_hold limits [] are = refl
batches_hold limits (line ∷ lines) are =
    flat_map-append (λ (b : List Event). b) (pieces (frame_room limits) line) (batches_of limits lines)
    ∙ ap (λ (xs : List Event). xs ++ journal_events (batches_of limits lines)) (pieces_whole (frame_room limits) line (some_room limits are)).whole
    ∙ ap (λ (xs : List Event). line ++ xs) (batches_hold limits lines are)

-- ---- a journal that opens

judged_opened : (xs events : List Event) (found : Option BadEvent) → judged_journal xs found ≡ opened events → xs ≡ events
judged_opened xs events None is = cc
judged_opened xs events (Some bad) is = absurd cc

ended_opened : (xs events : List Event) (bad : Option ℕ) → ended_journal xs bad ≡ opened events → xs ≡ events
ended_opened xs events None is = judged_opened xs events (first_bad xs) is
ended_opened xs events (Some place) is = absurd cc

capped_opened : (b : Bool) (most : ℕ) (xs events : List Event) (bad : Option ℕ) → (if b then refused (journal_too_many most) else ended_journal xs bad) ≡ opened events → xs ≡ events
capped_opened true most xs events bad is = absurd cc
capped_opened false most xs events bad is = ended_opened xs events bad is

pub events_opened : (limits : LimitNumbers) (j : Journal) (events : List Event) → open_journal limits j ≡ opened events → journal_events j.batches ≡ events
events_opened limits j events is = capped_opened (nat_lt limits.events (length (journal_events j.batches))) limits.events (journal_events j.batches) events j.bad is

-- ---- a watch that is done

ends_well : (limits : LimitNumbers) (stopped : Option (ℕ × EditRefusal)) → status_in (watch_end limits stopped) ≡ 0 → stopped ≡ None
ends_well limits None well = refl
ends_well limits (Some (line, OutOfRange len)) well = absurd (omega (arith, well))
ends_well limits (Some (line, TooManyHeads heads)) well = absurd (omega (arith, well))
ends_well limits (Some (line, Full count)) well = absurd (omega (arith, well))

input_well : (b : Bool) (most : ℕ) (w : Watch) → status_in (if b then keeps_nothing (refuses (input_too_long most)) else w).session.closing ≡ 0 → b ≡ false
input_well true most w well = absurd (omega (arith, well))
input_well false most w well = refl

pub watches_edit : WatchesEdit
watches_edit limits files journal input edits agent events are opens zero =
    let w = watched_by limits agent events edits in
    let over = watch_opened agent limits input (script edits) (open_journal limits journal) in
    let begun : over ≡ watch_input agent limits input (script edits) events = ap (watch_opened agent limits input (script edits)) opens in
    let at_first : status_in over.session.closing ≡ 0 = sym (answer_status over.session.closing files) ∙ zero in
    let at_start : status_in (watch_input agent limits input (script edits) events).session.closing ≡ 0 = subst (λ (x : Watch). status_in x.session.closing ≡ 0) begun at_first in
    let short = input_well (nat_lt limits.input (length input)) limits.input (kept_watch limits w) at_start in
    let is : over ≡ kept_watch limits w = begun ∙ ap (λ (b : Bool). if b then keeps_nothing (refuses (input_too_long limits.input)) else kept_watch limits w) short in
    let well : status_in (watch_end limits w.stopped) ≡ 0 = subst (λ (x : Watch). status_in x.session.closing ≡ 0) is at_first in
    let held : journal_events (journal.batches ++ batches_of limits over.kept) ≡ events ++ flat_map (λ (l : List Event). l) w.kept =
    flat_map-append (λ (b : List Event). b) journal.batches (batches_of limits over.kept)
    ∙ ap (λ (xs : List Event). xs ++ journal_events (batches_of limits over.kept)) (events_opened limits journal events opens)
    ∙ ap (λ (xs : List Event). events ++ xs) (batches_hold limits over.kept are)
    ∙ ap (λ (x : Watch). events ++ flat_map (λ (l : List Event). l) x.kept) is in
    edits_kept limits agent events edits (ends_well limits w.stopped well) ∙ ap ran (sym held)

-- ---- an export that is done

judged_well : (name : Text) (xs : List Event) (found : Option BadEvent) → status_in (export_reply name missing (judged_journal xs found)) ≡ 0 → found ≡ None
judged_well name xs None well = refl
judged_well name xs (Some bad) well = absurd (omega (arith, well))

ended_well : (name : Text) (xs : List Event) (bad : Option ℕ) → status_in (export_reply name missing (ended_journal xs bad)) ≡ 0 → (bad ≡ None) × (first_bad xs ≡ None)
ended_well name xs None well = (refl, judged_well name xs (first_bad xs) well)
ended_well name xs (Some place) well = absurd (omega (arith, well))

capped_well : (name : Text) (b : Bool) (most : ℕ) (o : Opened) → status_in (export_reply name missing (if b then refused (journal_too_many most) else o)) ≡ 0
    → (b ≡ false) × (status_in (export_reply name missing o) ≡ 0)
capped_well name true most o well = absurd (omega (arith, well))
capped_well name false most o well = (refl, well)

there_well : (name : Text) (b : Bool) (bytes : List ℕ) (o : Opened) → status_in (export_reply name (if b then too_long else whole bytes) o) ≡ 0 → ⊥
there_well name true bytes o well = omega (arith, well)
there_well name false bytes o well = omega (arith, well)

missing_well : (name : Text) (file : Option (List ℕ)) (o : Opened) → status_in (export_reply name (whole_of 0 file) o) ≡ 0 → (file ≡ None) × (status_in (export_reply name missing o) ≡ 0)
missing_well name None o well = (refl, well)
missing_well name (Some bytes) o well = absurd (there_well name (nat_lt 0 (length bytes)) bytes o well)

-- the events of batches are sound
flat_sound : (most : ℕ) (batches : List (List Event)) → AllByRecursion (IsBatch most) batches → AreSound (journal_events batches)
flat_sound most [] each = tt
flat_sound most (b ∷ batches) each = all_joined IsSound b (journal_events batches) each.0.body.sound (flat_sound most batches each.1)

pub journal_sound : (limits : LimitNumbers) (bytes : List ℕ) (j : Journal) → IsJournal limits bytes j → AreSound (journal_events j.batches)
journal_sound limits bytes j is =
    elim (cases_lt (length bytes) 2) [
      | inl short ↦ subst (λ (bs : List (List Event)). AreSound (journal_events bs)) (sym (is.short short).0) tt
      | inr long ↦ flat_sound limits.body j.batches (is.long long).1.each
    ]

pub exports_open : ExportsOpen
exports_open limits files journal bytes input reading name numbers is zero =
    let events = journal_events journal.batches in
    let reply = export_reply name (whole_of 0 (get files name)) (open_journal limits journal) in
    let status : status_in reply ≡ 0 = sym (answer_status reply files) ∙ zero in
    let m = missing_well name (get files name) (open_journal limits journal) status in
    let c = capped_well name (nat_lt limits.events (length events)) limits.events (ended_journal events journal.bad) m.1 in
    let e = ended_well name events journal.bad c.1 in
    let reply_is : reply ≡ stores [] name (file2_of events) =
    ap (λ (file : Option (List ℕ)). export_reply name (whole_of 0 file) (open_journal limits journal)) m.0
    ∙ ap (λ (b : Bool). export_reply name missing (if b then refused (journal_too_many limits.events) else ended_journal events journal.bad)) c.0
    ∙ ap (λ (bad : Option ℕ). export_reply name missing (ended_journal events bad)) e.0
    ∙ ap (λ (found : Option BadEvent). export_reply name missing (judged_journal events found)) e.1 in
    let t : session_answer (closed_by reply) files ≡ session_answer (closed_by (stores [] name (file2_of events))) files = ap (λ (r : Reply). session_answer (closed_by r) files) reply_is in
    let one : IsStorable limits events = record { sound = journal_sound limits bytes journal is; few = ltb-false limits.events (length events) c.0 } in
    record {
      was = m.0;
      silent = ap (λ (a : Answer). a.out) t;
      is = ap (λ (a : Answer). get a.files name) t ∙ stored_here files name (file2_of events);
      opens = ap (λ (a : Answer). open_file name limits a.files) t ∙ stored_opens limits files name events numbers (good_from_none_bad events e.1) one;
      others = λ other apart. ap (λ (a : Answer). get a.files other) t ∙ stored_elsewhere files name other (file2_of events) (apart_names other name apart);
    }
