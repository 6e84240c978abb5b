use Rattle.std.proofs.Common.{◌≡◌, Bool, true, false, List, [], ◌∷◌, refl, sym, ap, ◌∙◌, subst, append-nil, Option, Some, None, ℕ}
use Rattle.ew_model.specs.declared.event.Event.{Event}
use Rattle.ew_model.specs.Limits.{LimitNumbers}
use Rattle.ew_outside.specs.Files.{Files}
use Rattle.command_table.specs.Table.{Line, line_of}
use Rattle.command_table.specs.Journals.{Journal, TellsJournal, with_lines}
use Rattle.command_table.specs.Lines.{Meaning, IsMeant, session_of, kept_of}
use Rattle.command_table.specs.Reads.{uses_journal}
use Rattle.command_table.specs.Sessions.{session_answer}
use Rattle.command_table.specs.Headline.{IsRunOf}
use Rattle.command_table.specs.Outcomes.{IsAnswered}
use Rattle.command_table.specs.Seen.{Seen}
use Rattle.command_table.specs.Table as table
use Rattle.table_laws.specs.Sequences.{CommandLine, Ran, Stored, table_stored, FollowOn, AreOf, NoneFails, AreAnswered, files_at_end, bytes_at_end, stored_at_end}
use Rattle.table_laws.proofs.law_runs.Goals as goal

-- a run that meets no fault and isn't out of memory answers what the table says
answered : (l : Option Line) (limits : LimitNumbers) (files : Files) (journal : Journal) (input : List ℕ) (meaning : Meaning l) (old new : Seen) (status : ℕ)
    → IsRunOf l limits old new status → old.shelf.files ≡ Some files → TellsJournal limits old.disk.bytes journal → old.input.left ≡ Some input → IsMeant limits l input meaning
    → (status ≡ 6 → ⊥) → (status ≡ 8 → ⊥) → IsAnswered (session_answer (session_of l limits files journal input meaning) files) old new status
answered l limits files journal input meaning old new status run is told left means no_fault no_want =
    (run.answers.known files journal input meaning is (λ uses. told) (λ reads. (left, means))).0.answered no_fault no_want

-- a line that has no use for the journal keeps nothing
nothing_kept : (l : Option Line) (limits : LimitNumbers) (journal : Journal) (input : List ℕ) (meaning : Meaning l) → uses_journal l ≡ false → kept_of l limits journal input meaning ≡ []
nothing_kept None limits journal input meaning unused = refl
nothing_kept (Some (table.does command)) limits journal input meaning unused = refl
nothing_kept (Some (table.serves file)) limits journal input meaning unused = refl
nothing_kept (Some (table.watches agent)) limits journal input meaning unused = absurd cc
nothing_kept (Some (table.exports file)) limits journal input meaning unused = refl

same_journal : (limits : LimitNumbers) (journal : Journal) → journal ≡ with_lines limits journal []
same_journal limits journal = ap (λ (bs : List (List Event)). record { batches = bs; bad = journal.bad }) (sym (append-nil journal.batches))

by_use : (b : Bool) (P : Type 0) → (b ≡ true → P) → (b ≡ false → P) → P
by_use true P one other = one refl
by_use false P one other = other refl

-- and leaves the journal that the table says
kept : (l : Option Line) (limits : LimitNumbers) (journal : Journal) (input : List ℕ) (meaning : Meaning l) (old new : Seen) (status : ℕ)
    → IsRunOf l limits old new status → TellsJournal limits old.disk.bytes journal → old.input.left ≡ Some input → IsMeant limits l input meaning
    → (status ≡ 6 → ⊥) → (status ≡ 8 → ⊥) → TellsJournal limits new.disk.bytes (with_lines limits journal (kept_of l limits journal input meaning))
kept l limits journal input meaning old new status run told left means no_fault no_want =
    by_use (uses_journal l) (TellsJournal limits new.disk.bytes (with_lines limits journal (kept_of l limits journal input meaning)))
    (λ uses. (run.journals.known journal input meaning uses told (λ reads. (left, means))).whole no_fault no_want)
    (λ unused.
    let same : new.disk.bytes ≡ old.disk.bytes = ap (λ d. d.bytes) (run.journals.alone unused) in
    let none : journal ≡ with_lines limits journal (kept_of l limits journal input meaning) =
    same_journal limits journal ∙ ap (with_lines limits journal) (sym (nothing_kept l limits journal input meaning unused)) in
    subst (λ o. TellsJournal limits o (with_lines limits journal (kept_of l limits journal input meaning))) (sym same) (subst (TellsJournal limits old.disk.bytes) none told))

fold : (limits : LimitNumbers) (lines : List (CommandLine limits)) (runs : List Ran) (s : Stored) (files : Option Files) (bytes : Option (List ℕ)) → files ≡ Some s.files
    → TellsJournal limits bytes s.journal → FollowOn limits files bytes runs → AreOf lines runs → NoneFails runs
    → (files_at_end files runs ≡ Some (stored_at_end limits s lines).files) × TellsJournal limits (bytes_at_end bytes runs) (stored_at_end limits s lines).journal × AreAnswered limits s lines runs
fold limits [] [] s files bytes is told follow of none = (is, told, tt)
fold limits [] (r ∷ rs) s files bytes is told follow of none = absurd of
fold limits (l ∷ ls) [] s files bytes is told follow of none = absurd of
fold limits (l ∷ ls) (r ∷ rs) s files bytes is told follow of none =
    let run : IsRunOf (line_of l.words) limits r.old r.new r.status = subst (λ words. IsRunOf (line_of words) limits r.old r.new r.status) of.0 follow.2 in
    let at = subst (λ o. TellsJournal limits o s.journal) (sym follow.1) told in
    let here = answered (line_of l.words) limits s.files s.journal l.input l.meaning r.old r.new r.status run (follow.0 ∙ is) at of.1 l.means none.0 none.1 in
    let now = kept (line_of l.words) limits s.journal l.input l.meaning r.old r.new r.status run at of.1 l.means none.0 none.1 in
    let rest = fold limits ls rs (table_stored limits s l) r.new.shelf.files r.new.disk.bytes here.files now follow.3 of.2 none.2 in
    (rest.0, rest.1, (here, rest.2))

pub returns : goal.returns
returns c = λ limits lines runs s bytes told follow of none.
    let f = fold limits lines runs s (Some s.files) bytes refl told follow of none in
    record { files = f.0; journal = f.1; answered = f.2 }
