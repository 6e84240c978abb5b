-- Runs one after another on one shelf and one disk.
use Rattle.std.specs.Prelude.{◌≡◌, ⊤, ℕ, List, [], ◌∷◌, Option, Some}
use Rattle.ew_model.specs.Limits.{LimitNumbers}
use Rattle.ew_outside.specs.Files.{Files}
use Rattle.command_table.specs.Table.{Text, Answer, line_of}
use Rattle.command_table.specs.Journals.{Journal, TellsJournal}
use Rattle.command_table.specs.Lines.{Meaning, IsMeant, table, table_journal}
use Rattle.command_table.specs.Headline.{IsRun}
use Rattle.command_table.specs.Outcomes.{IsAnswered}
use Rattle.command_table.specs.Seen.{Seen}

-- a run: its words, what its objects told before and after, and its status
pub record Ran : Type 0 where
  pub words : List Text
  pub old : Seen
  pub new : Seen
  pub status : ℕ

-- each run begins with the files and the disk's bytes that the one before left; the streams are its own
abbrev pub FollowOn : LimitNumbers → Option Files → Option (List ℕ) → List Ran → Type 0
FollowOn limits files bytes [] = ⊤
FollowOn limits files bytes (r ∷ rs) = (r.old.shelf.files ≡ files) × (r.old.disk.bytes ≡ bytes) × IsRun r.words limits r.old r.new r.status
    × FollowOn limits r.new.shelf.files r.new.disk.bytes rs

-- a command line: its words, its input, and what the input means to it
pub record CommandLine (limits : LimitNumbers) : Type 0 where
  pub words : List Text
  pub input : List ℕ
  pub meaning : Meaning (line_of words)
  pub means : IsMeant limits (line_of words) input meaning

-- the runs are of these command lines
abbrev pub AreOf : {limits : LimitNumbers} → List (CommandLine limits) → List Ran → Type 0
AreOf [] [] = ⊤
AreOf (l ∷ ls) (r ∷ rs) = (r.words ≡ l.words) × (r.old.input.left ≡ Some l.input) × AreOf ls rs
AreOf _ _ = ⊥

-- what runs leave: the files, and the journal
pub record Stored : Type 0 where
  pub files : Files
  pub journal : Journal

-- what the table answers to a line
abbrev pub table_answer : (limits : LimitNumbers) → Stored → CommandLine limits → Answer
table_answer limits s l = table l.words limits s.files s.journal l.input l.meaning

-- and what it leaves
abbrev pub table_stored : (limits : LimitNumbers) → Stored → CommandLine limits → Stored
table_stored limits s l = record { files = (table_answer limits s l).files; journal = table_journal l.words limits s.journal l.input l.meaning }

-- no run met a fault or want of memory
abbrev pub NoneFails : List Ran → Type 0
NoneFails [] = ⊤
NoneFails (r ∷ rs) = (r.status ≡ 6 → ⊥) × (r.status ≡ 8 → ⊥) × NoneFails rs

-- the files after the runs
abbrev pub files_at_end : Option Files → List Ran → Option Files
files_at_end files [] = files
files_at_end files (r ∷ rs) = files_at_end r.new.shelf.files rs

-- the disk's bytes after the runs
abbrev pub bytes_at_end : Option (List ℕ) → List Ran → Option (List ℕ)
bytes_at_end bytes [] = bytes
bytes_at_end bytes (r ∷ rs) = bytes_at_end r.new.disk.bytes rs

-- the fold of the table
abbrev pub stored_at_end : (limits : LimitNumbers) → Stored → List (CommandLine limits) → Stored
stored_at_end limits s [] = s
stored_at_end limits s (l ∷ ls) = stored_at_end limits (table_stored limits s l) ls

-- each run did what the table says over what was stored so far
abbrev pub AreAnswered : (limits : LimitNumbers) → Stored → List (CommandLine limits) → List Ran → Type 0
AreAnswered limits s [] [] = ⊤
AreAnswered limits s (l ∷ ls) (r ∷ rs) = IsAnswered (table_answer limits s l) r.old r.new r.status × AreAnswered limits (table_stored limits s l) ls rs
AreAnswered limits s _ _ = ⊥

-- what stands at the end of the runs of a list of command lines
pub record StandsAtEnd (limits : LimitNumbers) (s : Stored) (bytes : Option (List ℕ)) (lines : List (CommandLine limits)) (runs : List Ran) : Type 0 where
  pub files : files_at_end (Some s.files) runs ≡ Some (stored_at_end limits s lines).files
  pub journal : TellsJournal limits (bytes_at_end bytes runs) (stored_at_end limits s lines).journal
  pub answered : AreAnswered limits s lines runs

-- The runs of a list of command lines leave the fold of the table, files and journal, and each prints what the table says.
abbrev pub RunsFold : Type 0
RunsFold = (limits : LimitNumbers) (lines : List (CommandLine limits)) (runs : List Ran) (s : Stored) (bytes : Option (List ℕ))
    → TellsJournal limits bytes s.journal → FollowOn limits (Some s.files) bytes runs → AreOf lines runs → NoneFails runs
    → StandsAtEnd limits s bytes lines runs
