-- What past versions and replays promise.
use Rattle.std.specs.Prelude.{◌≡◌, ◌↔◌, ℕ, true, List, [], Some, encode_utf8_all}
use Rattle.std.specs.List.{AllByRecursion, list_all}
use Rattle.ew_model.specs.declared.id.Id.{Id}
use Rattle.ew_model.specs.declared.event.Event.{Event}
use Rattle.ew_model.specs.declared.text_op.TextOp.{TextOp}
use Rattle.ew_model.specs.Ancestors.{heads, is_held}
use Rattle.ew_model.specs.Ids.{id_cmp}
use Rattle.ew_model.specs.Limits.{LimitNumbers, AreLimits}
use Rattle.ew_model.specs.Operations.{changed_by_all}
use Rattle.ew_model.specs.Scripts.{version_text}
use Rattle.ew_model.specs.Sets.{Among}
use Rattle.ew_model.specs.Sorting.{sort_by}
use Rattle.ew_outside.specs.Files.{Files}
use Rattle.history_definitions.specs.Replays.{change_lines}
use Rattle.history_definitions.specs.Versions.{IsVersion}
use Rattle.history_view.specs.ReplayLaw.{HasSmallIndex}
use Rattle.table_laws.specs.MergeLaws.{HoldsBytes}
use Rattle.command_table.specs.Scripts.{Reading}
use Rattle.command_table.specs.Table.{Text, content, content_at, past, replay, show, prints, opened, open_file, reply_to}
use Rattle.command_table.specs.VersionWords.{version_in}

-- A word is taken for a version exactly where it is one, and for no other.
abbrev pub VersionsAreTaken : Type 0
VersionsAreTaken = (word : List ℕ) (ids : List Id) → (version_in word ≡ Some ids) ↔ IsVersion word ids

-- all its ids are held, and each head is among them
pub record NamesAll (history : List Event) (version : List Id) : Type 0 where
  pub held : list_all (is_held history) version ≡ true
  pub heads : (x : Id) → Among x (heads history) → Among x version

-- Where a version names all heads of a file, and no id that the file doesn't hold, `cat --at` answers what `cat` answers.
abbrev pub HeadsShowAll : Type 0
HeadsShowAll = (limits : LimitNumbers) (files : Files) (input : List ℕ) (reading : Reading) (name : Text) (events : List Event) (version : List Id)
    → open_file name limits files ≡ opened events → NamesAll events version
    → reply_to (show (past version) name) limits files input reading ≡ reply_to (show content name) limits files input reading

-- The heads of a file, ascending, with a comma between two (`root` where there is none) are the word of a version that names them all.
abbrev pub HeadsAreAVersion : Type 0
HeadsAreAVersion = (limits : LimitNumbers) (files : Files) (name : Text) (events : List Event)
    → HoldsBytes files name → open_file name limits files ≡ opened events
    → let version = sort_by id_cmp (heads events) in
    (content_at (Some (version_text version)) ≡ Some (past version)) × NamesAll events version

-- What `replay` prints of a file is read in one way, as operations, and doing these one after another, from the empty text on, makes what `cat` prints.
pub record AreReplayed (limits : LimitNumbers) (files : Files) (input : List ℕ) (reading : Reading) (name : Text) (ops : List TextOp) : Type 0 where
  pub small : AllByRecursion HasSmallIndex ops
  pub lines : reply_to (show replay name) limits files input reading ≡ prints (change_lines ops)
  pub once : (others : List TextOp) → AllByRecursion HasSmallIndex others → reply_to (show replay name) limits files input reading ≡ prints (change_lines others) → others ≡ ops
  pub made : reply_to (show content name) limits files input reading ≡ prints (encode_utf8_all (changed_by_all ops []))

-- Each file that opens has such a replay.
abbrev pub ReplaysMakeContent : Type 0
ReplaysMakeContent = (limits : LimitNumbers) (files : Files) (input : List ℕ) (reading : Reading) (name : Text) (events : List Event)
    → AreLimits limits → HoldsBytes files name → open_file name limits files ≡ opened events → (ops : List TextOp) × AreReplayed limits files input reading name ops
