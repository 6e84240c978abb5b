-- Carets, and which characters stand on which side of them.
use Rattle.std.specs.Prelude.{ℕ, zero, suc, Bool, not, List, filter, find, length, slice_get, Option, Some, None, option_map}
use Rattle.ew_model.specs.declared.id.Id.{Id}
use Rattle.ew_model.specs.declared.event.Event.{Event}
use Rattle.ew_model.specs.Ids.{id_eq}
use Rattle.ew_model.specs.Paths.{path_lt}
use Rattle.ew_model.specs.Entries.{Inserted, insertions}
use Rattle.ew_model.specs.Texts.{visible_at}
pub use Rattle.ew_model.specs.Texts.{text_chars}
use Rattle.ew_model.specs.Tree.{all_entries, tree}
use Rattle.carets.specs.declared.caret.Caret.{Caret}
use Rattle.carets.specs.declared.caret.Caret.TheVariants.{Root, Behind}

-- the inserted characters of a history, deleted ones too
abbrev pub all_chars : List Event → List Inserted
all_chars history = insertions (all_entries 0 (tree history))

-- the caret at an index among characters: behind the one before the index, or at the start
abbrev pub caret_in : List Inserted → ℕ → Option Caret
caret_in chars zero = Some Root
caret_in chars (suc i) = option_map (λ (z : Inserted). Behind z.id) (slice_get chars i)

-- the caret at an index of a version's text
abbrev pub caret_at : List Event → List Id → ℕ → Option Caret
caret_at history version at = caret_in (visible_at history version) at

-- the character that was inserted under the id
abbrev pub char_of : List Inserted → Id → Option Inserted
char_of chars x = find (λ (z : Inserted). id_eq z.id x) chars

-- the second character is the first, or stands before it
abbrev pub is_up_to : Inserted → Inserted → Bool
is_up_to c z = not (path_lt c.path z.path)

-- how many characters stand up to this one
abbrev pub many_up_to : Option Inserted → List Inserted → ℕ
many_up_to None chars = 0
many_up_to (Some c) chars = length (filter (is_up_to c) chars)

-- the index of a caret in the text of a history: so many characters of the text stand up to the caret's own
abbrev pub side : List Event → Caret → ℕ
side history Root = 0
side history (Behind x) = many_up_to (char_of (all_chars history) x) (text_chars history)
