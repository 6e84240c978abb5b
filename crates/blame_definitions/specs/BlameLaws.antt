-- What is proved of blame.
use Rattle.std.specs.Prelude.{◌≡◌, ℕ, ◌<◌, ◌≤◌, List, ◌++◌, Option, Some, None, flat_map, length, encode_utf8_all}
use Rattle.ew_model.specs.declared.id.Id.{Id}
use Rattle.ew_model.specs.declared.event.Event.{Event}
use Rattle.ew_model.specs.Ancestors.{version_events}
use Rattle.ew_model.specs.Sets.{SameElements}
use Rattle.ew_model.specs.Scripts.{escaped_text}
use Rattle.ew_model.specs.Texts.{text_at, text_of}
use Rattle.ew_model.specs.Verdicts.{IsGood}
use Rattle.blame_definitions.specs.Blame.{blame_text, chars_at, piece_text}
use Rattle.blame_definitions.specs.Pieces.{pieces}
use Rattle.blame_definitions.specs.Widths.{columns_of, escape, shown}

-- The pieces' characters, joined, are the text of the version, or of the whole history.
abbrev pub PiecesMakeText : Type 0
PiecesMakeText = (history : List Event)
    → ((version : List Id) → flat_map piece_text (pieces (chars_at history (Some version))) ≡ text_at history version)
    × (flat_map piece_text (pieces (chars_at history None)) ≡ text_of history)

-- Good histories with the same events have the same blame.
abbrev pub EqualSetsBlameAlike : Type 0
EqualSetsBlameAlike = (xs ys : List Event) (version : Option (List Id)) (columns : ℕ) → IsGood xs → IsGood ys → SameElements xs ys
    → blame_text xs version columns ≡ blame_text ys version columns

-- The blame of a version is that of its events, as a history of their own.
abbrev pub VersionsBlameAlone : Type 0
VersionsBlameAlone = (history : List Event) (version : List Id) (columns : ℕ) → IsGood history
    → blame_text history (Some version) columns ≡ blame_text (version_events history version) None columns

-- the part is a front of the text that fits into the columns, and no longer front does
pub record IsLongest (columns : ℕ) (text part : List ℕ) : Type 0 where
  pub rest : List ℕ
  pub front : text ≡ part ++ rest
  pub fits : columns_of part ≤ columns
  pub longer : (xs ys : List ℕ) → text ≡ xs ++ ys → length part < length xs → columns < columns_of xs

-- What is shown of a text is the longest front that fits.
abbrev pub ShownIsLongest : Type 0
ShownIsLongest = (columns : ℕ) (text : List ℕ) → IsLongest columns text (shown columns text)

-- The escaped form, as bytes, is the UTF-8 of the characters whose columns count.
abbrev pub EscapesAreEscapedText : Type 0
EscapesAreEscapedText = (text : List ℕ) → encode_utf8_all (flat_map escape text) ≡ escaped_text text
