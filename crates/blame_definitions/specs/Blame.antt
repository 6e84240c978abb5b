-- Who inserted which part of a text, as it is printed.
use Rattle.std.specs.Prelude.{ℕ, List, [], ◌∷◌, ◌++◌, Option, Some, None, flat_map, map, length, codes, decimal}
use Rattle.ew_model.specs.declared.id.Id.{Id}
use Rattle.ew_model.specs.declared.event.Event.{Event}
use Rattle.ew_model.specs.Ancestors.{version_events}
use Rattle.ew_model.specs.Entries.{Inserted}
use Rattle.ew_model.specs.Scripts.{escaped_text, id_text, spaced}
use Rattle.ew_model.specs.Texts.{text_chars, visible_at}
use Rattle.ew_model.specs.Touches.{touches}
use Rattle.ew_model.specs.Verdicts.{first_unknown}
use Rattle.blame_definitions.specs.Pieces.{pieces}
use Rattle.blame_definitions.specs.Widths.{shown}

-- the visible characters of a version; of the whole history, where no version is named
abbrev pub chars_at : List Event → Option (List Id) → List Inserted
chars_at history None = text_chars history
chars_at history (Some version) = visible_at history version

-- the characters of a piece
abbrev pub piece_text : List Inserted → List ℕ
piece_text piece = map (λ z. z.ch) piece

-- a line: an id, how many characters a text has, and as many of them as fit into the columns, escaped
abbrev pub text_line : ℕ → Id → List ℕ → List ℕ
text_line columns x text = spaced (id_text x ∷ decimal (length text) ∷ escaped_text (shown columns text) ∷ []) ++ codes "\n"

-- the line of a piece, under the id of its first character
abbrev pub piece_line : ℕ → List Inserted → List ℕ
piece_line columns [] = []
piece_line columns (z ∷ chars) = text_line columns z.id (piece_text (z ∷ chars))

-- the lines of the pieces of these characters
abbrev pub blame_lines : ℕ → List Inserted → List ℕ
blame_lines columns chars = flat_map (piece_line columns) (pieces chars)

-- the blame of a version, or of the whole history
unfoldable pub blame_text : List Event → Option (List Id) → ℕ → List ℕ
blame_text history version columns = blame_lines columns (chars_at history version)

-- the first id of the version that isn't held
abbrev pub unknown_in : List Event → Option (List Id) → Option Id
unknown_in history None = None
unknown_in history (Some version) = first_unknown history version

-- at most how often a walker is touched: by the version's events, or by all
abbrev pub blame_touches : List Event → Option (List Id) → ℕ
blame_touches history None = touches history 0
blame_touches history (Some version) = touches (version_events history version) 0
