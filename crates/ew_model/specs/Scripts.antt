-- Edit scripts, ids and versions as bytes: how each is spelled, and which bytes mean which edits.
use Rattle.std.specs.Prelude.{◌≡◌, ℕ, ◌+◌, ◌<◌, ◌^◌, true, ◌⊎◌, List, [], ◌∷◌, ◌++◌, flat_map, if◌then◌else◌, ◌==◌, codes, decimal}
use Rattle.std.specs.Char.{encode_utf8}
use Rattle.std.specs.Str.{all_scalars}
use Rattle.std.specs.List.{join_by, onto_first}
use Rattle.ew_model.specs.declared.id.Id.{Id}
use Rattle.ew_model.specs.Names.{is_name}
use Rattle.ew_model.specs.Edits.{Edit}
use Rattle.ew_model.specs.Edits.Edit.{Insert, Delete, Mark}

-- the lines of the bytes: each newline ends one, and what stands behind the last newline is one too, unless it is empty
abbrev pub lines_of : List ℕ → List (List ℕ)
lines_of [] = []
lines_of (b ∷ bytes) = if b == 10 then [] ∷ lines_of bytes else onto_first b (lines_of bytes)

-- a character as it is written: a newline and a backslash are escaped, any other is its UTF-8
abbrev pub escaped_char : ℕ → List ℕ
escaped_char c = if c == 10 then codes "\\n" else if c == 92 then codes "\\\\" else encode_utf8 c

-- characters as they are written, one behind the other
abbrev pub escaped_text : List ℕ → List ℕ
escaped_text text = flat_map escaped_char text

-- words with one space between two
abbrev pub spaced : List (List ℕ) → List ℕ
spaced words = join_by (λ word. word) (codes " ") words

-- an id: its agent's name, a colon, its number
abbrev pub id_text : Id → List ℕ
id_text x = x.agent ++ codes ":" ++ decimal x.seq

-- a version: `root` for no ids, else the ids with a comma between two
abbrev pub version_text : List Id → List ℕ
version_text [] = codes "root"
version_text (x ∷ ids) = join_by id_text (codes ",") (x ∷ ids)

-- the line of an edit
abbrev pub edit_line : Edit → List ℕ
edit_line (Insert at text) = spaced (codes "ins" ∷ decimal at ∷ escaped_text text ∷ [])
edit_line (Delete at count) = spaced (codes "del" ∷ decimal at ∷ decimal count ∷ [])
edit_line (Mark label) = spaced (codes "mark" ∷ label ∷ [])

-- numbers of 32 bits, characters that are Unicode scalar values, and a label that is a name
abbrev pub IsSoundEdit : Edit → Type 0
IsSoundEdit (Insert at text) = (at < 2 ^ 32) × (all_scalars text ≡ true)
IsSoundEdit (Delete at count) = (at < 2 ^ 32) × (count < 2 ^ 32)
IsSoundEdit (Mark label) = is_name label ≡ true

-- the line means the edit
pub record MeansEdit (line : List ℕ) (edit : Edit) : Type 0 where
  pub sound : IsSoundEdit edit
  pub spelled : edit_line edit ≡ line

-- what a line means, with the number of the line
pub record Numbered (A : Type 0) : Type 0 where
  pub line : ℕ
  pub item : A

-- The lines, numbered from n on, mean these items in order: an empty line means nothing, any other line means one item.
abbrev pub LinesMean : {A : Type 0} → (List ℕ → A → Type 0) → ℕ → List (List ℕ) → List (Numbered A) → Type 0
LinesMean Means n [] [] = Unit {0}
LinesMean Means n [] (x ∷ items) = ⊥
LinesMean Means n ([] ∷ lines) items = LinesMean Means (n + 1) lines items
LinesMean Means n ((b ∷ line) ∷ lines) [] = ⊥
LinesMean Means n ((b ∷ line) ∷ lines) (x ∷ items) = (x.line ≡ n) × Means (b ∷ line) x.item × LinesMean Means (n + 1) lines items

-- the line is empty or means something
abbrev pub IsReadable : {A : Type 0} → (List ℕ → A → Type 0) → List ℕ → Type 0
IsReadable {A} Means line = (line ≡ []) ⊎ ((x : A) × Means line x)

-- of the lines, numbered from n on, the first that isn't readable has the number bad
abbrev pub IsFirstUnreadable : {A : Type 0} → (List ℕ → A → Type 0) → ℕ → List (List ℕ) → ℕ → Type 0
IsFirstUnreadable Means n [] bad = ⊥
IsFirstUnreadable Means n (line ∷ lines) bad =
    (¬ IsReadable Means line × (bad ≡ n)) ⊎ (IsReadable Means line × IsFirstUnreadable Means (n + 1) lines bad)

-- the bytes are the script of these edits; lines count from 1
abbrev pub IsScript : List ℕ → List (Numbered Edit) → Type 0
IsScript bytes edits = LinesMean MeansEdit 1 (lines_of bytes) edits

-- the first line of the bytes that is neither empty nor means an edit has this number
abbrev pub IsFirstBadLine : List ℕ → ℕ → Type 0
IsFirstBadLine bytes bad = IsFirstUnreadable MeansEdit 1 (lines_of bytes) bad
