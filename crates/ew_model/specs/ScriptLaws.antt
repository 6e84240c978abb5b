-- What is proved of edit scripts: bytes are one script or have one first bad line, and never both.
use Rattle.std.specs.Prelude.{◌≡◌, ℕ, ◌⊎◌, List}
use Rattle.ew_model.specs.Edits.{Edit}
use Rattle.ew_model.specs.Scripts.{Numbered, MeansEdit, IsScript, IsFirstBadLine}

-- a line means one edit at most
abbrev pub LinesMeanOneEdit : Type 0
LinesMeanOneEdit = (line : List ℕ) (x y : Edit) → MeansEdit line x → MeansEdit line y → x ≡ y

-- bytes are the script of one list of edits at most
abbrev pub ScriptsAreUnique : Type 0
ScriptsAreUnique = (bytes : List ℕ) (xs ys : List (Numbered Edit)) → IsScript bytes xs → IsScript bytes ys → xs ≡ ys

-- bytes have one first bad line at most
abbrev pub FirstBadLinesAreUnique : Type 0
FirstBadLinesAreUnique = (bytes : List ℕ) (j k : ℕ) → IsFirstBadLine bytes j → IsFirstBadLine bytes k → j ≡ k

-- no script has a bad line
abbrev pub ScriptsHaveNoBadLine : Type 0
ScriptsHaveNoBadLine = (bytes : List ℕ) (edits : List (Numbered Edit)) (bad : ℕ) → IsScript bytes edits → IsFirstBadLine bytes bad → ⊥

-- bytes that are no script have a bad line
abbrev pub BytesAreJudged : Type 0
BytesAreJudged = (bytes : List ℕ)
    → ((edits : List (Numbered Edit)) × IsScript bytes edits) ⊎ ((bad : ℕ) × IsFirstBadLine bytes bad)
