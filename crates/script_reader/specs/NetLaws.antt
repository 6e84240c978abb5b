-- What is proved of net scripts: bytes are one script or have one first bad line, and never both.
use Rattle.std.specs.Prelude.{◌≡◌, ℕ, ◌⊎◌, List}
use Rattle.ew_model.specs.Scripts.{Numbered}
use Rattle.peer_definitions.specs.declared.net_step.NetStep.{NetStep}
use Rattle.peer_definitions.specs.NetScripts.{MeansStep, IsNetScript, IsFirstBadNetLine}

-- a line means one step at most
abbrev pub LinesMeanOneStep : Type 0
LinesMeanOneStep = (line : List ℕ) (x y : NetStep) → MeansStep line x → MeansStep line y → x ≡ y

-- bytes are the net script of one list of steps at most
abbrev pub NetScriptsAreUnique : Type 0
NetScriptsAreUnique = (bytes : List ℕ) (xs ys : List (Numbered NetStep)) → IsNetScript bytes xs → IsNetScript bytes ys → xs ≡ ys

-- bytes have one first bad line at most
abbrev pub FirstBadNetLinesAreUnique : Type 0
FirstBadNetLinesAreUnique = (bytes : List ℕ) (j k : ℕ) → IsFirstBadNetLine bytes j → IsFirstBadNetLine bytes k → j ≡ k

-- no net script has a bad line
abbrev pub NetScriptsHaveNoBadLine : Type 0
NetScriptsHaveNoBadLine = (bytes : List ℕ) (steps : List (Numbered NetStep)) (bad : ℕ) → IsNetScript bytes steps → IsFirstBadNetLine bytes bad → ⊥

-- bytes that are no net script have a bad line
abbrev pub NetBytesAreJudged : Type 0
NetBytesAreJudged = (bytes : List ℕ)
    → ((steps : List (Numbered NetStep)) × IsNetScript bytes steps) ⊎ ((bad : ℕ) × IsFirstBadNetLine bytes bad)
