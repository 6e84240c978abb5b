-- How many spans of neighbours the critical cuts of a history make.
use Rattle.std.specs.Prelude.{ℕ, suc, ◌==◌, List, [], ◌∷◌, if◌then◌else◌}
use Rattle.ew_model.specs.Positions.{cuts_at}

-- how many spans of neighbours rising numbers make
abbrev pub span_count : List ℕ → ℕ
span_count [] = 0
span_count (k ∷ []) = 1
span_count (k ∷ m ∷ more) = if m == suc k then span_count (m ∷ more) else suc (span_count (m ∷ more))

-- the number of maximal spans of neighbouring critical cuts
abbrev pub cut_runs : List (List ℕ) → ℕ
cut_runs history = span_count (cuts_at history)
