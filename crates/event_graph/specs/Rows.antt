-- The parts of a judgement.
use Rattle.std.specs.Prelude.{List, [], ◌∷◌, Option, Some, None}
use Rattle.ew_model.specs.Verdicts.{Ruling}

-- the first row that holds, if one does
abbrev pub row_in : List (Option Ruling) → Option Ruling
row_in [] = None
row_in (None ∷ rows) = row_in rows
row_in (Some ruling ∷ rows) = Some ruling
