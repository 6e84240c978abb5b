-- The edits that the program holds, as the edits of the model.
use Rattle.std.specs.Prelude.{◌≡◌, ℕ, List, [], ◌∷◌, ◌++◌, map, Option, MatchOption}
use Rattle.ew_model.specs.Edits.{Edit}
use Rattle.ew_model.specs.Edits as model
use Rattle.ew_model.specs.Scripts.{Numbered, MeansEdit, LinesMean}
use Rattle.script_reader.specs.declared.edit as declared
use Rattle.script_reader.specs.declared.edit.Edit.TheVariants.{Ins, Del, Mark}

-- the edit that a value stands for
abbrev pub edit_meant : declared.Edit.Edit → Edit
edit_meant (Ins at text) = model.Edit.Insert at text
edit_meant (Del at n) = model.Edit.Delete at n
edit_meant (Mark label) = model.Edit.Mark label

-- the edits that values stand for, each with the number of its line
abbrev pub numbered_edits : List (ℕ × declared.Edit.Edit) → List (Numbered Edit)
numbered_edits values = map (λ x. record { line = x.0; item = edit_meant x.1 }) values

-- what was read of the line: the edit that it means, or nothing where it means none
abbrev pub IsReading : List ℕ → Option declared.Edit.Edit → Type 0
IsReading line found = MatchOption found ((e : Edit) → ¬ MeansEdit line e) (λ value. MeansEdit line (edit_meant value))

-- the values that the line of this number means stand behind the others
abbrev pub AddsLine : ℕ → List ℕ → List (ℕ × declared.Edit.Edit) → List (ℕ × declared.Edit.Edit) → Type 0
AddsLine number line old new =
    (added : List (ℕ × declared.Edit.Edit)) × (new ≡ old ++ added) × LinesMean MeansEdit number (line ∷ []) (numbered_edits added)
