-- Characters cut into pieces, each inserted by one agent's events in a row, and none with a newline but at its end.
use Rattle.std.specs.Prelude.{Bool, not, ◌&&◌, ◌==◌, List, [], ◌∷◌, if◌then◌else◌}
use Rattle.std.specs.List.{onto_first}
use Rattle.ew_model.specs.Ids.{id_eq}
use Rattle.ew_model.specs.Entries.{Inserted}
use Rattle.history_definitions.specs.Chains.{next_id}

-- a piece that ends with the first character goes on with the second: the same agent's next event inserted it, and the first is no
-- newline
abbrev pub goes_on : Inserted → Inserted → Bool
goes_on z y = not (z.ch == 10) && id_eq y.id (next_id z.id)

-- the pieces, in order: a character stands in the same piece as the next one exactly where the piece goes on
abbrev pub pieces : List Inserted → List (List Inserted)
pieces [] = []
pieces (z ∷ []) = (z ∷ []) ∷ []
pieces (z ∷ y ∷ chars) = if goes_on z y then onto_first z (pieces (y ∷ chars)) else (z ∷ []) ∷ pieces (y ∷ chars)
