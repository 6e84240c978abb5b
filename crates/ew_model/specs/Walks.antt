-- A walk over the events of a history from a cut on: what is below the cut is a base, known by its length alone, and the
-- events behind it are named by their positions (Eg-walker, EuroSys 2025, section 3.5: clearing at a critical version).
use Rattle.std.specs.Prelude.{ℕ, suc, ◌+◌, List, [], ◌∷◌, ◌++◌, length, if◌then◌else◌, take, drop}
use Rattle.ew_model.specs.declared.id.Id.{Id}
use Rattle.ew_model.specs.declared.event.Event.{Event}
use Rattle.ew_model.specs.Ids.{is_among}
use Rattle.ew_model.specs.Ancestors.{ancestors}
use Rattle.ew_model.specs.Tree.{Applied, act_by, applied_after}
use Rattle.ew_model.specs.Texts.{text_of}

-- how many characters the text below a cut has
abbrev pub base_at : List Event → ℕ → ℕ
base_at history k = length (text_of (take k history))

-- the events from a cut on, under their ids
abbrev pub applied_from : List Event → ℕ → List (Applied Id)
applied_from history k = applied_after (take k history) (drop k history)

-- the positions, from n on, of those events whose ids are among these
abbrev pub positions_among : List Id → ℕ → List Event → List ℕ
positions_among ids n [] = []
positions_among ids n (e ∷ events) = if is_among ids e.id then n ∷ positions_among ids (suc n) events else positions_among ids (suc n) events

-- The events that follow those below the cut k and those between, named by their positions: each over those of its
-- ancestors that aren't below.
abbrev pub walked_after : ℕ → List Event → List Event → List Event → List (Applied ℕ)
walked_after k below between [] = []
walked_after k below between (e ∷ events) =
    record { name = k + length between; act = act_by e.id e.op; over = positions_among (ancestors (below ++ between) e.parents) k between }
    ∷ walked_after k below (between ++ e ∷ []) events

-- the events from a cut on, as a walk applies them
abbrev pub walked_from : List Event → ℕ → List (Applied ℕ)
walked_from history k = walked_after k (take k history) [] (drop k history)
