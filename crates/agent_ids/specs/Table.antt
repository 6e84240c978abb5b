-- What a table keeps beside its ids.
use Rattle.std.specs.Prelude.{◌≡◌, ℕ, suc, ◌<◌, ◌^◌, List, [], ◌∷◌, map, length, if◌then◌else◌, Some, slice_get}
use Rattle.ew_model.specs.declared.id.Id.{Id}
use Rattle.ew_model.specs.Ids.{name_eq}
use Rattle.history_definitions.specs.Agents.{agents_of, AreNumbered}
use Rattle.agent_ids.specs.IdRuns.{last_in}

-- the positions of the agent's ids, the first of all ids having this position
abbrev pub positions_from : ℕ → List Id → List ℕ → List ℕ
positions_from position [] agent = []
positions_from position (x ∷ ids) agent =
    if name_eq x.agent agent then position ∷ positions_from (suc position) ids agent else positions_from (suc position) ids agent

-- the positions of the agent's ids, rising
abbrev pub positions_of : List Id → List ℕ → List ℕ
positions_of ids agent = positions_from 0 ids agent

-- the names are the agents in order of first use, with the positions of each one's ids
pub record AreAgents (ids : List Id) (names positions : List (List ℕ)) : Type 0 where
  pub named : names ≡ agents_of ids
  pub placed : positions ≡ map (positions_of ids) names

-- the number is the place of the last id's agent among the names, where there is an id
abbrev pub IsNumberOfLast : List Id → List (List ℕ) → ℕ → Type 0
IsNumberOfLast ids names number = (x : Id) → last_in ids ≡ Some x → slice_get names number ≡ Some x.agent

-- the table of ids of which there are few enough, with the number of the last one's agent
pub record IsTable (ids : List Id) (names positions : List (List ℕ)) (last : ℕ) : Type 0 where
  pub agents : AreAgents ids names positions
  pub numbered : AreNumbered ids
  pub few : length ids < 2 ^ 32
  pub last_is : IsNumberOfLast ids names last
