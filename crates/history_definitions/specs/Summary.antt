-- How many events each agent has.
use Rattle.std.specs.Prelude.{ℕ, List, map}
use Rattle.std.specs.Ordering.{nat_cmp}
use Rattle.std.specs.Cmp.Lexicographic.{slice_cmp}
use Rattle.ew_model.specs.declared.event.Event.{Event}
use Rattle.ew_model.specs.Ancestors.{ids_of}
use Rattle.ew_model.specs.Edits.{count_of}
use Rattle.ew_model.specs.Sorting.{sort_by}
use Rattle.history_definitions.specs.Agents.{agents_of}

-- the agents of a history, ascending, each with how many events it has
abbrev pub summary_of : List Event → List (List ℕ × ℕ)
summary_of history = map (λ agent. (agent, count_of history agent)) (sort_by (slice_cmp nat_cmp) (agents_of (ids_of history)))
