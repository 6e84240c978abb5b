-- Which events a list of counts leaves out.
use Rattle.std.specs.Prelude.{ℕ, nat_le, List, filter}
use Rattle.std.specs.Map.{lookup}
use Rattle.std.specs.Option.{unwrap_or}
use Rattle.ew_model.specs.declared.event.Event.{Event}
use Rattle.ew_model.specs.Ids.{name_eq}

-- an agent's count: 0 where it isn't in the list
abbrev pub count_in : List (List ℕ × ℕ) → List ℕ → ℕ
count_in counts agent = unwrap_or (lookup (name_eq agent) counts) 0

-- the events whose number isn't below their agent's count, in the history's order
abbrev pub missing : List Event → List (List ℕ × ℕ) → List Event
missing history counts = filter (λ (e : Event). nat_le (count_in counts e.id.agent) e.id.seq) history
