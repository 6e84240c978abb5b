-- The agents of a history, and which lists of events may be written as a file.
use Rattle.std.specs.Prelude.{◌≡◌, ℕ, ◌<◌, ◌^◌, Bool, true, not, ◌&&◌, List, [], ◌∷◌, ◌++◌, length, fold, if◌then◌else◌, nat_le}
use Rattle.std.specs.List.{list_any, list_all}
use Rattle.ew_model.specs.declared.event.Event.{Event}
use Rattle.ew_model.specs.Ids.{name_eq, ids_ascend}
use Rattle.ew_model.specs.Ancestors.{is_held}

-- one agent more, where the event's agent isn't there yet
abbrev pub with_agent : List (List ℕ) → Event → List (List ℕ)
with_agent agents e = if list_any (name_eq e.id.agent) agents then agents else agents ++ e.id.agent ∷ []

-- the agents of a history, in the order of their first events
abbrev pub agents_of : List Event → List (List ℕ)
agents_of history = fold with_agent [] history

-- each event has its own id, parents that stand before it, ascending, and at most 16 of them
abbrev pub are_writable_after : List Event → List Event → Bool
are_writable_after before [] = true
are_writable_after before (e ∷ events) =
    not (is_held before e.id) && list_all (is_held before) e.parents && ids_ascend e.parents && nat_le (length e.parents) 16
    && are_writable_after (before ++ e ∷ []) events

-- the lists of events that may be written as a file
pub record IsWritable (history : List Event) : Type 0 where
  pub few : length history < 2 ^ 32
  pub each : are_writable_after [] history ≡ true
