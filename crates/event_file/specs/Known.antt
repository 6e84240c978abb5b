-- The events before a record, of which the ids are known: reading asks no more of them.
use Rattle.std.specs.Prelude.{◌≡◌, ℕ, ◌<◌, List, [], map, get_or, slice_get, Some}
use Rattle.ew_model.specs.declared.id.Id.{Id}
use Rattle.ew_model.specs.declared.event.Event.{Event}
use Rattle.ew_model.specs.declared.event.Op.TheVariants.{Del}
use Rattle.file_words.specs.FileRuns.{ids_from}
use Rattle.event_file.specs.declared.short_id.ShortId.{ShortId}

-- an event with this id
abbrev pub known_by : Id → Event
known_by x = record { id = x; parents = []; op = Del 0 }

-- events with so many ids of an agent, from this one on
abbrev pub known_run : Id → ℕ → List Event
known_run x count = map known_by (ids_from x.agent x.seq count)

-- the id that a short one stands for, whose agent is told by its place
abbrev pub id_by : List (List ℕ) → ShortId → Id
id_by agents x = record { agent = get_or agents x.agent []; seq = x.seq }

-- events with these ids
abbrev pub known : List (List ℕ) → List ShortId → List Event
known agents ids = map (λ x. known_by (id_by agents x)) ids

-- each has one of so many agents
abbrev pub AreWithin : ℕ → List ShortId → Type 0
AreWithin agents ids = (i : ℕ) (x : ShortId) → slice_get ids i ≡ Some x → x.agent < agents
