-- The bytes of a file as it is written, by numbers.
use Rattle.std.specs.Prelude.{ℕ, List, ◌∷◌, ◌++◌, [], length, flat_map, if◌then◌else◌, codes}
use Rattle.std.specs.List.{list_any}
use Rattle.ew_model.specs.declared.event.Op.{Op}
use Rattle.ew_model.specs.Ids.{name_eq}
use Rattle.ew_model.specs.Bytes.{four_bytes, name_bytes, op_bytes}

-- one agent more, where it isn't there yet
abbrev pub with_name : List (List ℕ) → List ℕ → List (List ℕ)
with_name agents name = if list_any (name_eq name) agents then agents else agents ++ name ∷ []

-- what stands before the records of so many events of these agents, in a file of this version
abbrev pub start_of : ℕ → List (List ℕ) → ℕ → List ℕ
start_of version agents count = codes "EGWFILE" ++ version ∷ four_bytes (length agents) ++ flat_map name_bytes agents ++ four_bytes count

-- the record of an event with the places of its agent and of its parents
abbrev pub fields_of : ℕ → ℕ → List ℕ → Op → List ℕ
fields_of agent seq parents op = four_bytes agent ++ four_bytes seq ++ length parents ∷ flat_map four_bytes parents ++ op_bytes op
