-- The event file of version 1: the one string of bytes of a list of events, closed by its SHA-256 (FIPS 180-4).
use Rattle.std.specs.Prelude.{ℕ, List, ◌∷◌, ◌++◌, length, flat_map, codes}
use Rattle.std.specs.List.{position_or_len}
use Rattle.sha2.specs.Sha256.{sha256}
use Rattle.ew_model.specs.declared.event.Event.{Event}
use Rattle.ew_model.specs.Ids.{name_eq, id_eq}
use Rattle.ew_model.specs.Ancestors.{ids_of}
use Rattle.ew_model.specs.Bytes.{four_bytes, name_bytes, op_bytes}
use Rattle.ew_model.specs.Writable.{agents_of}

-- an event, with numbers for its agent and its parents
unfoldable pub record_bytes : List Event → Event → List ℕ
record_bytes history e =
    four_bytes (position_or_len (name_eq e.id.agent) (agents_of history))
    ++ four_bytes e.id.seq
    ++ length e.parents ∷ flat_map (λ p. four_bytes (position_or_len (id_eq p) (ids_of history))) e.parents
    ++ op_bytes e.op

-- what stands before the records: the mark, the version, the agents and the number of events
abbrev pub file_start : ℕ → List Event → List ℕ
file_start version history =
    codes "EGWFILE" ++ version ∷ four_bytes (length (agents_of history)) ++ flat_map name_bytes (agents_of history) ++ four_bytes (length history)

-- the bytes, and their SHA-256 behind them
abbrev pub with_digest : List ℕ → List ℕ
with_digest bytes = bytes ++ sha256 bytes

-- all of the file of version 1 before its digest
unfoldable pub file_content : List Event → List ℕ
file_content history = file_start 1 history ++ flat_map (record_bytes history) history

-- the file of version 1 of a list of events
unfoldable pub file_of : List Event → List ℕ
file_of history = with_digest (file_content history)
