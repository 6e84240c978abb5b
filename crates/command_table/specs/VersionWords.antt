-- Versions as words of a command line.
use Rattle.std.specs.Prelude.{ℕ, Bool, ◌&&◌, ◌==◌, ◌^◌, nat_lt, List, [], map, Option, Some, None, if◌then◌else◌, codes}
use Rattle.std.specs.List.{list_all, before_first, after_first, slice_split}
use Rattle.std.specs.Str.{bytes_eq}
use Rattle.std.specs.Str.Parse.{digits_value}
use Rattle.ew_model.specs.declared.id.Id.{Id}
use Rattle.ew_model.specs.Names.{is_name}
use Rattle.ew_model.specs.Scripts.{version_text}

-- a name, and a number of 32 bits
abbrev pub is_sound_id : Id → Bool
is_sound_id x = is_name x.agent && nat_lt x.seq (2 ^ 32)

-- the bytes are the version of these ids
abbrev pub is_version : List ℕ → List Id → Bool
is_version bytes ids = list_all is_sound_id ids && bytes_eq (version_text ids) bytes

-- the one id that bytes may be: a name before the first colon, and a number after it
abbrev pub id_within : List ℕ → Id
id_within bytes = record { agent = before_first (λ b. b == 58) bytes; seq = digits_value 10 (after_first (λ b. b == 58) bytes) }

-- the one list of ids that bytes may be the version of: none for `root`, else those between the commas
abbrev pub ids_within : List ℕ → List Id
ids_within bytes = if bytes_eq bytes (codes "root") then [] else map id_within (slice_split (λ b. b == 44) bytes)

-- the ids of which the word is the version, if it is one
unfoldable pub version_in : List ℕ → Option (List Id)
version_in word = if is_version word (ids_within word) then Some (ids_within word) else None
