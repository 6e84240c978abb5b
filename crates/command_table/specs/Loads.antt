-- Files that are loaded whole.
use Rattle.std.specs.Prelude.{ℕ, List, length, Option, None, Some, nat_lt, if◌then◌else◌}

-- a file under a bound
pub data File : Type 0 where
  missing : File
  too_long : File
  whole : (bytes : List ℕ) → File

-- what is loaded where a shelf has these bytes for a name, or none, and a file may have so many
abbrev pub whole_of : ℕ → Option (List ℕ) → File
whole_of most None = missing
whole_of most (Some bytes) = if nat_lt most (length bytes) then too_long else whole bytes
