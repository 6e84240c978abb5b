-- Files in memory, kept in a tree by name, as the finite map that they stand for.
use Rattle.std.specs.Prelude.{ℕ, map, Vec, String, string_bytes}
use Rattle.std.specs.Global.{Global}
use Rattle.std.specs.BTreeMap.{BTreeMap}
use Rattle.std.specs.FinMap.{from_entries}
use Rattle.ew_outside.specs.Files.{Files}

-- each name with the bytes of its file
abbrev pub files_of : BTreeMap (String Global) (Vec ℕ Global) → Files
files_of tree = from_entries (map (λ e. (string_bytes e.0, e.1.items)) tree.entries)
