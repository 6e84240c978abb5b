-- What a read does to the bytes that are left, a write to those that are taken and a flush to those that are flushed, where an object tells them.
use Rattle.std.specs.Prelude.{◌≡◌, ℕ, ◌<◌, ◌≤◌, List, [], length, take, ⊤, Option, None, Some, Result, Ok, Err}
use Rattle.std.specs.Io.KnownBytes.{Appends, Consumes, Keeps}
use Rattle.ew_outside.specs.declared.fault.Failed.{Failed}

-- no byte is given exactly where none is left
abbrev pub IsEnd : ℕ → Option (List ℕ) → Type 0
IsEnd n None = ⊤
IsEnd n (Some xs) = (n ≡ 0 → xs ≡ []) × (xs ≡ [] → n ≡ 0)

-- a read takes the bytes that it gives from the front of those left, and none at the end of input or for a buffer without room; a failing one takes nothing
abbrev pub ReadTakes : Option (List ℕ) → Option (List ℕ) → Result ℕ Failed → List ℕ → Type 0
ReadTakes old new (Ok n) buf = (n ≤ length buf) × Consumes old new (take n buf) × (0 < length buf → IsEnd n old)
ReadTakes old new (Err _) buf = Keeps old new

-- a write takes a front of the piece, at least one byte where it has one; a failing one takes nothing
abbrev pub WriteTakes : Option (List ℕ) → Option (List ℕ) → Result ℕ Failed → List ℕ → Type 0
WriteTakes old new (Ok n) piece = (n ≤ length piece) × (0 < length piece → 0 < n) × Appends old new (take n piece)
WriteTakes old new (Err _) piece = Keeps old new

-- all bytes taken are flushed, where both are told
abbrev pub IsFlushed : Option (List ℕ) → Option ℕ → Type 0
IsFlushed (Some xs) (Some n) = n ≡ length xs
IsFlushed _ _ = ⊤
