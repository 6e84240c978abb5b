-- What a sink takes of the bytes that are written to it.
use Rattle.std.specs.Prelude.{◌≡◌, ◌≤◌, ◌⊎◌, ℕ, List, [], take, Option, Result, Ok, Err}
use Rattle.std.specs.Io.KnownBytes.{Appends}
use Rattle.ew_outside.specs.Bytes.{IsFlushed}
use Rattle.ew_outside.specs.Counts.{IsQuiet}

-- the known bytes grew by a front of these
abbrev pub GrowsByFront : Option (List ℕ) → Option (List ℕ) → List ℕ → Type 0
GrowsByFront old new bytes = (n : ℕ) × Appends old new (take n bytes)

-- these bytes were taken, and flushed if there are any
abbrev pub Sends : Option (List ℕ) → Option (List ℕ) → Option ℕ → List ℕ → Type 0
Sends old new flushed bytes = Appends old new bytes × ((bytes ≡ []) ⊎ IsFlushed new flushed)

-- the text was told; where the count of faults rose, perhaps a front of it alone
pub record Tells (old new : Option (List ℕ)) (before now : ℕ) (text : List ℕ) : Type 0 where
  pub later : before ≤ now
  pub front : GrowsByFront old new text
  pub whole : IsQuiet before now → Appends old new text

-- all of the bytes were taken, or at a fault a front of them
abbrev pub Takes : {T E : Type 0} → Option (List ℕ) → Option (List ℕ) → List ℕ → Result T E → Type 0
Takes old new bytes (Ok _) = Appends old new bytes
Takes old new bytes (Err _) = GrowsByFront old new bytes
