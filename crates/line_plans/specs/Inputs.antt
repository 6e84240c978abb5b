-- Inputs that are read whole.
use Rattle.std.specs.Prelude.{◌≡◌, ◌≤◌, ⊤, ℕ, List, [], length, Option, Some, Result, Ok, nat_lt, if◌then◌else◌}
use Rattle.ew_outside.specs.Counts.{next}
use Rattle.line_plans.specs.declared.input.Input.{Input}
use Rattle.line_plans.specs.declared.input.Input.TheVariants as input
use Rattle.ew_outside.specs.declared.fault.Fault.{Fault}

-- an input under a bound
pub data Bytes : Type 0 where
  too_long : Bytes
  whole : (bytes : List ℕ) → Bytes

-- an input within a bound, or that it is above it
abbrev pub input_of : ℕ → List ℕ → Bytes
input_of most bytes = if nat_lt most (length bytes) then too_long else whole bytes

-- what a value stands for
abbrev pub input_view : Input → Bytes
input_view input.TooLong = too_long
input_view (input.Whole bytes) = whole bytes.items

-- a whole input was read to its end
abbrev pub EndsInput : Option (List ℕ) → Option (List ℕ) → Result Input Fault → Type 0
EndsInput (Some old) new (Ok (input.Whole _)) = new ≡ Some []
EndsInput _ new _ = ⊤

-- the end was met once where the input was read whole, and else not at all
abbrev pub MeetsEnd : ℕ → ℕ → Result Input Fault → Type 0
MeetsEnd before now (Ok (input.Whole _)) = now ≡ next before
MeetsEnd before now _ = now ≡ before

-- an input that was read whole keeps to the bound
abbrev pub IsWithin : ℕ → Input → Type 0
IsWithin most input.TooLong = ⊤
IsWithin most (input.Whole bytes) = length bytes.items ≤ most
