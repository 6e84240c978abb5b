-- Numbers, names and operations as bytes.
use Rattle.std.specs.Prelude.{ℕ, ◌<◌, List, ◌∷◌, ◌++◌, length, slice_index}
use Rattle.std.specs.Int.{w32, to_le_bytes}
use Rattle.ew_model.specs.declared.event.Op.{Op}
use Rattle.ew_model.specs.declared.event.Op.TheVariants.{Ins, Del, Mark}

-- each is a byte
abbrev pub AreBytes : List ℕ → Type 0
AreBytes bytes = (i : ℕ) → slice_index bytes i < 256

-- a number in four bytes, the lowest first
abbrev pub four_bytes : ℕ → List ℕ
four_bytes n = to_le_bytes w32 n

-- a name: its length in a byte, and its bytes
abbrev pub name_bytes : List ℕ → List ℕ
name_bytes name = length name ∷ name

-- the kind of an operation, its index, and the character of an insertion; or the label of a mark
abbrev pub op_bytes : Op → List ℕ
op_bytes (Ins at ch) = 0 ∷ four_bytes at ++ four_bytes ch
op_bytes (Del at) = 1 ∷ four_bytes at
op_bytes (Mark label) = 2 ∷ name_bytes label
