-- How a name's bytes are kept: in place, filled up with zeros.
use Rattle.std.specs.Prelude.{◌≡◌, ℕ, ◌-◌, ◌≤◌, true, List, ◌++◌, length, take, replicate}
use Rattle.ew_model.specs.Names.{is_name}

-- the list, and zeros behind it, up to 32 bytes
abbrev pub padded : List ℕ → List ℕ
padded xs = xs ++ replicate (32 - length xs) 0

-- the first bytes are a name of this length, and the others are zeros
pub record IsPadded (len : ℕ) (bytes : List ℕ) : Type 0 where
  pub name : is_name (take len bytes) ≡ true
  pub whole : length bytes ≡ 32
  pub within : len ≤ 32
  pub rest : bytes ≡ take len bytes ++ replicate (32 - len) 0
