-- Texts whose columns are known by their ends.
use Rattle.std.specs.Prelude.{◌≡◌, ℕ, true, List, [], ◌∷◌, ◌++◌}
use Rattle.std.specs.Int.{is_in_range}

-- a printable ASCII character
abbrev pub IsPrintable : ℕ → Type 0
IsPrintable c = is_in_range 0x20 0x7E c ≡ true

-- the last two characters are printable
pub record EndsPrintable (text : List ℕ) : Type 0 where
  pub front : List ℕ
  pub before : ℕ
  pub last : ℕ
  pub whole : text ≡ front ++ before ∷ last ∷ []
  pub before_is : IsPrintable before
  pub last_is : IsPrintable last
