-- How much of a text is shown in so many columns.
use Rattle.std.specs.Prelude.{ℕ, zero, suc, Bool, false, ◌==◌, nat_le, List, [], ◌∷◌, flat_map, length, take, if◌then◌else◌, codes}
use Rattle.unicode_width.specs.Width.{str_width}

-- the characters by which a character is written: a newline and a backslash are escaped, any other stands for itself
abbrev pub escape : ℕ → List ℕ
escape c = if c == 10 then codes "\\n" else if c == 92 then codes "\\\\" else c ∷ []

-- the columns that the escaped form of a text takes in a terminal, as a whole
abbrev pub columns_of : List ℕ → ℕ
columns_of text = str_width false (flat_map escape text)

-- the greatest number up to n that passes the test; 0 where none does
abbrev pub greatest : (ℕ → Bool) → ℕ → ℕ
greatest test zero = zero
greatest test (suc n) = if test (suc n) then suc n else greatest test n

-- the first k characters fit into so many columns
abbrev pub fits : ℕ → List ℕ → ℕ → Bool
fits columns text k = nat_le (columns_of (take k text)) columns

-- what is shown of a text: as many of its first characters as fit. A longer front may fit where a shorter one doesn't, since a
-- character may make the one before it narrower.
unfoldable pub shown : ℕ → List ℕ → List ℕ
shown columns text = take (greatest (fits columns text) (length text)) text
