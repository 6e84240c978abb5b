-- What is counted of the characters below a node, for both measures. (No public contract cites this.)
use Rattle.std.specs.Prelude.{◌≡◌, ℕ, ◌+◌, ◌≤◌, ◌<◌, List, length, take, sum_by, if◌then◌else◌, nat_lt}
use Rattle.std.specs.Char.{len_utf8}
use Rattle.rope.specs.declared.extents.Measure.{Measure}
use Rattle.rope.specs.Extents.{extent}

-- a character takes a second code unit of UTF-16
abbrev pub second_unit : ℕ → ℕ
second_unit ch = if nat_lt ch 65536 then 0 else 1

-- how many characters do
abbrev pub wide_chars : List ℕ → ℕ
wide_chars chars = sum_by second_unit chars

-- how many bytes of UTF-8 characters take
abbrev pub utf8_bytes : List ℕ → ℕ
utf8_bytes chars = sum_by len_utf8 chars

-- so much ends at an index, or so much behind it that the next character goes on further
pub record Reaches (measure : Measure) (chars : List ℕ) (much at rest : ℕ) : Type 0 where
  pub within : at ≤ length chars
  pub before : extent measure (take at chars) + rest ≡ much
  pub inside : at < length chars → much < extent measure (take (at + 1) chars)
