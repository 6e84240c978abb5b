-- How much room characters take in other counts than that of characters.
use Rattle.std.specs.Prelude.{◌≡◌, ◌≢◌, ℕ, ◌≤◌, List, length, take, sum_by, if◌then◌else◌, nat_lt, Option, Some, None}
use Rattle.std.specs.Char.{len_utf8}
use Rattle.rope.specs.declared.extents.Measure.{Measure}
use Rattle.rope.specs.declared.extents.Measure.TheVariants.{Utf16, Utf8}

-- how much a character takes: one code unit of UTF-16 below 2^16 and two from there on, or one to four bytes of UTF-8
abbrev pub width : Measure → ℕ → ℕ
width Utf16 ch = if nat_lt ch 65536 then 1 else 2
width Utf8 ch = len_utf8 ch

-- how much characters take together
abbrev pub extent : Measure → List ℕ → ℕ
extent measure chars = sum_by (width measure) chars

-- the index before which the characters take just so much; none where there is no such index
abbrev pub IsIndexBehind : Measure → List ℕ → ℕ → Option ℕ → Type 0
IsIndexBehind measure chars much (Some at) = (at ≤ length chars) × (extent measure (take at chars) ≡ much)
IsIndexBehind measure chars much None = (at : ℕ) → at ≤ length chars → extent measure (take at chars) ≢ much
