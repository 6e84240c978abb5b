-- What is read of a text.
use Rattle.std.specs.Prelude.{◌≡◌, ℕ, ◌+◌, ◌≤◌, List, drop, length, take, encode_utf8_all}
use Rattle.rope.specs.declared.extents.Measure.{Measure}
use Rattle.rope.specs.Extents.{extent}

-- so many characters of a text stand from an index on, and the bytes are their UTF-8
abbrev pub IsRange : List ℕ → ℕ → ℕ → List ℕ → Type 0
IsRange text from count bytes = (from + count ≤ length text) × (bytes ≡ encode_utf8_all (take count (drop from text)))

-- the index is one of a text, and so much of a measure stands before it
abbrev pub StandsBefore : Measure → List ℕ → ℕ → ℕ → Type 0
StandsBefore measure text at much = (at ≤ length text) × (much ≡ extent measure (take at text))
