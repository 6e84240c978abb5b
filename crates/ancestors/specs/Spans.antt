-- Lists of spans of positions, the highest span first.
use Rattle.std.specs.Prelude.{◌≡◌, ℕ, ◌+◌, ◌-◌, ◌<◌, List, [], ◌∷◌, ◌++◌, Some, slice_get}
use Rattle.std.specs.List.{All, range_with_len}
use Rattle.ancestors.specs.declared.spans.Span.{Span}

-- the positions of a span
abbrev pub positions_in : Span → List ℕ
positions_in span = range_with_len span.from (span.to - span.from)

-- the positions of all the spans, rising
abbrev pub positions_of : List Span → List ℕ
positions_of [] = []
positions_of (span ∷ lower) = positions_of lower ++ positions_in span

-- The spans descend: none is empty, and each ends below the start of the one before it, with a position between the two
-- that is in neither.
pub record AreDescending (spans : List Span) : Type 0 where
  pub filled : All (λ s. s.from < s.to) spans
  pub apart : (place : ℕ) (upper lower : Span) → slice_get spans place ≡ Some upper → slice_get spans (place + 1) ≡ Some lower → lower.to < upper.from
