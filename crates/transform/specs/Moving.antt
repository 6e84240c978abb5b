-- Which moves are made.
use Rattle.std.specs.Prelude.{ℕ, not, List, filter}
use Rattle.ew_model.specs.Records.{holds}

-- the positions of the first list that aren't in the second
abbrev pub alone : List ℕ → List ℕ → List ℕ
alone xs ys = filter (λ n. not (holds ys n)) xs
