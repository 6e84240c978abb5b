-- Positions in runs of neighbours.
use Rattle.std.specs.Prelude.{◌≡◌, ◌≢◌, ℕ, ◌+◌, ◌-◌, ◌<◌, ◌≤◌, ◌^◌, Bool, false, ◌==◌, List, [], ◌∷◌, ◌++◌}
use Rattle.std.specs.List.{range_with_len}
use Rattle.agent_ids.specs.declared.positions.PositionRun.{PositionRun}

-- the number of the first id of the runs, or behind all of them this one
abbrev pub first_seq : List PositionRun → ℕ → ℕ
first_seq [] count = count
first_seq (r ∷ runs) count = r.seq

-- the positions of the runs, of so many ids: a run goes up to the first number of the next one
abbrev pub positions_in : List PositionRun → ℕ → List ℕ
positions_in [] count = []
positions_in (r ∷ runs) count = range_with_len r.start (first_seq runs count - r.seq) ++ positions_in runs count

-- the first of the runs doesn't start at a position
abbrev pub IsAway : ℕ → List PositionRun → Type 0
IsAway position [] = Unit {0}
IsAway position (r ∷ runs) = position ≢ r.start

-- The runs have the numbers from one on up to the count, each at least one of them, and none goes on with the run before
-- it. The positions are small enough.
abbrev pub ArePositionRuns : ℕ → List PositionRun → ℕ → Type 0
ArePositionRuns seq [] count = seq ≡ count
ArePositionRuns seq (r ∷ runs) count = (r.seq ≡ seq) × (seq < first_seq runs count) × (r.start + (first_seq runs count - seq) ≤ 2 ^ 32) × IsAway (r.start + (first_seq runs count - seq)) runs × ArePositionRuns (first_seq runs count) runs count

-- the last of the runs, which has the numbers up to the count, goes on with a position
abbrev pub goes_on_at : List PositionRun → ℕ → ℕ → Bool
goes_on_at [] count position = false
goes_on_at (r ∷ []) count position = r.start + (count - r.seq) == position
goes_on_at (r ∷ s ∷ runs) count position = goes_on_at (s ∷ runs) count position
