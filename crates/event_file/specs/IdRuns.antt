-- The ids of a file's events in runs of neighbours.
use Rattle.std.specs.Prelude.{◌≡◌, ℕ, zero, suc, ◌+◌, ◌-◌, ◌<◌, ◌≤◌, ◌^◌, List, [], ◌∷◌, ◌++◌, length, Option, Some, slice_get}
use Rattle.std.specs.Option.{option_map}
use Rattle.event_file.specs.declared.short_id.ShortId.{ShortId}
use Rattle.event_file.specs.declared.id_runs.IdRun.{IdRun}

-- so many ids of the agent at a place, from a number on
abbrev pub short_run : ℕ → ℕ → ℕ → List ShortId
short_run agent seq zero = []
short_run agent seq (suc n) = record { agent = agent; seq = seq } ∷ short_run agent (seq + 1) n

-- the ids of the runs
abbrev pub short_ids : List IdRun → List ShortId
short_ids [] = []
short_ids (r ∷ runs) = short_run r.agent r.seq (suc r.more) ++ short_ids runs

-- the last id and its position, if there is one
abbrev pub last_short : List ShortId → Option (ℕ × ShortId)
last_short ids = option_map (λ x. (length ids - 1, x)) (slice_get ids (length ids - 1))

-- the runs stand one behind the other from a position on, and their numbers are of 32 bits
abbrev pub AreIdRuns : ℕ → List IdRun → Type 0
AreIdRuns start [] = Unit {0}
AreIdRuns start (r ∷ runs) = (r.start ≡ start) × (r.seq + r.more < 2 ^ 32) × AreIdRuns (start + suc r.more) runs

-- the last of the runs that begin at a position or before it
pub record IsLastBegun (runs : List IdRun) (position : ℕ) (r : IdRun) : Type 0 where
  pub place : ℕ
  pub there : slice_get runs place ≡ Some r
  pub begun : r.start ≤ position
  pub next : (s : IdRun) → slice_get runs (suc place) ≡ Some s → position < s.start

-- the id is the next one of the last run
pub record IsBehind (runs : List IdRun) (x : ShortId) : Type 0 where
  pub run : IdRun
  pub there : slice_get runs (length runs - 1) ≡ Some run
  pub agent : run.agent ≡ x.agent
  pub seq : suc (run.seq + run.more) ≡ x.seq

-- the last of the runs has so many ids more
abbrev pub with_more : List IdRun → ℕ → List IdRun
with_more [] n = []
with_more (r ∷ []) n = record { start = r.start; agent = r.agent; seq = r.seq; more = r.more + n } ∷ []
with_more (r ∷ s ∷ runs) n = r ∷ with_more (s ∷ runs) n
