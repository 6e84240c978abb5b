-- Older spans of cuts, which several lists of cuts may hold together: each of them sees those below a limit of its own.
use Rattle.std.specs.Prelude.{ℕ, List, [], ◌++◌, filter, take, length, nat_lt, Option, Some, None}
use Rattle.critical.specs.declared.spans.CutSpan.{CutSpan}
use Rattle.critical.specs.Spans.{cuts_in, heads_in}

-- spans of cuts, and the heads of the events below the first cut of each
pub record SpanList : Type 0 where
  pub spans : List CutSpan
  pub heads : List (List ℕ)

module _ {X Y : Type 0} where
  -- what a thing lists, if it is there
  abbrev pub listed_by : (X → List Y) → Option X → List Y
  listed_by f None = []
  listed_by f (Some x) = f x

-- the older cuts below a limit
abbrev pub seen_cuts : SpanList → ℕ → List ℕ
seen_cuts older limit = filter (λ k. nat_lt k limit) (cuts_in older.spans)

-- the heads of the events below each of them
abbrev pub seen_heads : SpanList → ℕ → List (List ℕ)
seen_heads older limit = take (length (seen_cuts older limit)) (heads_in older.spans older.heads)

-- the older cuts below a limit, and the others behind them
abbrev pub all_cuts : SpanList → ℕ → List CutSpan → List ℕ
all_cuts older limit spans = seen_cuts older limit ++ cuts_in spans

-- the heads of the events below each of them
abbrev pub all_heads : SpanList → ℕ → List CutSpan → List (List ℕ) → List (List ℕ)
all_heads older limit spans heads = seen_heads older limit ++ heads_in spans heads
