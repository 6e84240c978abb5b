-- What is kept of the critical cuts of a history.
use Rattle.std.specs.Prelude.{◌≡◌, ℕ, ◌+◌, ◌-◌, ◌^◌, ◌≤◌, List, [], ◌∷◌, ◌++◌, map, filter, take, length, nat_lt}
use Rattle.std.specs.List.{range_with_len}
use Rattle.ew_model.specs.Positions.{frontier_of, cuts_at}
use Rattle.critical.specs.declared.spans.CutSpan.{CutSpan}
use Rattle.critical.specs.Older.{SpanList}
use Rattle.critical.specs.Spans.{RiseFrom, EndBelow}

-- critical cuts, the heads of the events below each, and how many events there are
pub record KeptCuts : Type 0 where
  pub cuts : List ℕ
  pub heads : List (List ℕ)
  pub count : ℕ

-- the critical cuts of a history but for its whole length
abbrev pub inner_cuts : List (List ℕ) → List ℕ
inner_cuts history = filter (λ k. nat_lt k (length history)) (cuts_at history)

-- the heads of the events below each of these cuts
abbrev pub heads_below : List (List ℕ) → List ℕ → List (List ℕ)
heads_below history cuts = map (λ k. frontier_of (take k history)) cuts

-- what is kept for a history
abbrev pub kept_for : List (List ℕ) → KeptCuts
kept_for history = record { cuts = inner_cuts history; heads = heads_below history (inner_cuts history); count = length history }

-- one more event, which keeps all cuts: the whole length so far has these heads
abbrev pub with_whole : KeptCuts → List ℕ → KeptCuts
with_whole kept heads = record { cuts = kept.cuts ++ kept.count ∷ []; heads = kept.heads ++ heads ∷ []; count = kept.count + 1 }

-- the parents of so many events in a chain: the first has the event at a position as its one parent, each further one the event before
-- it
abbrev pub chain_parents : ℕ → ℕ → List (List ℕ)
chain_parents position n = map (λ k. k ∷ []) (range_with_len position n)

-- so many events more in a chain on the last event, which is the only head: all cuts are kept
abbrev pub with_chain : KeptCuts → ℕ → KeptCuts
with_chain kept n = record { cuts = kept.cuts ++ range_with_len kept.count n; heads = kept.heads ++ chain_parents (kept.count - 1) n; count = kept.count + n }

-- so many events more in a chain on the last event, which isn't the only head: no cut is added
abbrev pub with_count : KeptCuts → ℕ → KeptCuts
with_count kept n = record { cuts = kept.cuts; heads = kept.heads; count = kept.count + n }

-- one more event, which keeps the first n cuts, and not the whole length so far
abbrev pub with_first : KeptCuts → ℕ → KeptCuts
with_first kept n = record { cuts = take n kept.cuts; heads = take n kept.heads; count = kept.count + 1 }

-- one more event, which keeps the cuts below a number, and not the whole length so far
abbrev pub with_below : KeptCuts → ℕ → KeptCuts
with_below kept end = with_first kept (length (filter (λ k. nat_lt k end) kept.cuts))

-- the spans rise from the limit up to below the count, each has heads, and so it is with the older ones
pub record AreKept (older : SpanList) (limit : ℕ) (spans : List CutSpan) (heads : List (List ℕ)) (count : ℕ) : Type 0 where
  pub rising : RiseFrom limit spans
  pub below : EndBelow count spans
  pub alike : length heads ≡ length spans
  pub within : limit ≤ count
  pub older_rising : RiseFrom 0 older.spans
  pub older_ends : EndBelow (2 ^ 32 - 1) older.spans
  pub older_alike : length older.heads ≡ length older.spans
