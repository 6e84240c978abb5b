-- Rising numbers as spans of neighbours.
use Rattle.std.specs.Prelude.{◌≡◌, ℕ, suc, ◌-◌, ◌<◌, ◌≤◌, Bool, false, ◌==◌, nat_lt, List, [], ◌∷◌, ◌++◌, map, Some, slice_get, if◌then◌else◌}
use Rattle.std.specs.List.{range_with_len}
use Rattle.critical.specs.declared.spans.CutSpan.{CutSpan}

-- the cuts of the spans, rising
abbrev pub cuts_in : List CutSpan → List ℕ
cuts_in [] = []
cuts_in (s ∷ spans) = range_with_len s.first (suc (s.last - s.first)) ++ cuts_in spans

-- The heads below each of these cuts. Those below the first of each span are given; below any other cut the one before
-- it is the only head.
abbrev pub heads_in : List CutSpan → List (List ℕ) → List (List ℕ)
heads_in [] given = []
heads_in (s ∷ spans) [] = []
heads_in (s ∷ spans) (heads ∷ given) = heads ∷ map (λ k. k ∷ []) (range_with_len s.first (s.last - s.first)) ++ heads_in spans given

-- the spans rise from a number on, and some number stands between any two of them
abbrev pub RiseFrom : ℕ → List CutSpan → Type 0
RiseFrom low [] = Unit {0}
RiseFrom low (s ∷ spans) = (low ≤ s.first) × (s.first ≤ s.last) × RiseFrom (suc (suc s.last)) spans

-- the spans end below a number
abbrev pub EndBelow : ℕ → List CutSpan → Type 0
EndBelow n [] = Unit {0}
EndBelow n (s ∷ spans) = (s.last < n) × EndBelow n spans

-- the last span ends right before a number
abbrev pub ends_before : List CutSpan → ℕ → Bool
ends_before [] n = false
ends_before (s ∷ []) n = suc s.last == n
ends_before (s ∷ t ∷ spans) n = ends_before (t ∷ spans) n

-- the spans, the last one ending with this number
abbrev pub with_last : List CutSpan → ℕ → List CutSpan
with_last [] n = []
with_last (s ∷ []) n = record { first = s.first; last = n } ∷ []
with_last (s ∷ t ∷ spans) n = s ∷ with_last (t ∷ spans) n

-- the spans, the last one ending below a number
abbrev pub shortened : List CutSpan → ℕ → List CutSpan
shortened [] n = []
shortened (s ∷ []) n = (if nat_lt s.last n then s else record { first = s.first; last = n - 1 }) ∷ []
shortened (s ∷ t ∷ spans) n = s ∷ shortened (t ∷ spans) n

-- the span at a place holds the number
pub record IsHeldAt (spans : List CutSpan) (place : ℕ) (k : ℕ) : Type 0 where
  pub span : CutSpan
  pub there : slice_get spans place ≡ Some span
  pub from : span.first ≤ k
  pub to : k ≤ span.last
