-- Which cuts stop being critical when an event is appended, for events of any kind.
use Rattle.std.specs.Prelude.{◌≡◌, ℕ, suc, ◌-◌, ◌<◌, ◌≤◌, Bool, true, false, ◌&&◌, ◌||◌, List, [], ◌∷◌, ◌++◌, map, if◌then◌else◌, nat_lt, ◌==◌, length, filter}
use Rattle.std.specs.List.{list_any}
use Rattle.ew_model.specs.Graph.{is_named, are_named, childless, greatest_to, passing_to}

-- The rule for a cut: it stays up to the last parent, and right behind that one where the parents are the heads of what is
-- below; any further cut stops.
abbrev pub stays_behind : ℕ → Bool → ℕ → Bool
stays_behind past_parents are_heads k = nat_lt k past_parents || (k == past_parents) && are_heads

-- the cuts of a list of events with one more, where the last parent stands right before a place
pub record CutsChange {E : Type 0} (is_cut : List E → ℕ → Bool) (events : List E) (e : E) (past_parents : ℕ) (are_heads : Bool) : Type 0 where
  pub old : (k : ℕ) → k ≤ length events → is_cut (events ++ e ∷ []) k ≡ (is_cut events k && stays_behind past_parents are_heads k)
  pub new : is_cut (events ++ e ∷ []) (suc (length events)) ≡ true
  pub all : passing_to (is_cut (events ++ e ∷ [])) (length (events ++ e ∷ []))
      ≡ filter (stays_behind past_parents are_heads) (passing_to (is_cut events) (length events)) ++ suc (length events) ∷ []
  pub latest_low : (m : ℕ) → m < past_parents → greatest_to (is_cut (events ++ e ∷ [])) m ≡ greatest_to (is_cut events) m
  pub latest_high : (m : ℕ) → past_parents ≤ m → m ≤ length events
      → greatest_to (is_cut (events ++ e ∷ [])) m ≡ (if is_cut events past_parents && are_heads then past_parents else greatest_to (is_cut events) (past_parents - 1))

module _ {E N : Type 0} (name : E → N) (parents : E → List N) (same : N → N → Bool) where
  -- behind the events before, each event has a name of its own, and its parents stand before it
  abbrev pub AreInOrder : List E → List E → Type 0
  AreInOrder before [] = Unit {0}
  AreInOrder before (e ∷ later) =
      (is_named same (map name before) (name e) ≡ false) × (are_named same (map name before) (parents e) ≡ true) × AreInOrder (before ++ e ∷ []) later

  -- how many events there are up to the last that is named, it among them
  abbrev pub past_last : List E → List N → ℕ
  past_last [] named = 0
  past_last (e ∷ later) named =
      if is_named same named (name e) || list_any (λ f. is_named same named (name f)) later then suc (past_last later named) else 0

  -- the names are those without a child, in whatever order
  abbrev pub are_childless : List E → List N → Bool
  are_childless events names = are_named same names (childless name parents same events) && are_named same (childless name parents same events) names
