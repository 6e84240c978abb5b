-- The event graph (Eg-walker, EuroSys 2025, section 2). Events of any kind, each with a name and the names of its parents. A history names its events by their ids; what knows
-- no ids names them by their positions. The events stand in a list, the oldest first.
use Rattle.std.specs.Prelude.{ℕ, zero, suc, Bool, not, ◌&&◌, ◌||◌, List, [], ◌∷◌, ◌++◌, map, filter, take, drop, length, nat_le, if◌then◌else◌}
use Rattle.std.specs.List.{list_any, list_all}

-- the name is among these
abbrev pub is_named : {N : Type 0} → (N → N → Bool) → List N → N → Bool
is_named same names x = list_any (same x) names

-- all the names are among the others
abbrev pub are_named : {N : Type 0} → (N → N → Bool) → List N → List N → Bool
are_named same others names = list_all (is_named same others) names

module _ {E N : Type 0} (name : E → N) (parents : E → List N) (same : N → N → Bool) where
  -- one of these events has this parent
  abbrev pub has_child : List E → N → Bool
  has_child events x = list_any (λ e. is_named same (parents e) x) events

  -- the events of a version: from the end on, each that is named, or is a parent of one already taken
  abbrev pub version_of : List E → List N → List E
  version_of [] named = []
  version_of (e ∷ later) named =
      let taken = version_of later named in
      if is_named same named (name e) || has_child taken (name e) then e ∷ taken else taken

  -- the names of a version: those that are named and held, and all their ancestors
  abbrev pub names_known : List E → List N → List N
  names_known events named = map name (version_of events named)

  -- the names of the events that have no child
  abbrev pub childless : List E → List N
  childless events = filter (λ x. not (has_child events x)) (map name events)

  -- no name is an ancestor of another
  abbrev pub none_below : List E → List N → Bool
  none_below events names = list_all (λ x. list_all (λ y. same x y || not (is_named same (names_known events (x ∷ [])) y)) names) names

  -- the cut k is critical: it is at most the number of events, and every event from place k on has all events below k
  -- among its ancestors
  abbrev pub is_cut : List E → ℕ → Bool
  is_cut events k =
      nat_le k (length events)
      && list_all (λ e. are_named same (names_known events (parents e)) (map name (take k events))) (drop k events)

-- Numbers that pass a test. 0 is counted in without being tested, as cut 0 is always critical.

-- the greatest that is at most m
abbrev pub greatest_to : (ℕ → Bool) → ℕ → ℕ
greatest_to passes zero = zero
greatest_to passes (suc m) = if passes (suc m) then suc m else greatest_to passes m

-- those up to m, rising
abbrev pub passing_to : (ℕ → Bool) → ℕ → List ℕ
passing_to passes zero = zero ∷ []
passing_to passes (suc m) = if passes (suc m) then passing_to passes m ++ suc m ∷ [] else passing_to passes m
