-- What a node keeps of each part of it, which is a run with its label or a branch. (No public contract cites this.)
use Rattle.std.specs.Prelude.{◌≡◌, ℕ, ◌+◌, ◌<◌, ◌≤◌, nat_eq, nat_lt, if◌then◌else◌, List, [], ◌∷◌, length, All}
use Rattle.std.specs.List.{flat_map}
use Rattle.ew_model.specs.declared.run.Run.{Ghosts}
use Rattle.order_tree.specs.declared.summary.Sums.{Sums}
use Rattle.order_tree.specs.declared.summary.Summary.{Summary}
use Rattle.order_tree.specs.Pairs.{total}

module _ {R : Type 0} where
  -- the first label, or 0
  abbrev pub first_or_zero : List (ℕ × R) → ℕ
  first_or_zero [] = 0
  first_or_zero (p ∷ ps) = p.0

  -- the label of the last run with a known character, or 0
  abbrev pub last_known : (R → ℕ) → List (ℕ × R) → ℕ
  last_known known [] = 0
  last_known known (p ∷ ps) = if nat_eq (last_known known ps) 0 then (if nat_lt 0 (known p.1) then p.0 else 0) else last_known known ps

  -- the three sums
  abbrev pub sums_of : Ghosts R → List (ℕ × R) → Sums
  sums_of G ps = record { known = total G.known ps; prepared = total G.prepared ps; effect = total G.effect ps }

  -- all that is kept
  abbrev pub summary_of : Ghosts R → List (ℕ × R) → Summary
  summary_of G ps = record { first = first_or_zero ps; last_known = last_known G.known ps; sums = sums_of G ps }

  -- the pairs of all parts, in order
  abbrev pub all_pairs : {T : Type 0} → (T → List (ℕ × R)) → List T → List (ℕ × R)
  all_pairs pairs parts = flat_map pairs parts

  -- a run with its label is one pair
  abbrev pub one_pair : ℕ × R → List (ℕ × R)
  one_pair p = p ∷ []

  -- each part has a run
  abbrev pub AllSome : {T : Type 0} → (T → List (ℕ × R)) → List T → Type 0
  AllSome pairs parts = All (λ t. 0 < length (pairs t)) parts

-- these are the sums after some were lost, which were among the old, and others gained
pub record IsMoved (old lost gained new : Sums) : Type 0 where
  pub less_known : lost.known ≤ old.known
  pub less_prepared : lost.prepared ≤ old.prepared
  pub less_effect : lost.effect ≤ old.effect
  pub known : new.known + lost.known ≡ old.known + gained.known
  pub prepared : new.prepared + lost.prepared ≡ old.prepared + gained.prepared
  pub effect : new.effect + lost.effect ≡ old.effect + gained.effect

-- old and new are the labels of the last run with a known character, or 0, before the run at this label changed and after. A greater label stays. Else it is this one, where the run has so many known characters and there are some. Where there are none, nothing is said
pub record IsKnownAfter (old label known new : ℕ) : Type 0 where
  pub greater : label < old → new ≡ old
  pub own : old ≤ label → 0 < known → new ≡ label
