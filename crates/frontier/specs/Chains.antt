-- Chains of events.
use Rattle.std.specs.Prelude.{◌≡◌, ℕ, suc, ◌≤◌, ◌<◌, List, [], ◌∷◌}
use Rattle.ew_model.specs.Positions.{parents_at}

-- each event behind the first, up to the last, has exactly the event before it as its parents
pub record IsChain (history : List (List ℕ)) (first last : ℕ) : Type 0 where
  pub order : first ≤ last
  pub links : (p : ℕ) → first ≤ p → p < last → parents_at history (suc p) ≡ p ∷ []
