-- Runs that follow one another.
use Rattle.std.specs.Prelude.{◌≡◌, ℕ, suc, ◌<◌, ◌≤◌, List, [], ◌∷◌, Some, slice_get, slice_index_or}
use Rattle.event_runs.specs.declared.runs.Run.{Run}

-- the run at a place isn't the first, and the only parent of its first event is the event right before that
pub record Follows (runs : List Run) (lists : List (List ℕ)) (place : ℕ) : Type 0 where
  pub behind : 0 < place
  pub run : Run
  pub there : slice_get runs place ≡ Some run
  pub before : ℕ
  pub next : run.start ≡ suc before
  pub only : slice_index_or lists place [] ≡ before ∷ []

-- each of the runs behind the first of two places, up to the last, follows the one before it
abbrev pub FollowEach : List Run → List (List ℕ) → ℕ → ℕ → Type 0
FollowEach runs lists first last = (k : ℕ) → first < k → k ≤ last → Follows runs lists k
