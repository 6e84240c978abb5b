-- Walks that are kept.
use Rattle.std.specs.Prelude.{◌≡◌, ℕ, ◌<◌, ◌≤◌, List, [], length, take}
use Rattle.ew_model.specs.declared.event.Event.{Event}
use Rattle.advance_retreat.specs.Standing.{StandsFor}
use Rattle.transform.specs.declared.kept.KeptWalk.{KeptWalk}
use Rattle.transform.specs.Reaching.{GoesFrom}

-- The walk stands for the first events of the history, up to where it came: of those below its cut, which is critical among them, it
-- knows how long their text is, and the last one is prepared with its ancestors.
pub record IsWalkOf (history : List Event) (walk : KeptWalk) : Type 0 where
  pub within : walk.reached ≤ length history
  pub stands : GoesFrom (take walk.reached history) walk.cut walk.reached walk.state

-- the walk is fresh: it begins at the cut, below which the text has so many characters, and no event was walked
pub record IsFresh (cut len : ℕ) (walk : KeptWalk) : Type 0 where
  pub cut_is : walk.cut ≡ cut
  pub none : walk.reached ≡ cut
  pub base : StandsFor walk.state len [] []

-- The touches of a walk that began at a cut, and goes on from the place n, may be counted as those of a walk from this place on: from
-- the cut itself, where no event was walked yet; or from any place before n, where some were.
pub record CountsFrom (cut n from : ℕ) : Type 0 where
  pub begins : n ≡ cut → from ≡ cut
  pub goes_on : cut < n → from < n
