-- The walks of receiving, and those that are kept.
use Rattle.std.specs.Prelude.{◌≡◌, ℕ, ◌<◌, ◌≤◌, true, List, take, length, Option, Some, None, IfSome}
use Rattle.ew_model.specs.declared.event.Event.{Event}
use Rattle.ew_model.specs.Cuts.{is_critical}
use Rattle.ew_model.specs.Verdicts.{IsGood}
use Rattle.transform.specs.declared.kept.KeptWalk.{KeptWalk}
use Rattle.transform.specs.Keeping.{CountsFrom, IsWalkOf}
use Rattle.replica.specs.declared.walks.Walks.{Walks}

-- A walk may begin at this cut for a round: it is critical in what is held when all is judged, and the events below it were held before
-- and are good.
pub record BeginsAt (held graph : List Event) (cut : ℕ) : Type 0 where
  pub critical : is_critical graph cut ≡ true
  pub below : cut ≤ length held
  pub good : IsGood (take cut graph)
  pub text : take cut held ≡ take cut graph

-- each walk that is kept is one of the events held
abbrev pub AreKept : List Event → Walks → Type 0
AreKept held walks = IfSome walks.latest (IsWalkOf held) × IfSome walks.other (IsWalkOf held)

-- the walk is one of the events held before, and its cut is critical in the history as it is now
pub record MayGoOn (held graph : List Event) (walk : KeptWalk) : Type 0 where
  pub walk_of : IsWalkOf held walk
  pub critical : is_critical graph walk.cut ≡ true

-- A walk of the history as it is now, whose cut is critical, and which came no further than to the events held before. What it touches
-- may be counted from this cut on.
pub record GoesBehind (held graph : List Event) (cut : ℕ) (walk : KeptWalk) : Type 0 where
  pub walk_of : IsWalkOf graph walk
  pub critical : is_critical graph walk.cut ≡ true
  pub within : walk.reached ≤ length held
  pub counts : CountsFrom walk.cut walk.reached cut

-- the walk began at a cut or before it, and came behind it
abbrev pub CameBehind : ℕ → KeptWalk → Type 0
CameBehind cut walk = (walk.cut ≤ cut) × (cut < walk.reached)

-- what the walks are of that are kept after a walk: of all events, or of those held before, where it stopped at one that is out of range
abbrev pub held_after : List Event → List Event → Option (ℕ × ℕ) → List Event
held_after held graph None = graph
held_after held graph (Some stop) = held

-- the walk came to the end of the history
abbrev pub IsAtEnd : List Event → Option KeptWalk → Type 0
IsAtEnd history None = ⊥
IsAtEnd history (Some walk) = walk.reached ≡ length history
