-- Events one after another, and the characters that they are about.
use Rattle.std.specs.Prelude.{◌≡◌, ℕ, ◌+◌, ◌<◌, ◌≤◌, List, Some}
use Rattle.character_runs.specs.declared.change.Kind.{Kind}
use Rattle.character_runs.specs.declared.change.Positions.{Positions}
use Rattle.character_runs.specs.Replacing.{node_by}
use Rattle.advance_retreat.specs.declared.line.Line.{Line}
use Rattle.advance_retreat.specs.declared.line.Way.{Way}
use Rattle.advance_retreat.specs.declared.line.Way.TheVariants.{Up, Down}
use Rattle.advance_retreat.specs.declared.target.Target.{Target}
use Rattle.advance_retreat.specs.Kept.{target_at}

-- one position is so many steps away from another
abbrev pub IsAway : Way → ℕ → ℕ → ℕ → Type 0
IsAway Up n steps m = m ≡ n + steps
IsAway Down n steps m = m + steps ≡ n

-- the events on the one way, and the characters of the kind on the other: each event is about its character
abbrev pub AreAbout : Way → List Target → ℕ → Way → Kind → ℕ → ℕ → Type 0
AreAbout order targets first way kind character count =
    (i event node : ℕ) → i < count → IsAway order first i event → IsAway way character i node → target_at targets event ≡ Some (node_by kind node)

-- the line begins with an event, if it has any, and has no more than so many
pub record IsLineFrom (order : Way) (targets : List Target) (first most : ℕ) (line : Line) : Type 0 where
  pub told : AreAbout order targets line.event line.way line.kind line.character line.count
  pub begins : 0 < line.count → line.event ≡ first
  pub few : line.count ≤ most

-- the numbers of so many characters
abbrev pub AreOf : Way → ℕ → ℕ → Positions → Type 0
AreOf Up character count at = (at.from ≡ character) × (at.to ≡ character + count)
AreOf Down character count at = (at.from + count ≡ character + 1) × (at.to ≡ character + 1)
