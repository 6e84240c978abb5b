-- What a walk from a critical cut is spared.
use Rattle.std.specs.Prelude.{◌≡◌, ℕ, true, List, drop}
use Rattle.ew_model.specs.declared.event.Event.{Event}
use Rattle.ew_model.specs.Cuts.{is_critical}
use Rattle.ew_model.specs.Touches.{touches}
use Rattle.ew_model.specs.Verdicts.{IsGood}

-- The touches of a walk from a critical cut on are those of the events behind the cut alone, as if none had come before them.
abbrev pub CutsSpare : Type 0
CutsSpare = (history : List Event) (k : ℕ) → IsGood history → is_critical history k ≡ true → touches history k ≡ touches (drop k history) 0
