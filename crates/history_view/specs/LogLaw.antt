-- What a log tells.
use Rattle.std.specs.Prelude.{◌≡◌, List}
use Rattle.ew_model.specs.declared.event.Event.{Event}
use Rattle.ew_model.specs.Sound.{AreSound}
use Rattle.history_definitions.specs.Listings.{log_text}

-- Two histories have one log only where they are one history.
abbrev pub LogsDiffer : Type 0
LogsDiffer = (xs ys : List Event) → AreSound xs → AreSound ys → log_text xs ≡ log_text ys → xs ≡ ys
