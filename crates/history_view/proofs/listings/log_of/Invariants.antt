use Rattle.std.proofs.Common.{◌≡◌, take}
use Rattle.history_definitions.specs.Listings.{log_text}
use Rattle.history_view.proofs.listings.log_of.Given as goal

abbrev pub invariant-loop-position : goal.invariant-loop-position
invariant-loop-position l = l.text.items ≡ log_text (take l.position l.graph)
