use Rattle.std.proofs.Common.{◌≡◌, take}
use Rattle.history_definitions.specs.Listings.{marks_text}
use Rattle.history_view.proofs.listings.marks_of.Given as goal

abbrev pub invariant-loop-position : goal.invariant-loop-position
invariant-loop-position l = l.text.items ≡ marks_text (take l.position l.graph)
