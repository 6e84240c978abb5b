use Rattle.blame.proofs.Kept.{AreFirst}
use Rattle.blame.proofs.letters.visible_letters.Given as goal

abbrev pub invariant-loop-position : goal.invariant-loop-position
invariant-loop-position l = AreFirst l.graph l.position-index l.positions.items l.chars.items
