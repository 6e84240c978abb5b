use Rattle.std.proofs.Common.{◌-◌, length}
use Rattle.fugue_place.specs.Chains.{AreAligned, TellsSame, HasRows}
use Rattle.fugue_place.proofs.chains.Chains.fill.Given as goal

abbrev pub invariant-loop-self : goal.invariant-loop-self
invariant-loop-self l = TellsSame l.fn.self l.self × AreAligned l.self × HasRows l.self

abbrev pub decreases-loop-self : goal.decreases-loop-self
decreases-loop-self l = l.self.count - length l.self.outer.items
