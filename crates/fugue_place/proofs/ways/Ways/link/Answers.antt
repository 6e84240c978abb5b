use Rattle.std.proofs.Common.{sym}
use Rattle.fugue_place.proofs.WayStates.{late_free}
use Rattle.fugue_place.proofs.ways.Ways.link.Goals as goal

pub returns-else-at-self : goal.returns-else-at-self
returns-else-at-self c = sym (late_free c.args.self.now c.requires.ways c.args.at c.if-at-self.false)
