use Rattle.fugue_place.proofs.WayStates.{free_links}
use Rattle.fugue_place.proofs.ways.Ways.first_link.Goals as goal

pub returns-else-from-self : goal.returns-else-from-self
returns-else-from-self c = free_links c.args.self.now c.args.from c.args.to c.requires.known c.if-from-self.false
