use Rattle.std.proofs.Common.{ap}
use Rattle.peer_definitions.specs.Draws.{draw_of}
use Rattle.generator.proofs.Drawing.{wrapped}
use Rattle.generator.proofs.draws.Draws.draw.Goals as goal

pub returns-clause-state : goal.returns-clause-state
returns-clause-state c = wrapped c.args.self.now.state

pub returns-clause-drawn : goal.returns-clause-drawn
returns-clause-drawn c = ap draw_of (wrapped c.args.self.now.state)
