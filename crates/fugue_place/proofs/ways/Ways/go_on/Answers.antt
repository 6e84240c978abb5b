use Rattle.fugue_place.proofs.WayStates.{one_more_left, one_more_right}
use Rattle.fugue_place.proofs.ways.Ways.go_on.Goals as goal

pub returns-clause-left : goal.returns-clause-left
returns-clause-left c = λ e. one_more_left c.args.self.now c.requires.ways c.requires.few e

pub returns-clause-right : goal.returns-clause-right
returns-clause-right c = λ e. one_more_right c.args.self.now c.requires.ways c.requires.few e c.requires.some c.requires.last
