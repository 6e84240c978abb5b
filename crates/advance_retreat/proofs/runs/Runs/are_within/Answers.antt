use Rattle.advance_retreat.proofs.RunLaws.{runs_within}
use Rattle.advance_retreat.proofs.runs.Runs.are_within.Goals as goal

pub returns-then-start_from : goal.returns-then-start_from
returns-then-start_from c = λ so. runs_within c.args.self.now c.args.at (c.start_from.ensures c.if-start_from.true) (c.is_behind.ensures so)
