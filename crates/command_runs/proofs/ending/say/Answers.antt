use Rattle.command_runs.proofs.Outputs.{tells}
use Rattle.command_runs.proofs.ending.say.Goals as goal

pub returns-clause-text : goal.returns-clause-text
returns-clause-text g c = tells _ _ _ _ c.args.text.now c.write_and_flush.result c.write_and_flush.ensures.bytes c.write_and_flush.ensures.cause
