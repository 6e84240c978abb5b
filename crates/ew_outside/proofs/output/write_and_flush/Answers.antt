use Rattle.ew_outside.proofs.Outputs.{Takes-all}
use Rattle.ew_outside.proofs.output.write_and_flush.Goals as goal

pub returns-clause-bytes : goal.returns-clause-bytes
returns-clause-bytes g c = Takes-all _ _ _ c.args.bytes.now c.flush.result c.in_ok-write_all.ensures.bytes c.flush.ensures.bytes
