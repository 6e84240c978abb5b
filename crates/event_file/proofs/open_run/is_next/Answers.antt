use Rattle.event_file.proofs.RunRest.{next_told}
use Rattle.event_file.proofs.open_run.is_next.Goals as goal

pub returns : goal.returns
returns c = next_told c.is_behind.result c.args.last.now c.args.id.now c.is_behind.ensures
