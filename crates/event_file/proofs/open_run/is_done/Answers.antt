use Rattle.event_file.proofs.RunRest.{behind_when}
use Rattle.event_file.proofs.open_run.is_done.Goals as goal

pub returns-in-Some : goal.returns-in-Some
returns-in-Some c = behind_when c.args.opened.now c.in-Some.run' c.is_done.result c.in-Some.is c.is_done.ensures
