use Rattle.ew_model.proofs.CutLaws.{start_critical}
use Rattle.transform.proofs.Steps.{no_event_is_good}
use Rattle.replica.proofs.Beginnings.{no_text}
use Rattle.replica.proofs.load.walk_all.Goals as goal

pub walk_runs-requires-clause-cut : goal.walk_runs-requires-clause-cut
walk_runs-requires-clause-cut g c = start_critical _

pub walk_runs-requires-clause-good : goal.walk_runs-requires-clause-good
walk_runs-requires-clause-good g c = no_event_is_good

-- there is no text below the first event
pub walk_runs-requires-clause-base : goal.walk_runs-requires-clause-base
walk_runs-requires-clause-base g c = rw no_text c.in_ok-state.ensures.stands
