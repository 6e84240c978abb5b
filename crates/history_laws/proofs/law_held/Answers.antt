use Rattle.history_laws.proofs.Repeats.{held_events_change_nothing}
use Rattle.history_laws.proofs.law_held.Goals as goal

pub returns : goal.returns
returns c = held_events_change_nothing
