use Rattle.history_laws.proofs.Answered.{held_events_are_repeats}
use Rattle.history_laws.proofs.law_repeats.Goals as goal

pub returns : goal.returns
returns c = held_events_are_repeats
