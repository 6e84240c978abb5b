use Rattle.history_laws.proofs.HeldVersions.{events_mean_what_was_seen}
use Rattle.history_laws.proofs.law_seen.Goals as goal

pub returns : goal.returns
returns c = events_mean_what_was_seen
