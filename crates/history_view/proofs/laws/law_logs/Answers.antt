use Rattle.history_view.proofs.LogReading.{logs_differ}
use Rattle.history_view.proofs.laws.law_logs.Goals as goal

pub returns : goal.returns
returns c = logs_differ
