use Rattle.history_view.proofs.ReplayReading.{replays_make_text}
use Rattle.history_view.proofs.laws.law_replays.Goals as goal

pub returns : goal.returns
returns c = replays_make_text
