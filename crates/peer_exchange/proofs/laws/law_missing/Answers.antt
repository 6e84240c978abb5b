use Rattle.peer_exchange.proofs.MissingLaw.{missing_are_unheld}
use Rattle.peer_exchange.proofs.laws.law_missing.Goals as goal

pub returns : goal.returns
returns c = missing_are_unheld
