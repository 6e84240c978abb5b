use Rattle.undo_definitions.proofs.Others.{equal_sets_undo_alike}
use Rattle.undo_definitions.proofs.law_equal_sets.Goals as goal

pub returns : goal.returns
returns c = equal_sets_undo_alike
