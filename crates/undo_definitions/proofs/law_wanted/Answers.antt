use Rattle.undo_definitions.proofs.Wants.{wanted_is_left_by_others}
use Rattle.undo_definitions.proofs.law_wanted.Goals as goal

pub returns : goal.returns
returns c = wanted_is_left_by_others
