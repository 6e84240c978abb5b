use Rattle.ew_model.proofs.MarkEvents.{mark_of_few}
use Rattle.ew_model.proofs.laws.edits.law_marks.Goals as goal

pub returns : goal.returns
returns c = mark_of_few
