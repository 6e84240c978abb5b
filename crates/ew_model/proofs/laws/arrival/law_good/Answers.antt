use Rattle.ew_model.proofs.FirstBadLaws.{good_has_no_bad}
use Rattle.ew_model.proofs.laws.arrival.law_good.Goals as goal

pub returns : goal.returns
returns c = good_has_no_bad
