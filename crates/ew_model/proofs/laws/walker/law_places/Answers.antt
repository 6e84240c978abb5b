use Rattle.ew_model.proofs.PlaceReads.{records_place}
use Rattle.ew_model.proofs.laws.walker.law_places.Goals as goal

pub returns : goal.returns
returns c = records_place
