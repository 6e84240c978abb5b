use Rattle.ew_model.proofs.EditNumbers.{numbers_run_on}
use Rattle.ew_model.proofs.laws.edits.law_numbers.Goals as goal

pub returns : goal.returns
returns c = numbers_run_on
