use Rattle.ew_model.proofs.TableLaws.{tables_tell}
use Rattle.ew_model.proofs.laws.walker.law_tables.Goals as goal

pub returns : goal.returns
returns c = tables_tell
