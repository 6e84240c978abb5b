use Rattle.ew_model.proofs.TableLaws.{tables_grow}
use Rattle.ew_model.proofs.laws.walker.law_tables_grow.Goals as goal

pub returns : goal.returns
returns c = tables_grow
