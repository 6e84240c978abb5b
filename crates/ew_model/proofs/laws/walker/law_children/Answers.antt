use Rattle.ew_model.proofs.TableLaws.{children_root}
use Rattle.ew_model.proofs.laws.walker.law_children.Goals as goal

pub returns : goal.returns
returns c = children_root
