use Rattle.std.proofs.Common.{true, Option, sym, ap, ◌∙◌}
use Rattle.ew_model.specs.declared.node.Node.{Node}
use Rattle.character_runs.specs.Spots.{slot_by}
use Rattle.character_runs.proofs.slot.Slot.behind.Goals as goal

pub returns-in-None : goal.returns-in-None
returns-in-None c = c.right_of.ensures c.args.next ∙ ap (λ (o : Option Node). slot_by true o c.args.node) (sym c.in-None.is)
