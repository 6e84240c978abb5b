use Rattle.std.proofs.Common.{sym, ap, ◌∙◌}
use Rattle.advance_retreat.specs.Placing.{other_event}
use Rattle.advance_retreat.proofs.target.Targets.other.Goals as goal

pub returns-in-Some : goal.returns-in-Some
returns-in-Some c = c.other_event.ensures ∙ ap (other_event c.args.lv) (sym c.in-Some.is ∙ c.node.ensures)

pub returns-in-None : goal.returns-in-None
returns-in-None c = sym (ap (other_event c.args.lv) (sym c.node.ensures ∙ c.in-None.is))
