use Rattle.std.proofs.Common.{◌∙◌}
use Rattle.document.proofs.LaterTexts.{later_fit, later_text}
use Rattle.document.proofs.changes.known_changes.Goals as goal

pub returns-in-Some-clause-fit : goal.returns-in-Some-clause-fit
returns-in-Some-clause-fit g c = later_fit c.args.replica.now.held c.args.count c.in_ok-ops.ops.items c.graph-good.ensures.kept.orderly.good (c.in_ok-ops.ensures ∙ c.in-Some.ensures)

pub returns-in-Some-clause-text : goal.returns-in-Some-clause-text
returns-in-Some-clause-text g c = later_text c.args.replica.now.held c.args.count c.in_ok-ops.ops.items c.graph-good.ensures.kept.orderly.good (c.in_ok-ops.ensures ∙ c.in-Some.ensures)
