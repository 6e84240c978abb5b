use Rattle.std.proofs.Common.{Some, ap, ◌∙◌, subst}
use Rattle.ew_model.specs.declared.node.Node.{Node}
use Rattle.character_runs.specs.Labelled.{label_of, Sets}
use Rattle.character_runs.proofs.Splits.{taken_bare}
use Rattle.character_runs.proofs.runs.child.Child.enlist.Goals as goal

pub returns-in-Ok-clause-sets : goal.returns-in-Ok-clause-sets
returns-in-Ok-clause-sets c = subst (λ (v : Node). Sets c.args.labels.now c.insert.new.self v (Some c.args.label)) c.node-node.ensures c.in_ok-insert.ensures.ok

pub returns-in-Err-clause-same : goal.returns-in-Err-clause-same
returns-in-Err-clause-same c =
    taken_bare c.args.labels.now c.insert.new.self c.remove.new.self c.node-node.result c.args.label (ap (label_of c.args.labels.now) c.node-node.ensures ∙ c.requires.bare) c.in_ok-insert.ensures.ok c.remove.ensures
