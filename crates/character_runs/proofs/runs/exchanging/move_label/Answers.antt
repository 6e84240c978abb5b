use Rattle.std.proofs.Common.{IsSome, Some, subst, sym}
use Rattle.walker_record.specs.Stretches.{Stretch}
use Rattle.character_runs.specs.Labelled.{label_of, Sets}
use Rattle.character_runs.proofs.runs.exchanging.move_label.Goals as goal

pub set-requires : goal.set-requires
set-requires c = subst (λ (r : Stretch). IsSome (label_of c.args.labels.now r.from)) (sym c.run.view_is) c.requires

pub returns : goal.returns
returns c = subst (λ (r : Stretch). Sets c.args.labels.now c.set.new.self r.from (Some c.args.label)) c.run.view_is c.set.ensures
