use Rattle.std.proofs.Common.{Option, subst}
use Rattle.character_runs.specs.declared.kept.Tag.{Tag}
use Rattle.character_runs.specs.Kept.{kept_label, AreLastOf}
use Rattle.character_runs.specs.Labelled.{label_of}
use Rattle.character_runs.proofs.labels.Labels.last_up_to.Goals as goal

pub returns-in-Some-clause-some : goal.returns-in-Some-clause-some
returns-in-Some-clause-some c =
    let all = c.later.ensures (kept_label c.args.self.now.kept) c.last_up_to-kept.ensures c.args.self.now.apart in
    let last = subst (λ (o : Option Tag). AreLastOf (label_of c.args.self.now) c.args.node o) c.in-Some.is all in
    record { node = c.in-Some.last.node; before = last.before; has = last.here; last = last.last }
