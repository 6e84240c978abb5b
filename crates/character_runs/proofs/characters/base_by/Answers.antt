use Rattle.std.proofs.Common.{refl}
use Rattle.character_runs.proofs.BaseRuns.{base_counted}
use Rattle.character_runs.proofs.characters.base_by.Goals as goal

pub invariant_of-result : goal.invariant_of-result
invariant_of-result g c =
    let counted = base_counted c.in_ok-base.field-0.tree.pairs c.in_ok-base.field-0.labels c.args.len c.in_ok-base.ensures.laid c.in_ok-base.ensures.chars c.requires.short in
    record { counted = counted; cursor = tt; told = λ e. refl; few = counted.few }
