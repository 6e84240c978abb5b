use Rattle.std.proofs.Common.{ℕ, Option, replicate, sym, ap, ◌∙◌}
use Rattle.character_runs.specs.Deleting.{deletion_op}
use Rattle.transform.proofs.DeletedEvents.{deletions_alike, nothings_alike}
use Rattle.transform.proofs.run.operations_of.Goals as goal

pub returns-in-Some-clause-is : goal.returns-in-Some-clause-is
returns-in-Some-clause-is c = deletions_alike c.in-Some.at c.args.deleted.count ∙ ap (λ (index : Option ℕ). replicate c.args.deleted.count (deletion_op index)) (sym c.in-Some.is)

pub returns-in-None-clause-is : goal.returns-in-None-clause-is
returns-in-None-clause-is c = nothings_alike c.args.deleted.count ∙ ap (λ (index : Option ℕ). replicate c.args.deleted.count (deletion_op index)) (sym c.in-None.is)
