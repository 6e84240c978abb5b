use Rattle.operation_runs.proofs.StoredLaws.{insertions_on, deletions_on, nothings_on}
use Rattle.operation_runs.proofs.stored.StoredRun.kind_with.Goals as goal

pub returns-in-Insertions-Insertions : goal.returns-in-Insertions-Insertions
returns-in-Insertions-Insertions c = let a = c.in-Insertions-Insertions in insertions_on c.args.self c.args.next a.is-0 a.is-1 (c.ends_before.ensures c.if-ends_before.true) c.requires.next

pub returns-in-Deletions-Deletions : goal.returns-in-Deletions-Deletions
returns-in-Deletions-Deletions c = let a = c.in-Deletions-Deletions in deletions_on c.args.self c.args.next a.is-0 a.is-1 c.if-self-next.true

pub returns-in-Nothings-Nothings : goal.returns-in-Nothings-Nothings
returns-in-Nothings-Nothings c = let a = c.in-Nothings-Nothings in nothings_on c.args.self c.args.next a.is-0 a.is-1
