use Rattle.std.proofs.Common.{◌≡◌, ◌+◌, ◌-◌, take, drop, ap, ◌∙◌, arith}
use Rattle.operation_runs.specs.Runs.{insertions}
use Rattle.event_runs.proofs.Rests.{rest_insertions, rest_deletions, rest_back, rest_nothings}
use Rattle.event_runs.proofs.runs.Run.rest.Goals as goal

pub returns-in-Insertions-clause-changes : goal.returns-in-Insertions-clause-changes
returns-in-Insertions-clause-changes c =
    let r = c.args.self.now in
    let some = c.requires.some in
    let from = r.chars_before + c.args.before in
    let n = r.more - c.args.before + 1 in
    let same : from + n - from ≡ n = omega arith in
    ap (λ m. insertions (r.at + c.args.before) (take m (drop from c.args.chars.now))) same ∙ rest_insertions r c.args.chars.now c.args.before n c.in-Insertions.is (omega (arith, some)) c.requires

pub returns-in-Deletions-clause-changes : goal.returns-in-Deletions-clause-changes
returns-in-Deletions-clause-changes c =
    let some = c.requires.some in rest_deletions c.args.self.now c.args.chars.now c.args.before (c.args.self.now.more - c.args.before + 1) c.in-Deletions.is (omega (arith, some))

pub returns-in-BackDeletions-clause-changes : goal.returns-in-BackDeletions-clause-changes
returns-in-BackDeletions-clause-changes c =
    let some = c.requires.some in rest_back c.args.self.now c.args.chars.now c.args.before (c.args.self.now.more - c.args.before + 1) c.in-BackDeletions.is (omega (arith, some))

pub returns-in-Marks-clause-changes : goal.returns-in-Marks-clause-changes
returns-in-Marks-clause-changes c =
    let some = c.requires.some in rest_nothings c.args.self.now c.args.chars.now c.args.before (c.args.self.now.more - c.args.before + 1) c.in-Marks.is (omega (arith, some))
