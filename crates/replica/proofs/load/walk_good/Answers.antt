use Rattle.std.proofs.Common.{ℕ, Option, drop, ap, ◌∙◌}
use Rattle.ew_model.specs.Operations.{operations}
use Rattle.transform.specs.Walking.{walked_of}
use Rattle.replica.proofs.FrontWalks.{stop_told, refused_told}
use Rattle.replica.proofs.load.walk_good.Goals as goal

-- the walk stopped
pub returns-in-Some-clause-bad : goal.returns-in-Some-clause-bad
returns-in-Some-clause-bad g c events given =
    stop_told c.args.graph.now events _ c.in_ok-walked.walked.stopped c.in-Some.position c.in-Some.len given c.in_ok-walked.ensures.stopped c.in-Some.is

-- an event was refused
pub returns-in-Some-refused-clause-bad : goal.returns-in-Some-refused-clause-bad
returns-in-Some-refused-clause-bad g c events given =
    refused_told c.args.graph.now events c.args.refused c.in-Some-refused.verdict c.in_ok-walked.walked.stopped c.count-position.result
    given c.in-Some-refused.is c.in_ok-walked.ensures.stopped c.in_default.is c.count-position.ensures.count

-- neither
pub returns-clause-ops : goal.returns-clause-ops
returns-clause-ops g c =
    let history = c.args.graph.now in
    c.in_ok-walked.ensures.ops ∙ ap (λ (o : Option (ℕ × ℕ)). drop c.args.emit_from (operations (walked_of history o))) c.in_default.is
