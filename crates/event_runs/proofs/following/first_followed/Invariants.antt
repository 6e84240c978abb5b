use Rattle.std.proofs.Common.{◌≤◌}
use Rattle.event_runs.specs.Following.{FollowEach}
use Rattle.event_runs.proofs.following.first_followed.Given as goal

abbrev pub invariant-loop : goal.invariant-loop
invariant-loop l = (l.first ≤ l.last) × FollowEach l.runs l.parents l.first l.last
