use Rattle.std.proofs.Common.{◌≡◌}
use Rattle.ew_model.specs.Arrival.{most_judgements}
use Rattle.replica.specs.Desks.{IsBegun, desk_of_replica}
use Rattle.replica.specs.Reaching.{Reaches}
use Rattle.replica.proofs.RoundCounts.{IsCounted}
use Rattle.replica.proofs.state.Replica.receive_all.Given as goal

abbrev pub invariant-loop : goal.invariant-loop
invariant-loop g l = record {
  limits : l.self.limits ≡ l.initial.self.limits;
  begun : IsBegun l.events l.progress;
  reaches : Reaches l.initial.self.limits (desk_of_replica l.initial.self l.events l.initial.progress) (desk_of_replica l.self l.events l.progress) l.initial.progress l.progress;
  counted : IsCounted l.initial.self.limits (desk_of_replica l.initial.self l.events l.initial.progress) (desk_of_replica l.self l.events l.progress) l.initial.steps l.steps;
}

abbrev pub decreases-loop : goal.decreases-loop
decreases-loop g l = most_judgements (desk_of_replica l.self l.events l.progress)
