use Rattle.std.proofs.Common.{◌≡◌, ◌-◌, length}
use Rattle.waiting_pool.specs.Waiting.{events_of}
use Rattle.waiting_pool.specs.Knowing.{IsBehind}
use Rattle.waiting_pool.proofs.pool.Pool.look.Given as goal

abbrev pub invariant-loop-self : goal.invariant-loop-self
invariant-loop-self l = record {
  limit : l.self.limit ≡ l.initial.self.limit;
  events : events_of l.self ≡ events_of l.initial.self;
  behind : IsBehind l.graph l.self;
}

abbrev pub decreases-loop-self : goal.decreases-loop-self
decreases-loop-self l = length l.graph - l.self.seen
