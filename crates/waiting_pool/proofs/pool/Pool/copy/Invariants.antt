use Rattle.std.proofs.Common.{◌≡◌, ◌++◌}
use Rattle.waiting_pool.proofs.pool.Pool.copy.Given as goal

abbrev pub invariant-loop-waiter : goal.invariant-loop-waiter
invariant-loop-waiter l = record {
  limit : l.copy.limit ≡ l.self.limit;
  seen : l.copy.seen ≡ l.self.seen;
  rest : l.copy.waiters ++ l.waiter-iterator ≡ l.self.waiters;
}
