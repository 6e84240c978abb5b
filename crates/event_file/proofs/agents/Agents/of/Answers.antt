use Rattle.std.proofs.Common.{length, List, ℕ, ap, arith}
use Rattle.event_file.proofs.Tables.{few_agents}
use Rattle.event_file.proofs.agents.Agents.of.Goals as goal

pub add-requires : goal.add-requires
add-requires c =
    let few = few_agents c.args.events.now c.loop-event.event-index (omega arith) in
    let is = ap (λ (xs : List (List ℕ)). length xs) c.loop-event.invariant in
    omega arith
