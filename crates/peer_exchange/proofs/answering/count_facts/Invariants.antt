use Rattle.std.proofs.Common.{take}
use Rattle.std.specs.List.{AllByRecursion}
use Rattle.peer_definitions.specs.Spelling.{IsSoundCount}
use Rattle.peer_exchange.proofs.answering.count_facts.Given as goal

abbrev pub invariant-loop-count : goal.invariant-loop-count
invariant-loop-count l = AllByRecursion IsSoundCount (take l.count-index l.counts)
