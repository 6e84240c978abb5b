use Rattle.std.proofs.Common.{rules}
use Rattle.std.proofs.lemmas.Map.Keys.{ge_from_not_lt}
use Rattle.predecessor_map.proofs.table.last_below.Goals as goal

pub returns-in-Some-clause-last : goal.returns-in-Some-clause-last
returns-in-Some-clause-last c = λ b l has.
    ge_from_not_lt c.in-Some.last.now b ((c.range.ensures.in_range tt).4 c.in-Some.last.now c.next_back.new.self c.in-Some.ensures.steps b (tt, search (rules, l)) has)
