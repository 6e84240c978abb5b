use Rattle.std.proofs.Common.{◌≡◌, ◌≤◌, ◌-◌, length, take, drop, arith, rules}
use Rattle.std.proofs.lemmas.Option.{MatchOption-at_some, MatchOption-at_none}
use Rattle.event_journal.proofs.FirstBatches.{head_of_five, is_first, none_spelled, none_empty}
use Rattle.event_journal.proofs.reading.first_batch.Goals as goal

pub returns-then-is_empty : goal.returns-then-is_empty
returns-then-is_empty c =
    let b = c.args.bytes.now in
    let len = c.from_le_bytes-len.result in
    let h = head_of_five b c.requires c.in-len5-up.len_at_least (λ i. omega (arith, c.type_inv.bytes i)) len c.from_le_bytes-len.ensures in
    let none : length c.in-Some.events.items ≡ 0 = search rules in
    none_empty c.args.most b (take (length b - 5) (drop 5 b)) _ len h c.in-Some.events.items none (MatchOption-at_some _ _ c.in-Some.events c.in-Some.is c.in_ok-events.ensures)

pub returns-else-is_empty : goal.returns-else-is_empty
returns-else-is_empty c =
    let b = c.args.bytes.now in
    let len = c.from_le_bytes-len.result in
    let h = head_of_five b c.requires c.in-len5-up.len_at_least (λ i. omega (arith, c.type_inv.bytes i)) len c.from_le_bytes-len.ensures in
    let some : 1 ≤ length c.in-Some.events.items = search rules in
    is_first c.args.most b (take (length b - 5) (drop 5 b)) _ len h c.in-Some.events.items (omega (arith, c.if-behind-len.false)) (omega (arith, c.if-len-most.false)) (omega (arith, c.if-len-most.false, c.ranges.most)) some (MatchOption-at_some _ _ c.in-Some.events c.in-Some.is c.in_ok-events.ensures)

pub returns-in-None : goal.returns-in-None
returns-in-None c =
    let b = c.args.bytes.now in
    let len = c.from_le_bytes-len.result in
    let h = head_of_five b c.requires c.in-len5-up.len_at_least (λ i. omega (arith, c.type_inv.bytes i)) len c.from_le_bytes-len.ensures in
    none_spelled c.args.most b (take (length b - 5) (drop 5 b)) _ len h (MatchOption-at_none _ _ c.in-None.is c.in_ok-events.ensures)
