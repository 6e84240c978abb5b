use Rattle.std.proofs.Common.{◌≡◌, ◌≤◌, length, rules}
use Rattle.event_journal.specs.Disk.{written}
use Rattle.event_journal.proofs.mem_disk.fail_to_write.Goals as goal

pub returns-clause-torn : goal.returns-clause-torn
returns-clause-torn c =
    let same : c.in_ok-kept.kept.items ≡ c.args.piece.now = search rules in
    let short : length c.in_ok-left.left.items ≤ length c.args.piece.now = search rules in
    let next : c.in_ok-next.next.items ≡ written c.args.bytes.now.items c.args.at c.in_ok-left.left.items = search rules in
    (c.in_ok-kept.kept, c.in_ok-left.left, same, short, next, c.in_ok-push.ensures.items)
