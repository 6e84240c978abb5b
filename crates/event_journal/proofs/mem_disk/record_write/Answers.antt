use Rattle.std.proofs.Common.{◌≡◌, rules}
use Rattle.event_journal.proofs.mem_disk.record_write.Goals as goal

pub returns-clause-made : goal.returns-clause-made
returns-clause-made c =
    let same : c.in_ok-kept.kept.items ≡ c.args.piece.now = search rules in
    (c.in_ok-kept.kept, same, c.in_ok-push.ensures.items)
