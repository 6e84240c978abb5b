use Rattle.std.proofs.Common.{◌≡◌, take}
use Rattle.event_journal.specs.MemDisk.{content, MayLeave}
use Rattle.event_journal.proofs.mem_disk.MemDisk.image.Given as goal

abbrev pub invariant-loop-call : goal.invariant-loop-call
invariant-loop-call l = record {
  bytes : l.bytes.items ≡ content l.self.first (take l.call-index l.call-items);
  image : MayLeave l.self.first (λ b. b ≡ l.self.first) (take l.call-index l.call-items) l.image.items;
}
