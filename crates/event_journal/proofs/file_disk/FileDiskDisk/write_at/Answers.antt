use Rattle.std.proofs.Common.{length}
use Rattle.event_journal.proofs.Torn.{torn_itself}
use Rattle.event_journal.proofs.file_disk.FileDiskDisk.write_at.Goals as goal

pub returns-clause-crash : goal.returns-clause-crash
returns-clause-crash g c = λ c' left. (c', tt, torn_itself c.args.at (length c.args.bytes.now) c')
