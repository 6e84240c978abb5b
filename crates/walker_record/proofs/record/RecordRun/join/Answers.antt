use Rattle.std.proofs.Common.{arith}
use Rattle.walker_record.specs.StretchLaws.{length-chars_of}
use Rattle.walker_record.proofs.record.RecordRun.join.Goals as goal

pub join-requires-clause-short : goal.join-requires-clause-short
join-requires-clause-short c = omega (arith, length-chars_of c.args.self.now, length-chars_of c.args.next.now, c.requires.short)
