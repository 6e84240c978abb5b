use Rattle.std.proofs.Common.{sym}
use Rattle.walker_record.specs.StretchLaws.{length-states_from}
use Rattle.walker_record.proofs.record.RecordRun.size.Goals as goal

pub returns : goal.returns
returns c = rw (← c.self.view_is) (sym (length-states_from c.self.inside.from c.self.inside.len c.self.inside.prepared c.self.inside.effect))
