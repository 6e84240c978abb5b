use Rattle.std.proofs.Common.{length, ap, arith}
use Rattle.event_runs.specs.BareEvents.{BareEvent}
use Rattle.event_runs.proofs.Found.{told_by}
use Rattle.event_runs.proofs.RunEvents.{length-events_in}
use Rattle.event_runs.proofs.storage.EventRuns.count.Goals as goal

pub returns-clause-count : goal.returns-clause-count
returns-clause-count c =
    let all = length-events_in (told_by c.self.inside.chars.items c.self.inside.labels.items) c.self.inside.runs.items c.self.inside.parents 0 0 c.self.inside.count (length c.self.inside.chars.items) c.self.invariant.in_line in
    let long = ap (length {A = BareEvent}) c.self.view_is in omega (arith, all, long)
