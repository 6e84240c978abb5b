use Rattle.std.proofs.Common.{◌≡◌, ◌∙◌, length, take, ap, arith}
use Rattle.event_runs.specs.BareEvents.{BareEvent}
use Rattle.event_runs.proofs.Found.{told_by}
use Rattle.event_runs.proofs.RunEvents.{length-events_in}
use Rattle.event_runs.proofs.storage.EventRuns.append_run.Goals as goal

pub returns-in-Err-clause-err : goal.returns-in-Err-clause-err
returns-in-Err-clause-err c =
    let all = length-events_in (told_by c.self.inside.chars.items c.self.inside.labels.items) c.self.inside.runs.items c.self.inside.parents 0 0 c.self.inside.count (length c.self.inside.chars.items) c.self.invariant.in_line in
    let long = ap (length {A = BareEvent}) c.self.view_is in
    let count : c.self.inside.count ≡ length c.args.self.now = omega (arith, all, long) in
    c.truncate.ensures ∙ ap (λ n. take n c.put_run.new.self) count ∙ c.in-Err.ensures.err
