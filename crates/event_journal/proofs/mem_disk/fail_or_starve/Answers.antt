use Rattle.std.proofs.Common.{inl, inr, refl}
use Rattle.event_journal.proofs.mem_disk.fail_or_starve.Goals as goal

pub returns-in-Ok : goal.returns-in-Ok
returns-in-Ok c =
    let t = c.in-Ok.ensures.torn in
    inl (t.0, t.1, t.2, t.3, t.4, t.5, refl)

pub returns-in-Err : goal.returns-in-Err
returns-in-Err c = inr (c.in-Err.ensures.same.0, c.in-Err.ensures.same.1, c.rise.ensures.one)
