use Rattle.std.proofs.Common.{inl, inr, ⊎_elim, ◌∙◌, length, Some, refl, sym, ap}
use Rattle.event_journal.specs.Disk.{written}
use Rattle.event_journal.specs.MemDisk.{content}
use Rattle.event_journal.specs.declared.mem_disk.DiskCall.TheVariants.{Write, FailedWrite}
use Rattle.event_journal.proofs.Keeping.{write_kept, failed_write_kept}
use Rattle.event_journal.proofs.Replay.{time_pushed, time_after, torn_same, torn_pushed, torn_failed, failed_torn, failed_same, content_then, content_pushed}
use Rattle.event_journal.proofs.mem_disk.MemDiskDisk.write_at.Goals as goal

pub invariant_of-self-in-Ok : goal.invariant_of-self-in-Ok
invariant_of-self-in-Ok c =
    let made = c.in-Ok.ensures.made in
    c.in-Ok.ensures.bytes
    ∙ ap (λ l. written l c.args.at c.args.bytes.now) c.self.invariant
    ∙ ap (λ l. written (content c.self.inside.first.items c.self.inside.made.items) c.args.at l) (sym made.1)
    ∙ sym (content_pushed c.self.inside.first.items c.self.inside.made.items (Write c.args.at made.0))
    ∙ sym (ap (λ l. content c.self.inside.first.items l) made.2)

pub returns-in-Ok-clause-bytes : goal.returns-in-Ok-clause-bytes
returns-in-Ok-clause-bytes c =
    let made = c.in-Ok.ensures.made in
    ap Some (content_then c.args.self.now (record { first = c.self.inside.first.items; made = c.self.inside.made.items; starved = c.self.inside.starved; calls = c.self.inside.calls; tear = c.self.inside.tear }) c.self.view_is c.record_write.new.made.items (Write c.args.at made.0) made.2 ∙ ap (λ l. written (content c.args.self.now.first c.args.self.now.made) c.args.at l) made.1)

pub returns-in-Ok-clause-crash : goal.returns-in-Ok-clause-crash
returns-in-Ok-clause-crash c =
    let made = c.in-Ok.ensures.made in
    torn_pushed c.args.self.now (record { first = c.self.inside.first.items; made = c.self.inside.made.items; starved = c.self.inside.starved; calls = c.self.inside.calls; tear = c.self.inside.tear }) c.self.view_is c.record_write.new.made.items c.args.at c.args.bytes.now made.0 made.1 made.2 c.requires

pub returns-in-Ok-clause-time : goal.returns-in-Ok-clause-time
returns-in-Ok-clause-time c =
    let made = c.in-Ok.ensures.made in
    time_pushed c.args.self.now (record { first = c.self.inside.first.items; made = c.self.inside.made.items; starved = c.self.inside.starved; calls = c.self.inside.calls; tear = c.self.inside.tear }) c.self.view_is c.record_write.new.made.items (Write c.args.at made.0) made.2

pub returns-in-Err-clause-crash : goal.returns-in-Err-clause-crash
returns-in-Err-clause-crash c = torn_same c.args.self.now (record { first = c.self.inside.first.items; made = c.self.inside.made.items; starved = c.self.inside.starved; calls = c.self.inside.calls; tear = c.self.inside.tear }) c.self.view_is c.args.at (length c.args.bytes.now) c.record_write.new.made.items c.in-Err.ensures.same.1

pub invariant_of-self : goal.invariant_of-self
invariant_of-self c =
    ⊎_elim
    (λ t. t.4
    ∙ ap (λ l. written l c.args.at t.1.items) c.self.invariant
    ∙ sym (content_pushed c.self.inside.first.items c.self.inside.made.items (FailedWrite c.args.at t.0 t.1))
    ∙ sym (ap (λ l. content c.self.inside.first.items l) t.5))
    (λ w. w.0 ∙ c.self.invariant ∙ sym (ap (λ l. content c.self.inside.first.items l) w.1))
    c.fail_or_starve.ensures

pub returns-then-fails_next-clause-bytes : goal.returns-then-fails_next-clause-bytes
returns-then-fails_next-clause-bytes c =
    let later = c.fail_or_starve.new.made.items in
    let now = content c.self.inside.first.items later in
    ⊎_elim
    (λ t. (now, refl, failed_torn c.args.self.now (record { first = c.self.inside.first.items; made = c.self.inside.made.items; starved = c.self.inside.starved; calls = c.self.inside.calls; tear = c.self.inside.tear }) c.self.view_is later c.args.at c.args.bytes.now t.0 t.1 t.3 t.5 c.requires))
    (λ w. (now, refl, failed_same c.args.self.now (record { first = c.self.inside.first.items; made = c.self.inside.made.items; starved = c.self.inside.starved; calls = c.self.inside.calls; tear = c.self.inside.tear }) c.self.view_is later c.args.at (length c.args.bytes.now) w.1))
    c.fail_or_starve.ensures

pub returns-then-fails_next-clause-crash : goal.returns-then-fails_next-clause-crash
returns-then-fails_next-clause-crash c =
    let later = c.fail_or_starve.new.made.items in
    ⊎_elim
    (λ t. torn_failed c.args.self.now (record { first = c.self.inside.first.items; made = c.self.inside.made.items; starved = c.self.inside.starved; calls = c.self.inside.calls; tear = c.self.inside.tear }) c.self.view_is later c.args.at c.args.bytes.now t.0 t.1 t.2 t.3 t.5 c.requires)
    (λ w. torn_same c.args.self.now (record { first = c.self.inside.first.items; made = c.self.inside.made.items; starved = c.self.inside.starved; calls = c.self.inside.calls; tear = c.self.inside.tear }) c.self.view_is c.args.at (length c.args.bytes.now) later w.1)
    c.fail_or_starve.ensures

pub returns-then-fails_next-clause-time : goal.returns-then-fails_next-clause-time
returns-then-fails_next-clause-time c =
    let later = c.fail_or_starve.new.made.items in
    ⊎_elim
    (λ t. time_pushed c.args.self.now (record { first = c.self.inside.first.items; made = c.self.inside.made.items; starved = c.self.inside.starved; calls = c.self.inside.calls; tear = c.self.inside.tear }) c.self.view_is later (FailedWrite c.args.at t.0 t.1) t.5)
    (λ w. time_after c.args.self.now (record { first = c.self.inside.first.items; made = c.self.inside.made.items; starved = c.self.inside.starved; calls = c.self.inside.calls; tear = c.self.inside.tear }) c.self.view_is later w.1)
    c.fail_or_starve.ensures

pub returns-in-Ok-clause-kept : goal.returns-in-Ok-clause-kept
returns-in-Ok-clause-kept c =
    let made = c.in-Ok.ensures.made in
    write_kept c.args.self.now (record { first = c.self.inside.first.items; made = c.self.inside.made.items; starved = c.self.inside.starved; calls = c.self.inside.calls; tear = c.self.inside.tear }) c.self.view_is tt c.record_write.new.made.items c.count-in-Ok.new.self c.args.at c.args.bytes.now made.0 c.count-in-Ok.ensures.after made.1 made.2

pub returns-in-Err-clause-kept : goal.returns-in-Err-clause-kept
returns-in-Err-clause-kept c =
    failed_write_kept c.args.self.now (record { first = c.self.inside.first.items; made = c.self.inside.made.items; starved = c.self.inside.starved; calls = c.self.inside.calls; tear = c.self.inside.tear }) c.self.view_is c.record_write.new.made.items c.rise.new.self c.count-in-Err.new.self c.args.at c.args.bytes.now c.count-in-Err.ensures.after
    (inr (c.in-Err.ensures.same.1, c.rise.ensures.one))

pub returns-then-fails_next-clause-kept : goal.returns-then-fails_next-clause-kept
returns-then-fails_next-clause-kept c =
    failed_write_kept c.args.self.now (record { first = c.self.inside.first.items; made = c.self.inside.made.items; starved = c.self.inside.starved; calls = c.self.inside.calls; tear = c.self.inside.tear }) c.self.view_is c.fail_or_starve.new.made.items c.fail_or_starve.new.starved c.count.new.self c.args.at c.args.bytes.now c.count.ensures.after
    (⊎_elim (λ t. inl (t.0, t.1, t.2, t.3, (t.5, t.6))) (λ w. inr (w.1, w.2)) c.fail_or_starve.ensures)
