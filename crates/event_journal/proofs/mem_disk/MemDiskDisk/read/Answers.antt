use Rattle.std.proofs.Common.{true, false, length, inr, Some, Ok, refl, sym, ap, ◌∙◌, rules}
use Rattle.std.specs.Prelude.{IsErr}
use Rattle.event_journal.specs.declared.mem_disk.DiskCall.TheVariants.{Read}
use Rattle.event_journal.proofs.Keeping.{noted_kept}
use Rattle.event_journal.proofs.Replay.{noted_same, time_noted, content_noted, less_noted}
use Rattle.event_journal.proofs.mem_disk.MemDiskDisk.read.Goals as goal

pub invariant_of-self : goal.invariant_of-self
invariant_of-self c = c.self.invariant ∙ sym (noted_same c.self.inside.first.items c.self.inside.made.items c.note.new.made.items (Read c.args.at (length c.args.buf.now) c.fails_next-failed.result) (λ b. refl) c.in_err-note.ensures.kept_or_same)

pub returns-in_err-note-clause-bytes : goal.returns-in_err-note-clause-bytes
returns-in_err-note-clause-bytes c = ap Some (content_noted c.args.self.now (record { first = c.self.inside.first.items; made = c.self.inside.made.items; starved = c.self.inside.starved; calls = c.self.inside.calls; tear = c.self.inside.tear }) c.self.view_is c.note.new.made.items (Read c.args.at (length c.args.buf.now) c.fails_next-failed.result) (λ b. refl) c.in_err-note.ensures.kept_or_same)

pub returns-in_err-note-clause-crash : goal.returns-in_err-note-clause-crash
returns-in_err-note-clause-crash c = less_noted c.args.self.now (record { first = c.self.inside.first.items; made = c.self.inside.made.items; starved = c.self.inside.starved; calls = c.self.inside.calls; tear = c.self.inside.tear }) c.self.view_is c.note.new.made.items (Read c.args.at (length c.args.buf.now) c.fails_next-failed.result) (λ d left. left) c.in_err-note.ensures.kept_or_same

pub returns-in_err-note-clause-time : goal.returns-in_err-note-clause-time
returns-in_err-note-clause-time c = time_noted c.args.self.now (record { first = c.self.inside.first.items; made = c.self.inside.made.items; starved = c.self.inside.starved; calls = c.self.inside.calls; tear = c.self.inside.tear }) c.self.view_is c.note.new.made.items (Read c.args.at (length c.args.buf.now) c.fails_next-failed.result) c.in_err-note.ensures.kept_or_same

pub invariant_of-self-2 : goal.invariant_of-self-2
invariant_of-self-2 c = c.self.invariant ∙ sym (noted_same c.self.inside.first.items c.self.inside.made.items c.note.new.made.items (Read c.args.at (length c.args.buf.now) c.fails_next-failed.result) (λ b. refl) (inr c.in_ok-note.ensures.kept))

pub returns-clause-bytes : goal.returns-clause-bytes
returns-clause-bytes c = ap Some (content_noted c.args.self.now (record { first = c.self.inside.first.items; made = c.self.inside.made.items; starved = c.self.inside.starved; calls = c.self.inside.calls; tear = c.self.inside.tear }) c.self.view_is c.note.new.made.items (Read c.args.at (length c.args.buf.now) c.fails_next-failed.result) (λ b. refl) (inr c.in_ok-note.ensures.kept))

pub returns-clause-crash : goal.returns-clause-crash
returns-clause-crash c = less_noted c.args.self.now (record { first = c.self.inside.first.items; made = c.self.inside.made.items; starved = c.self.inside.starved; calls = c.self.inside.calls; tear = c.self.inside.tear }) c.self.view_is c.note.new.made.items (Read c.args.at (length c.args.buf.now) c.fails_next-failed.result) (λ d left. left) (inr c.in_ok-note.ensures.kept)

pub returns-clause-time : goal.returns-clause-time
returns-clause-time c = time_noted c.args.self.now (record { first = c.self.inside.first.items; made = c.self.inside.made.items; starved = c.self.inside.starved; calls = c.self.inside.calls; tear = c.self.inside.tear }) c.self.view_is c.note.new.made.items (Read c.args.at (length c.args.buf.now) c.fails_next-failed.result) (inr c.in_ok-note.ensures.kept)

pub returns-in_err-note-clause-kept : goal.returns-in_err-note-clause-kept
returns-in_err-note-clause-kept c =
    let failed : IsErr c.from_residual.result = search rules in
    noted_kept c.args.self.now (record { first = c.self.inside.first.items; made = c.self.inside.made.items; starved = c.self.inside.starved; calls = c.self.inside.calls; tear = c.self.inside.tear }) c.self.view_is c.from_residual.result true (Read c.args.at (length c.args.buf.now)) c.fails_next-failed.result c.note.new.made.items c.note.new.starved c.note.new.calls failed c.in_err-note.ensures.calls c.in_err-note.ensures.noted

pub returns-clause-kept : goal.returns-clause-kept
returns-clause-kept c = noted_kept c.args.self.now (record { first = c.self.inside.first.items; made = c.self.inside.made.items; starved = c.self.inside.starved; calls = c.self.inside.calls; tear = c.self.inside.tear }) c.self.view_is (Ok _) false (Read c.args.at (length c.args.buf.now)) c.fails_next-failed.result c.note.new.made.items c.note.new.starved c.note.new.calls refl c.in_ok-note.ensures.calls c.in_ok-note.ensures.noted
