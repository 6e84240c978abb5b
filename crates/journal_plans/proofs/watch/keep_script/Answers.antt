use Rattle.std.proofs.Common.{◌∙◌, refl, Err, Ok, [], ap}
use Rattle.std.proofs.lemmas.Result.{err_from_is_err_and}
use Rattle.script_reader.specs.Meaning.{numbered_edits}
use Rattle.command_table.specs.Journals.{watch_script}
use Rattle.command_table.specs.Scripts.{bad_line, watched_by}
use Rattle.command_table.specs.Table.{prints}
use Rattle.opened_files.specs.declared.reply.Reply.{Reply}
use Rattle.command_texts.specs.declared.refusal.Refusal.TheVariants as why
use Rattle.opened_files.specs.declared.reply.Reply.TheVariants as reply
use Rattle.journal_plans.specs.Keeping.{KeepsLines, kept_edits}
use Rattle.journal_plans.proofs.Keeping.{grows_none, keeps_at_err, keeps_at_ok, keeps_empty, keeps_none}
use Rattle.journal_plans.proofs.Scripts.{follows_bad, follows_done, follows_refused, kept_of_script, session_of_script, some_of_script, some_reading}
use Rattle.journal_plans.proofs.Watching.{sends_nothing}
use Rattle.journal_plans.proofs.watch.keep_script.Goals as goal
use Rattle.line_plans.proofs.Readings.{for_each}

pub returns-in-Err-OutOfMemory-clause-some : goal.returns-in-Err-OutOfMemory-clause-some
returns-in-Err-OutOfMemory-clause-some g c =
    let r = some_reading c.args.script.now in
    (r.0, r.1, grows_none _ _ _ refl)

pub returns-in-Err-OutOfMemory-clause-kept : goal.returns-in-Err-OutOfMemory-clause-kept
returns-in-Err-OutOfMemory-clause-kept g c = λ reading means.
    keeps_none g.D.Disk.may_leave g.D.Disk.moment g.D.Disk.left_since c.args.limits.now (watch_script c.args.agent c.args.limits.now c.args.opened.now.replica.held reading).kept c.args.opened.now.journal c.args.disk.now (g.D.Disk.seen c.args.disk.now).bytes
    (g.K.Sink.seen c.args.out.now) _ c.requires.fresh.journal (g.met.D.Disk.only_now c.args.disk.now)

pub returns-in-Err-BadLine-clause-told : goal.returns-in-Err-BadLine-clause-told
returns-in-Err-BadLine-clause-told g c =
    let line = c.in-Err-BadLine.line in
    rw c.in-Err-BadLine.field-0-is
    (follows_bad c.args.agent c.args.limits.now c.args.opened.now.replica.held c.args.script.now line (g.K.Sink.seen c.args.out.now) (reply.Refuses (why.Unreadable line))
    (c.in-Err-BadLine.ensures.bad_line line (λ i. Err (c.in-Err-BadLine.field-0-is i))) refl)

pub returns-in-Err-BadLine-clause-some : goal.returns-in-Err-BadLine-clause-some
returns-in-Err-BadLine-clause-some g c =
    let line = c.in-Err-BadLine.line in
    (bad_line line, c.in-Err-BadLine.ensures.bad_line line (λ i. Err (c.in-Err-BadLine.field-0-is i)), rw c.in-Err-BadLine.field-0-is (refl, sends_nothing (g.K.Sink.seen c.args.out.now)))

pub returns-in-Err-BadLine-clause-kept : goal.returns-in-Err-BadLine-clause-kept
returns-in-Err-BadLine-clause-kept g c =
    let line = c.in-Err-BadLine.line in
    for_each c.args.script.now (bad_line line)
    (λ reading. KeepsLines {T = Reply} g.D.Disk.may_leave g.D.Disk.moment g.D.Disk.left_since c.args.limits.now (watch_script c.args.agent c.args.limits.now c.args.opened.now.replica.held reading).kept c.args.opened.now.journal c.args.opened.now.journal
    c.args.disk.now c.args.disk.now (g.D.Disk.seen c.args.disk.now).bytes (g.D.Disk.seen c.args.disk.now).bytes (g.K.Sink.seen c.args.out.now) (g.K.Sink.seen c.args.out.now) (Ok _))
    (c.in-Err-BadLine.ensures.bad_line line (λ i. Err (c.in-Err-BadLine.field-0-is i)))
    (keeps_empty g.D.Disk.may_leave g.D.Disk.moment g.D.Disk.left_since c.args.limits.now [] c.args.opened.now.journal c.args.disk.now (g.D.Disk.seen c.args.disk.now).bytes
    (g.K.Sink.seen c.args.out.now) _ refl c.requires.fresh.journal (g.met.D.Disk.only_now c.args.disk.now))

pub returns-in_err-refusal-clause-told : goal.returns-in_err-refusal-clause-told
returns-in_err-refusal-clause-told g c =
    let p = err_from_is_err_and c.from_residual.result c.from_residual.ensures.1 in
    let r = c.args.opened.now.replica in
    let w = kept_edits c.args.agent r (numbered_edits c.deref.result.now) in
    let w_is = ap (λ es. kept_edits c.args.agent r (numbered_edits es)) c.deref.ensures.value ∙ ap (λ l. watched_by l c.args.agent r.held (numbered_edits c.in-Ok.edits.items)) c.requires.fresh.replica in
    rw p.1
    (session_of_script c.args.agent c.args.limits.now r.held c.args.script.now (numbered_edits c.in-Ok.edits.items) c.in-Ok.ensures.script w w_is
    (g.K.Sink.seen c.args.out.now) (g.K.Sink.seen c.keep_edits.new.out) (Err p.0) c.in_err-refusal.ensures.kept.prints)

pub returns-in_err-refusal-clause-some : goal.returns-in_err-refusal-clause-some
returns-in_err-refusal-clause-some g c =
    let p = err_from_is_err_and c.from_residual.result c.from_residual.ensures.1 in
    let r = c.args.opened.now.replica in
    let w = kept_edits c.args.agent r (numbered_edits c.deref.result.now) in
    let w_is = ap (λ es. kept_edits c.args.agent r (numbered_edits es)) c.deref.ensures.value ∙ ap (λ l. watched_by l c.args.agent r.held (numbered_edits c.in-Ok.edits.items)) c.requires.fresh.replica in
    rw p.1
    (some_of_script c.args.agent c.args.limits.now r.held c.args.script.now (numbered_edits c.in-Ok.edits.items) c.in-Ok.ensures.script w w_is
    (g.K.Sink.seen c.args.out.now) (g.K.Sink.seen c.keep_edits.new.out) (Err p.0) c.in_err-refusal.ensures.kept.prints)

pub returns-in_err-refusal-clause-kept : goal.returns-in_err-refusal-clause-kept
returns-in_err-refusal-clause-kept g c =
    let p = err_from_is_err_and c.from_residual.result c.from_residual.ensures.1 in
    let r = c.args.opened.now.replica in
    let w = kept_edits c.args.agent r (numbered_edits c.deref.result.now) in
    let w_is = ap (λ es. kept_edits c.args.agent r (numbered_edits es)) c.deref.ensures.value ∙ ap (λ l. watched_by l c.args.agent r.held (numbered_edits c.in-Ok.edits.items)) c.requires.fresh.replica in
    rw (p.1, p.2)
    (kept_of_script c.args.agent c.args.limits.now r.held c.args.script.now (numbered_edits c.in-Ok.edits.items) c.in-Ok.ensures.script w w_is
    (λ ls. KeepsLines {T = Reply} g.D.Disk.may_leave g.D.Disk.moment g.D.Disk.left_since c.args.limits.now ls c.args.opened.now.journal c.keep_edits.new.opened.journal
    c.args.disk.now c.keep_edits.new.disk (g.D.Disk.seen c.args.disk.now).bytes (g.D.Disk.seen c.keep_edits.new.disk).bytes (g.K.Sink.seen c.args.out.now) (g.K.Sink.seen c.keep_edits.new.out) (Err c.in_err-refusal.field-0.0))
    (keeps_at_err g.D.Disk.may_leave g.D.Disk.moment g.D.Disk.left_since c.args.limits.now w.kept c.args.opened.now.journal c.keep_edits.new.opened.journal
    c.args.disk.now c.keep_edits.new.disk (g.D.Disk.seen c.args.disk.now).bytes (g.D.Disk.seen c.keep_edits.new.disk).bytes (g.K.Sink.seen c.args.out.now) (g.K.Sink.seen c.keep_edits.new.out) c.in_err-refusal.field-0.0
    c.in_err-refusal.ensures.kept))

pub returns-in-Some-clause-told : goal.returns-in-Some-clause-told
returns-in-Some-clause-told g c =
    let r = c.args.opened.now.replica in
    let w = kept_edits c.args.agent r (numbered_edits c.deref.result.now) in
    let w_is = ap (λ es. kept_edits c.args.agent r (numbered_edits es)) c.deref.ensures.value ∙ ap (λ l. watched_by l c.args.agent r.held (numbered_edits c.in-Ok.edits.items)) c.requires.fresh.replica in
    session_of_script c.args.agent c.args.limits.now r.held c.args.script.now (numbered_edits c.in-Ok.edits.items) c.in-Ok.ensures.script w w_is
    (g.K.Sink.seen c.args.out.now) (g.K.Sink.seen c.keep_edits.new.out) (Ok c.in-Some.refusal)
    (follows_refused c.args.limits.now w (g.K.Sink.seen c.args.out.now) (g.K.Sink.seen c.keep_edits.new.out) c.in-Some.refusal _ c.in-Some.is c.in_ok-refusal.ensures.ends c.in_ok-refusal.ensures.kept.prints)

pub returns-in-Some-clause-some : goal.returns-in-Some-clause-some
returns-in-Some-clause-some g c =
    let r = c.args.opened.now.replica in
    let w = kept_edits c.args.agent r (numbered_edits c.deref.result.now) in
    let w_is = ap (λ es. kept_edits c.args.agent r (numbered_edits es)) c.deref.ensures.value ∙ ap (λ l. watched_by l c.args.agent r.held (numbered_edits c.in-Ok.edits.items)) c.requires.fresh.replica in
    some_of_script c.args.agent c.args.limits.now r.held c.args.script.now (numbered_edits c.in-Ok.edits.items) c.in-Ok.ensures.script w w_is
    (g.K.Sink.seen c.args.out.now) (g.K.Sink.seen c.keep_edits.new.out) (Ok c.in-Some.refusal)
    (follows_refused c.args.limits.now w (g.K.Sink.seen c.args.out.now) (g.K.Sink.seen c.keep_edits.new.out) c.in-Some.refusal _ c.in-Some.is c.in_ok-refusal.ensures.ends c.in_ok-refusal.ensures.kept.prints)

pub returns-in-Some-clause-kept : goal.returns-in-Some-clause-kept
returns-in-Some-clause-kept g c =
    let r = c.args.opened.now.replica in
    let w = kept_edits c.args.agent r (numbered_edits c.deref.result.now) in
    let w_is = ap (λ es. kept_edits c.args.agent r (numbered_edits es)) c.deref.ensures.value ∙ ap (λ l. watched_by l c.args.agent r.held (numbered_edits c.in-Ok.edits.items)) c.requires.fresh.replica in
    kept_of_script c.args.agent c.args.limits.now r.held c.args.script.now (numbered_edits c.in-Ok.edits.items) c.in-Ok.ensures.script w w_is
    (λ ls. KeepsLines {T = Reply} g.D.Disk.may_leave g.D.Disk.moment g.D.Disk.left_since c.args.limits.now ls c.args.opened.now.journal c.keep_edits.new.opened.journal
    c.args.disk.now c.keep_edits.new.disk (g.D.Disk.seen c.args.disk.now).bytes (g.D.Disk.seen c.keep_edits.new.disk).bytes (g.K.Sink.seen c.args.out.now) (g.K.Sink.seen c.keep_edits.new.out) (Ok c.in-Some.refusal))
    (keeps_at_ok g.D.Disk.may_leave g.D.Disk.moment g.D.Disk.left_since c.args.limits.now w.kept c.args.opened.now.journal c.keep_edits.new.opened.journal
    c.args.disk.now c.keep_edits.new.disk (g.D.Disk.seen c.args.disk.now).bytes (g.D.Disk.seen c.keep_edits.new.disk).bytes (g.K.Sink.seen c.args.out.now) (g.K.Sink.seen c.keep_edits.new.out) _ c.in-Some.refusal
    c.in_ok-refusal.ensures.kept)

pub returns-clause-told : goal.returns-clause-told
returns-clause-told g c =
    let r = c.args.opened.now.replica in
    let w = kept_edits c.args.agent r (numbered_edits c.deref.result.now) in
    let w_is = ap (λ es. kept_edits c.args.agent r (numbered_edits es)) c.deref.ensures.value ∙ ap (λ l. watched_by l c.args.agent r.held (numbered_edits c.in-Ok.edits.items)) c.requires.fresh.replica in
    session_of_script c.args.agent c.args.limits.now r.held c.args.script.now (numbered_edits c.in-Ok.edits.items) c.in-Ok.ensures.script w w_is
    (g.K.Sink.seen c.args.out.now) (g.K.Sink.seen c.keep_edits.new.out) (Ok (reply.Prints c.new.result))
    (follows_done c.args.limits.now w (g.K.Sink.seen c.args.out.now) (g.K.Sink.seen c.keep_edits.new.out) (reply.Prints c.new.result) _ c.in-None.is c.in_ok-refusal.ensures.ends c.in_ok-refusal.ensures.kept.prints (ap prints c.new.ensures.items))

pub returns-clause-some : goal.returns-clause-some
returns-clause-some g c =
    let r = c.args.opened.now.replica in
    let w = kept_edits c.args.agent r (numbered_edits c.deref.result.now) in
    let w_is = ap (λ es. kept_edits c.args.agent r (numbered_edits es)) c.deref.ensures.value ∙ ap (λ l. watched_by l c.args.agent r.held (numbered_edits c.in-Ok.edits.items)) c.requires.fresh.replica in
    some_of_script c.args.agent c.args.limits.now r.held c.args.script.now (numbered_edits c.in-Ok.edits.items) c.in-Ok.ensures.script w w_is
    (g.K.Sink.seen c.args.out.now) (g.K.Sink.seen c.keep_edits.new.out) (Ok (reply.Prints c.new.result))
    (follows_done c.args.limits.now w (g.K.Sink.seen c.args.out.now) (g.K.Sink.seen c.keep_edits.new.out) (reply.Prints c.new.result) _ c.in-None.is c.in_ok-refusal.ensures.ends c.in_ok-refusal.ensures.kept.prints (ap prints c.new.ensures.items))

pub returns-clause-kept : goal.returns-clause-kept
returns-clause-kept g c =
    let r = c.args.opened.now.replica in
    let w = kept_edits c.args.agent r (numbered_edits c.deref.result.now) in
    let w_is = ap (λ es. kept_edits c.args.agent r (numbered_edits es)) c.deref.ensures.value ∙ ap (λ l. watched_by l c.args.agent r.held (numbered_edits c.in-Ok.edits.items)) c.requires.fresh.replica in
    kept_of_script c.args.agent c.args.limits.now r.held c.args.script.now (numbered_edits c.in-Ok.edits.items) c.in-Ok.ensures.script w w_is
    (λ ls. KeepsLines {T = Reply} g.D.Disk.may_leave g.D.Disk.moment g.D.Disk.left_since c.args.limits.now ls c.args.opened.now.journal c.keep_edits.new.opened.journal
    c.args.disk.now c.keep_edits.new.disk (g.D.Disk.seen c.args.disk.now).bytes (g.D.Disk.seen c.keep_edits.new.disk).bytes (g.K.Sink.seen c.args.out.now) (g.K.Sink.seen c.keep_edits.new.out) (Ok (reply.Prints c.new.result)))
    (keeps_at_ok g.D.Disk.may_leave g.D.Disk.moment g.D.Disk.left_since c.args.limits.now w.kept c.args.opened.now.journal c.keep_edits.new.opened.journal
    c.args.disk.now c.keep_edits.new.disk (g.D.Disk.seen c.args.disk.now).bytes (g.D.Disk.seen c.keep_edits.new.disk).bytes (g.K.Sink.seen c.args.out.now) (g.K.Sink.seen c.keep_edits.new.out) _ (reply.Prints c.new.result)
    c.in_ok-refusal.ensures.kept)
