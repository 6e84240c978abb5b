use Rattle.std.proofs.Common.{◌≤◌, refl, inl, inr, ap, sym, subst, length}
use Rattle.std.proofs.lemmas.Result.{err_from_is_err_and}
use Rattle.command_table.specs.Journals.{Watch, watch_input, watch_script}
use Rattle.command_table.specs.Refusals.{input_too_long}
use Rattle.command_table.specs.Sessions.{closed_by}
use Rattle.command_table.specs.Table.{refuses}
use Rattle.command_texts.specs.declared.refusal.Refusal.TheVariants as why
use Rattle.opened_files.specs.declared.reply.Reply.TheVariants as reply
use Rattle.line_plans.specs.Inputs.{too_long}
use Rattle.journal_plans.specs.declared.stop.Stop.TheVariants.{Fault}
use Rattle.journal_plans.proofs.Inputs.{follows_nothing, follows_stop, found_of, watch_long}
use Rattle.journal_plans.proofs.Keeping.{keeps_empty, keeps_none}
use Rattle.journal_plans.proofs.Watching.{sends_nothing}
use Rattle.journal_plans.proofs.watch.keep_input.Goals as goal

pub returns-in_err-read_input-clause-told : goal.returns-in_err-read_input-clause-told
returns-in_err-read_input-clause-told g c =
    let p = err_from_is_err_and c.from_residual.result c.from_residual.ensures.1 in
    rw (p.1, p.2)
    (λ input reading left means. (
      follows_stop (watch_input c.args.agent c.args.limits.now input reading c.args.opened.now.replica.held).session (g.K.Sink.seen c.args.out.now) (Fault c.in_err-read_input.field-0.0),
      keeps_none g.D.Disk.may_leave g.D.Disk.moment g.D.Disk.left_since c.args.limits.now (watch_input c.args.agent c.args.limits.now input reading c.args.opened.now.replica.held).kept c.args.opened.now.journal c.args.disk.now (g.D.Disk.seen c.args.disk.now).bytes (g.K.Sink.seen c.args.out.now) (Fault c.in_err-read_input.field-0.0) c.requires.fresh.journal (g.met.D.Disk.only_now c.args.disk.now),
    ))

pub returns-in_err-read_input-clause-some : goal.returns-in_err-read_input-clause-some
returns-in_err-read_input-clause-some g c =
    let p = err_from_is_err_and c.from_residual.result c.from_residual.ensures.1 in
    rw p.1 (closed_by (refuses (input_too_long c.args.limits.now.input)), inl refl, follows_stop (closed_by (refuses (input_too_long c.args.limits.now.input))) (g.K.Sink.seen c.args.out.now) p.0)

pub returns-in-TooLong-clause-told : goal.returns-in-TooLong-clause-told
returns-in-TooLong-clause-told g c =
    let view = ap (λ n. refuses (input_too_long n)) c.input-most.ensures.value in
    λ input reading left means.
    let is = found_of (g.S.Source.seen c.args.input.now).left input c.input-most.result too_long left (rw c.in-TooLong.is at c.in_ok-read_input.ensures.told) in
    let w = watch_long c.args.agent c.args.limits.now c.args.opened.now.replica.held c.input-most.result c.input-most.ensures.value input reading is in (
      follows_nothing (watch_input c.args.agent c.args.limits.now input reading c.args.opened.now.replica.held) (g.K.Sink.seen c.args.out.now) (reply.Refuses (why.InputTooLong c.input-most.result)) (refuses (input_too_long c.args.limits.now.input)) w view,
      keeps_empty g.D.Disk.may_leave g.D.Disk.moment g.D.Disk.left_since c.args.limits.now (watch_input c.args.agent c.args.limits.now input reading c.args.opened.now.replica.held).kept c.args.opened.now.journal c.args.disk.now (g.D.Disk.seen c.args.disk.now).bytes (g.K.Sink.seen c.args.out.now) _ (ap (λ (x : Watch). x.kept) w) c.requires.fresh.journal (g.met.D.Disk.only_now c.args.disk.now),
    )

pub returns-in-TooLong-clause-some : goal.returns-in-TooLong-clause-some
returns-in-TooLong-clause-some g c =
    let view = ap (λ n. refuses (input_too_long n)) c.input-most.ensures.value in
    (closed_by (refuses (input_too_long c.args.limits.now.input)), inl refl, (view, sends_nothing (g.K.Sink.seen c.args.out.now)))

pub returns-in-Whole-clause-some : goal.returns-in-Whole-clause-some
returns-in-Whole-clause-some g c =
    let s = c.keep_script.ensures.some in
    let within : length c.deref.result.now ≤ c.args.limits.now.input =
    subst (λ n. length c.deref.result.now ≤ n) c.input-most.ensures.value (subst (λ xs. length xs ≤ c.input-most.result) (sym c.deref.ensures.value) (rw c.in-Whole.is at c.in_ok-read_input.ensures.short)) in
    ((watch_script c.args.agent c.args.limits.now c.args.opened.now.replica.held s.0).session, inr (c.deref.result.now, s.0, within, s.1, refl, c.keep_script.ensures.fits), s.2)
