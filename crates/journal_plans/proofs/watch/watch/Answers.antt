use Rattle.std.proofs.Common.{refl, ap, sym, subst, ⊎_elim, arith}
use Rattle.std.proofs.lemmas.Result.{err_from_is_err_and}
use Rattle.command_table.specs.Journals as table
use Rattle.command_table.specs.Journals.{Watch, watch_opened}
use Rattle.command_table.specs.Sessions.{closed_by}
use Rattle.command_table.specs.Table.{opened, refused, refuses}
use Rattle.command_texts.specs.Reasons.{refusal_view}
use Rattle.journal_plans.specs.Watching.{IsOfSource, KeepsJournal}
use Rattle.journal_plans.proofs.Inputs.{some_stop, watch_over}
use Rattle.journal_plans.proofs.Watching.{keeps_journal, opening_answers, opening_stops, sends_nothing, sound_journal, still, within}
use Rattle.journal_plans.proofs.watch.watch.Goals as goal

pub returns-in_err-why-clause-some : goal.returns-in_err-why-clause-some
returns-in_err-why-clause-some g c =
    let p = err_from_is_err_and c.from_residual.result c.from_residual.ensures.1 in
    rw p.1 (some_stop c.args.agent c.args.limits.now (g.K.Sink.seen c.args.out.now) p.0)

pub returns-in_err-why-clause-kept : goal.returns-in_err-why-clause-kept
returns-in_err-why-clause-kept g c =
    let p = err_from_is_err_and c.from_residual.result c.from_residual.ensures.1 in
    rw (p.1, p.2) (λ j is xs reading left means. opening_stops g.D.Disk.may_leave g.D.Disk.moment g.D.Disk.left_since c.args.limits.now j c.args.disk.now c.open.new.disk (g.D.Disk.seen c.args.disk.now).bytes (g.D.Disk.seen c.open.new.disk).bytes c.open.ensures.tells c.open.ensures.same is c.open.ensures.any_moment (g.met.D.Disk.counts_now c.open.new.disk) (table.watch c.args.agent c.args.limits.now j xs reading).kept (g.K.Sink.seen c.args.out.now) c.in_err-why.field-0.0)

pub returns-in-Refused-clause-some : goal.returns-in-Refused-clause-some
returns-in-Refused-clause-some g c =
    (closed_by (refuses (refusal_view c.in-Refused.why)), ((refused (refusal_view c.in-Refused.why)), rw c.in-Refused.is at c.in_ok-why.ensures.some, refl), (refl, sends_nothing (g.K.Sink.seen c.args.out.now)))

pub returns-in-Refused-clause-kept : goal.returns-in-Refused-clause-kept
returns-in-Refused-clause-kept g c = λ j is xs reading left means.
    let bad = rw c.in-Refused.is at c.in_ok-why.ensures.status in
    opening_answers g.D.Disk.may_leave g.D.Disk.moment g.D.Disk.left_since c.args.limits.now j c.args.disk.now c.open.new.disk (g.D.Disk.seen c.args.disk.now).bytes (g.D.Disk.seen c.open.new.disk).bytes c.open.ensures.tells c.open.ensures.same is c.open.ensures.any_moment (g.met.D.Disk.counts_now c.open.new.disk) (table.watch c.args.agent c.args.limits.now j xs reading).kept (g.K.Sink.seen c.args.out.now) _ (ap (λ (w : Watch). w.kept) (sym (watch_over c.args.agent c.args.limits.now j xs reading (refused (refusal_view c.in-Refused.why)) ((rw c.in-Refused.is at c.in_ok-why.ensures.told) j is))))
    (λ well. absurd (⊎_elim (λ four. omega (arith, four, well)) (λ seven. omega (arith, seven, well)) bad))

pub returns-in-Open-clause-some : goal.returns-in-Open-clause-some
returns-in-Open-clause-some g c =
    let s = c.keep_input.ensures.some in
    (s.0, (opened c.in-Open.opened.replica.held, rw c.in-Open.is at c.in_ok-why.ensures.some, s.1), s.2)

pub returns-in-Open-clause-kept : goal.returns-in-Open-clause-kept
returns-in-Open-clause-kept g c = λ j is xs reading left means.
    let o = watch_opened c.args.agent c.args.limits.now xs reading (opened c.in-Open.opened.replica.held) in
    let fresh = rw c.in-Open.is at c.in_ok-why.ensures.fresh in
    let kept = (rw c.in-Open.is at c.in_ok-why.ensures.kept) j is in
    let now = still g.D.Disk.may_leave g.D.Disk.moment g.D.Disk.left_since c.args.limits.now j c.args.disk.now c.open.new.disk (g.D.Disk.seen c.args.disk.now).bytes (g.D.Disk.seen c.open.new.disk).bytes c.open.ensures.tells c.open.ensures.same is c.open.ensures.any_moment (g.met.D.Disk.counts_now c.open.new.disk) in
    let sound = sound_journal c.args.limits.now j c.in-Open.opened.journal (g.D.Disk.seen c.open.new.disk).bytes (g.D.Disk.may_leave c.open.new.disk) fresh.journal now kept in
    subst (λ (w : Watch). KeepsJournal g.D.Disk.may_leave g.D.Disk.moment g.D.Disk.left_since c.args.limits.now j w.kept c.args.disk.now c.keep_input.new.disk (g.D.Disk.seen c.args.disk.now).bytes (g.D.Disk.seen c.keep_input.new.disk).bytes (g.K.Sink.seen c.args.out.now) (g.K.Sink.seen c.keep_input.new.out) c.keep_input.result)
    (watch_over c.args.agent c.args.limits.now j xs reading (opened c.in-Open.opened.replica.held) ((rw c.in-Open.is at c.in_ok-why.ensures.told) j is))
    (keeps_journal c.args.limits.now j o.kept sound g.D.Disk.may_leave g.D.Disk.moment g.D.Disk.left_since c.in-Open.opened.journal c.keep_input.new.opened.journal c.args.disk.now c.open.new.disk c.keep_input.new.disk (g.D.Disk.seen c.args.disk.now).bytes (g.D.Disk.seen c.open.new.disk).bytes (g.D.Disk.seen c.keep_input.new.disk).bytes (g.K.Sink.seen c.args.out.now) (g.K.Sink.seen c.keep_input.new.out)
    c.keep_input.result fresh.journal c.keep_input.ensures.limits (within g.D.Disk.may_leave g.D.Disk.moment g.D.Disk.left_since c.args.limits.now j c.args.disk.now c.open.new.disk (g.D.Disk.seen c.args.disk.now).bytes (g.D.Disk.seen c.open.new.disk).bytes c.open.ensures.tells c.open.ensures.same is c.open.ensures.any_moment (g.met.D.Disk.counts_now c.open.new.disk)) kept
    (λ stop. ap (λ d. (g.D.Disk.seen d).bytes) (c.keep_input.ensures.unread (subst IsOfSource (sym stop) tt)).1) (c.keep_input.ensures.told xs reading left means).1)
