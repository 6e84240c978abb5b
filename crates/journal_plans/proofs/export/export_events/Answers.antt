use Rattle.std.proofs.Common.{refl, []}
use Rattle.std.proofs.lemmas.Result.{err_from_is_err_and}
use Rattle.ew_outside.specs.declared.fault.Fault.TheVariants.{OutOfMemory}
use Rattle.journal_plans.specs.Watching.{unprinted}
use Rattle.journal_plans.specs.declared.stop.Stop.TheVariants.{Fault}
use Rattle.journal_plans.proofs.Watching.{durable_journal, opening_answers, opening_stops, sound_journal, still}
use Rattle.journal_plans.proofs.export.export_events.Goals as goal

pub returns-in_err-why-clause-kept : goal.returns-in_err-why-clause-kept
returns-in_err-why-clause-kept g c =
    let p = err_from_is_err_and c.from_residual.result c.from_residual.ensures.1 in
    rw (p.1, p.2) (λ j is. opening_stops g.D.Disk.may_leave g.D.Disk.moment g.D.Disk.left_since c.args.limits.now j c.args.disk.now c.open.new.disk (g.D.Disk.seen c.args.disk.now).bytes (g.D.Disk.seen c.open.new.disk).bytes c.open.ensures.tells c.open.ensures.same is c.open.ensures.any_moment (g.met.D.Disk.counts_now c.open.new.disk) [] unprinted c.in_err-why.field-0.0)

pub returns-in_err-store_reply-in-Open-clause-kept : goal.returns-in_err-store_reply-in-Open-clause-kept
returns-in_err-store_reply-in-Open-clause-kept g c =
    let p = err_from_is_err_and c.from_residual-in_err-store_reply-in-Open.result c.from_residual-in_err-store_reply-in-Open.ensures.1 in
    rw (p.1, p.2) (λ j is. opening_stops g.D.Disk.may_leave g.D.Disk.moment g.D.Disk.left_since c.args.limits.now j c.args.disk.now c.open.new.disk (g.D.Disk.seen c.args.disk.now).bytes (g.D.Disk.seen c.open.new.disk).bytes c.open.ensures.tells c.open.ensures.same is c.open.ensures.any_moment (g.met.D.Disk.counts_now c.open.new.disk) [] unprinted (Fault OutOfMemory))

pub returns-in_ok-store_reply-in-Open-clause-kept : goal.returns-in_ok-store_reply-in-Open-clause-kept
returns-in_ok-store_reply-in-Open-clause-kept g c = λ j is.
    let fresh = rw c.in-Open.is at c.in_ok-why.ensures.fresh in
    let kept = (rw c.in-Open.is at c.in_ok-why.ensures.kept) j is in
    let sound = sound_journal c.args.limits.now j c.in-Open.opened.journal (g.D.Disk.seen c.open.new.disk).bytes (g.D.Disk.may_leave c.open.new.disk) fresh.journal (still g.D.Disk.may_leave g.D.Disk.moment g.D.Disk.left_since c.args.limits.now j c.args.disk.now c.open.new.disk (g.D.Disk.seen c.args.disk.now).bytes (g.D.Disk.seen c.open.new.disk).bytes c.open.ensures.tells c.open.ensures.same is c.open.ensures.any_moment (g.met.D.Disk.counts_now c.open.new.disk)) kept in
    opening_answers g.D.Disk.may_leave g.D.Disk.moment g.D.Disk.left_since c.args.limits.now j c.args.disk.now c.open.new.disk (g.D.Disk.seen c.args.disk.now).bytes (g.D.Disk.seen c.open.new.disk).bytes c.open.ensures.tells c.open.ensures.same is c.open.ensures.any_moment (g.met.D.Disk.counts_now c.open.new.disk) [] unprinted _ refl (λ well f left. durable_journal c.args.limits.now j c.in-Open.opened.journal (g.D.Disk.seen c.open.new.disk).bytes (g.D.Disk.may_leave c.open.new.disk) fresh.journal sound kept f left)
