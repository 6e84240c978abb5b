use Rattle.std.proofs.Common.{◌∙◌, length, drop, ap, sym, arith}
use Rattle.std.proofs.lemmas.List.{length-drop}
use Rattle.std.proofs.lemmas.Result.{err_from_is_err_and}
use Rattle.ew_outside.specs.declared.fault.Fault.TheVariants.{OutOfMemory}
use Rattle.journal_plans.specs.Keeping.{made_lines}
use Rattle.journal_plans.specs.declared.stop.Stop.TheVariants.{Fault}
use Rattle.journal_plans.proofs.Keeping.{keeps_empty, keeps_none, keeps_one, none_made, some_made}
use Rattle.journal_plans.proofs.watch.keep_made.Goals as goal

pub returns-then-before-count-clause-kept : goal.returns-then-before-count-clause-kept
returns-then-before-count-clause-kept g c =
    let held = c.args.opened.now.replica.held in
    keeps_empty g.D.Disk.may_leave g.D.Disk.moment g.D.Disk.left_since c.args.limits.now (made_lines (drop c.args.before held)) c.args.opened.now.journal c.args.disk.now (g.D.Disk.seen c.args.disk.now).bytes
    (g.K.Sink.seen c.args.out.now) tt (none_made c.args.before held (omega (arith, c.if-before-count.true, c.count.ensures))) c.requires.limits.0 (g.met.D.Disk.only_now c.args.disk.now)

pub returns-in_err-made-clause-kept : goal.returns-in_err-made-clause-kept
returns-in_err-made-clause-kept g c =
    let p = err_from_is_err_and c.from_residual.result c.from_residual.ensures.1 in
    rw (p.1, p.2)
    (keeps_none g.D.Disk.may_leave g.D.Disk.moment g.D.Disk.left_since c.args.limits.now (made_lines (drop c.args.before c.args.opened.now.replica.held)) c.args.opened.now.journal c.args.disk.now (g.D.Disk.seen c.args.disk.now).bytes
    (g.K.Sink.seen c.args.out.now) (Fault OutOfMemory) c.requires.limits.0 (g.met.D.Disk.only_now c.args.disk.now))

pub returns-clause-kept : goal.returns-clause-kept
returns-clause-kept g c =
    let held = c.args.opened.now.replica.held in
    let events = c.deref.result.now in
    let are = c.deref.ensures.value ∙ c.in_ok-made.ensures.events in
    let lines = ap made_lines (sym are) ∙ some_made events (omega (arith, ap length are, length-drop c.args.before held, c.requires.before, c.if-before-count.false, c.count.ensures)) in
    keeps_one g.D.Disk.may_leave g.D.Disk.moment g.D.Disk.left_since c.args.limits.now events (made_lines (drop c.args.before held)) c.args.opened.now.journal c.keep.new.journal c.args.disk.now c.keep.new.disk
    (g.D.Disk.seen c.args.disk.now).bytes (g.D.Disk.seen c.keep.new.disk).bytes (g.K.Sink.seen c.args.out.now) (g.K.Sink.seen c.keep.new.out) _ _ _ _ c.keep.result lines c.requires.limits.0
    (c.keep.ensures.limits ∙ c.requires.limits.0) c.keep.ensures.adds c.keep.ensures.told c.keep.ensures.cause (g.met.D.Disk.counts_now c.keep.new.disk)
