use Rattle.std.proofs.Common.{[], ap}
use Rattle.std.proofs.lemmas.Result.{err_from_is_err_and}
use Rattle.ew_outside.specs.Faults.{fault_of}
use Rattle.ew_outside.specs.declared.fault.Fault.TheVariants.{OutOfMemory}
use Rattle.command_table.specs.Refusals.{file_there}
use Rattle.command_table.specs.Table.{refuses}
use Rattle.command_texts.specs.declared.refusal.Refusal.TheVariants as why
use Rattle.opened_files.specs.Loading.{loaded_view}
use Rattle.opened_files.specs.declared.reply.Reply.TheVariants as reply
use Rattle.journal_plans.specs.Watching.{unprinted}
use Rattle.journal_plans.specs.declared.stop.Stop.TheVariants.{Fault}
use Rattle.journal_plans.proofs.Batches.{tells_itself}
use Rattle.journal_plans.proofs.Exporting.{some_there}
use Rattle.journal_plans.proofs.Watching.{alike_itself, moments_itself, opening_stops}
use Rattle.journal_plans.proofs.export.export.Goals as goal

pub returns-in_err-found-clause-kept : goal.returns-in_err-found-clause-kept
returns-in_err-found-clause-kept g c =
    let p = err_from_is_err_and c.from_residual.result c.from_residual.ensures.1 in
    rw (p.1, p.2) (λ j is. opening_stops g.D.Disk.may_leave g.D.Disk.moment g.D.Disk.left_since c.args.limits.now j c.args.disk.now c.args.disk.now (g.D.Disk.seen c.args.disk.now).bytes (g.D.Disk.seen c.args.disk.now).bytes (tells_itself (g.D.Disk.seen c.args.disk.now).bytes) (alike_itself c.args.limits.now (g.D.Disk.seen c.args.disk.now).bytes) is (moments_itself g.D.Disk.may_leave g.D.Disk.moment g.D.Disk.left_since c.args.limits.now c.args.disk.now (g.D.Disk.seen c.args.disk.now).bytes (g.met.D.Disk.only_now c.args.disk.now)) (g.met.D.Disk.counts_now c.args.disk.now) [] unprinted (Fault (fault_of c.in_err-found.field-0.0)))

pub returns-in_err-from_str-clause-kept : goal.returns-in_err-from_str-clause-kept
returns-in_err-from_str-clause-kept g c =
    let p = err_from_is_err_and c.from_residual-in_err-from_str.result c.from_residual-in_err-from_str.ensures.1 in
    rw (p.1, p.2) (λ j is. opening_stops g.D.Disk.may_leave g.D.Disk.moment g.D.Disk.left_since c.args.limits.now j c.args.disk.now c.args.disk.now (g.D.Disk.seen c.args.disk.now).bytes (g.D.Disk.seen c.args.disk.now).bytes (tells_itself (g.D.Disk.seen c.args.disk.now).bytes) (alike_itself c.args.limits.now (g.D.Disk.seen c.args.disk.now).bytes) is (moments_itself g.D.Disk.may_leave g.D.Disk.moment g.D.Disk.left_since c.args.limits.now c.args.disk.now (g.D.Disk.seen c.args.disk.now).bytes (g.met.D.Disk.only_now c.args.disk.now)) (g.met.D.Disk.counts_now c.args.disk.now) [] unprinted (Fault OutOfMemory))

pub returns-then-is_there-clause-some : goal.returns-then-is_there-clause-some
returns-then-is_there-clause-some g c =
    some_there c.args.name.now c.args.limits.now (loaded_view c.in_ok-found.found) (reply.Refuses (why.FileThere c.in_ok-from_str.field-0)) c.in_ok-found.ensures.short (c.is_there.ensures.there c.if-is_there.true)
    (ap (λ n. refuses (file_there n)) c.in_ok-from_str.ensures.ok)
