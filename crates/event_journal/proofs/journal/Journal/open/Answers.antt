use Rattle.std.proofs.Common.{subst, ◌∙◌, arith}
use Rattle.event_journal.specs.Reading.{IsWhole}
use Rattle.event_journal.proofs.Opening.{told_read, told_written, same_told, same_written, some_then}
use Rattle.event_journal.proofs.journal.Journal.open.Goals as goal

pub returns-in_err-bytes-clause-any_moment : goal.returns-in_err-bytes-clause-any_moment
returns-in_err-bytes-clause-any_moment g c = told_read g.D.Disk.moment g.D.Disk.left_since c.args.limits.now.body c.args.disk.now c.sync.new.self c.read_disk.new.disk (g.D.Disk.may_leave c.args.disk.now) (g.D.Disk.may_leave c.sync.new.self) (g.D.Disk.may_leave c.read_disk.new.disk) (λ f left. g.met.D.Disk.only_now c.args.disk.now f left) c.sync.ensures.crash c.sync.ensures.time c.read_disk.ensures.crash (g.D.Disk.seen c.args.disk.now).bytes

pub returns-in_err-found-clause-any_moment : goal.returns-in_err-found-clause-any_moment
returns-in_err-found-clause-any_moment g c = told_read g.D.Disk.moment g.D.Disk.left_since c.args.limits.now.body c.args.disk.now c.sync.new.self c.read_disk.new.disk (g.D.Disk.may_leave c.args.disk.now) (g.D.Disk.may_leave c.sync.new.self) (g.D.Disk.may_leave c.read_disk.new.disk) (λ f left. g.met.D.Disk.only_now c.args.disk.now f left) c.sync.ensures.crash c.sync.ensures.time c.read_disk.ensures.crash (g.D.Disk.seen c.args.disk.now).bytes

pub returns-clause-any_moment : goal.returns-clause-any_moment
returns-clause-any_moment g c = told_read g.D.Disk.moment g.D.Disk.left_since c.args.limits.now.body c.args.disk.now c.sync.new.self c.read_disk.new.disk (g.D.Disk.may_leave c.args.disk.now) (g.D.Disk.may_leave c.sync.new.self) (g.D.Disk.may_leave c.read_disk.new.disk) (λ f left. g.met.D.Disk.only_now c.args.disk.now f left) c.sync.ensures.crash c.sync.ensures.time c.read_disk.ensures.crash (g.D.Disk.seen c.args.disk.now).bytes

pub returns-in_err-write_and_sync-clause-any_moment : goal.returns-in_err-write_and_sync-clause-any_moment
returns-in_err-write_and_sync-clause-any_moment g c =
    told_written g.D.Disk.moment g.D.Disk.left_since c.args.limits.now.body c.args.disk.now c.sync.new.self c.read_disk.new.disk (g.D.Disk.may_leave c.args.disk.now) (g.D.Disk.may_leave c.sync.new.self) (g.D.Disk.may_leave c.read_disk.new.disk) (λ f left. g.met.D.Disk.only_now c.args.disk.now f left) c.sync.ensures.crash c.sync.ensures.time c.read_disk.ensures.crash c.write_and_sync.new.disk (g.D.Disk.seen c.args.disk.now).bytes (g.D.Disk.seen c.read_disk.new.disk).bytes c.in_ok-bytes.bytes.items (c.read_disk.ensures.same ∙ c.sync.ensures.bytes) (g.met.D.Disk.reads_one c.args.disk.now) c.in_ok-sync.ensures.durable c.read_disk.ensures.now (subst (λ o. IsWhole o c.in_ok-bytes.bytes.items) c.sync.ensures.bytes c.in_ok-bytes.ensures.bytes) (omega (arith, c.if-len-lt2.true, c.len.ensures)) c.write_and_sync.ensures.any_moment

pub returns-then-len-lt2-clause-any_moment : goal.returns-then-len-lt2-clause-any_moment
returns-then-len-lt2-clause-any_moment g c =
    told_written g.D.Disk.moment g.D.Disk.left_since c.args.limits.now.body c.args.disk.now c.sync.new.self c.read_disk.new.disk (g.D.Disk.may_leave c.args.disk.now) (g.D.Disk.may_leave c.sync.new.self) (g.D.Disk.may_leave c.read_disk.new.disk) (λ f left. g.met.D.Disk.only_now c.args.disk.now f left) c.sync.ensures.crash c.sync.ensures.time c.read_disk.ensures.crash c.write_and_sync.new.disk (g.D.Disk.seen c.args.disk.now).bytes (g.D.Disk.seen c.read_disk.new.disk).bytes c.in_ok-bytes.bytes.items (c.read_disk.ensures.same ∙ c.sync.ensures.bytes) (g.met.D.Disk.reads_one c.args.disk.now) c.in_ok-sync.ensures.durable c.read_disk.ensures.now (subst (λ o. IsWhole o c.in_ok-bytes.bytes.items) c.sync.ensures.bytes c.in_ok-bytes.ensures.bytes) (omega (arith, c.if-len-lt2.true, c.len.ensures)) c.write_and_sync.ensures.any_moment

pub returns-in_err-sync-clause-same : goal.returns-in_err-sync-clause-same
returns-in_err-sync-clause-same g c = same_told c.args.limits.now.body (g.D.Disk.seen c.args.disk.now).bytes (g.D.Disk.seen c.sync.new.self).bytes c.sync.ensures.bytes

pub returns-in_err-bytes-clause-same : goal.returns-in_err-bytes-clause-same
returns-in_err-bytes-clause-same g c = same_told c.args.limits.now.body (g.D.Disk.seen c.args.disk.now).bytes (g.D.Disk.seen c.read_disk.new.disk).bytes (c.read_disk.ensures.same ∙ c.sync.ensures.bytes)

pub returns-in_err-found-clause-same : goal.returns-in_err-found-clause-same
returns-in_err-found-clause-same g c = same_told c.args.limits.now.body (g.D.Disk.seen c.args.disk.now).bytes (g.D.Disk.seen c.read_disk.new.disk).bytes (c.read_disk.ensures.same ∙ c.sync.ensures.bytes)

pub returns-clause-same : goal.returns-clause-same
returns-clause-same g c = same_told c.args.limits.now.body (g.D.Disk.seen c.args.disk.now).bytes (g.D.Disk.seen c.read_disk.new.disk).bytes (c.read_disk.ensures.same ∙ c.sync.ensures.bytes)

pub returns-in_err-write_and_sync-clause-same : goal.returns-in_err-write_and_sync-clause-same
returns-in_err-write_and_sync-clause-same g c =
    same_written g.D.Disk.moment g.D.Disk.left_since c.args.limits.now.body c.args.disk.now c.sync.new.self c.read_disk.new.disk (g.D.Disk.may_leave c.args.disk.now) (g.D.Disk.may_leave c.sync.new.self) (g.D.Disk.may_leave c.read_disk.new.disk) (λ f left. g.met.D.Disk.only_now c.args.disk.now f left) c.sync.ensures.crash c.sync.ensures.time c.read_disk.ensures.crash c.write_and_sync.new.disk (g.D.Disk.seen c.args.disk.now).bytes (g.D.Disk.seen c.read_disk.new.disk).bytes (g.D.Disk.seen c.write_and_sync.new.disk).bytes c.in_ok-bytes.bytes.items (c.read_disk.ensures.same ∙ c.sync.ensures.bytes) c.in_ok-sync.ensures.durable c.read_disk.ensures.now (subst (λ o. IsWhole o c.in_ok-bytes.bytes.items) c.sync.ensures.bytes c.in_ok-bytes.ensures.bytes) (omega (arith, c.if-len-lt2.true, c.len.ensures)) c.write_and_sync.ensures.any_moment
    (λ le. some_then (g.D.Disk.seen c.write_and_sync.new.disk).bytes (g.D.Disk.may_leave c.write_and_sync.new.disk) (g.D.Disk.left_since c.write_and_sync.new.disk (g.D.Disk.moment c.read_disk.new.disk)) (λ f now. g.met.D.Disk.counts_now c.write_and_sync.new.disk (g.D.Disk.moment c.read_disk.new.disk) f le now) (g.met.D.Disk.reads_one c.write_and_sync.new.disk))

pub returns-then-len-lt2-clause-same : goal.returns-then-len-lt2-clause-same
returns-then-len-lt2-clause-same g c =
    same_written g.D.Disk.moment g.D.Disk.left_since c.args.limits.now.body c.args.disk.now c.sync.new.self c.read_disk.new.disk (g.D.Disk.may_leave c.args.disk.now) (g.D.Disk.may_leave c.sync.new.self) (g.D.Disk.may_leave c.read_disk.new.disk) (λ f left. g.met.D.Disk.only_now c.args.disk.now f left) c.sync.ensures.crash c.sync.ensures.time c.read_disk.ensures.crash c.write_and_sync.new.disk (g.D.Disk.seen c.args.disk.now).bytes (g.D.Disk.seen c.read_disk.new.disk).bytes (g.D.Disk.seen c.write_and_sync.new.disk).bytes c.in_ok-bytes.bytes.items (c.read_disk.ensures.same ∙ c.sync.ensures.bytes) c.in_ok-sync.ensures.durable c.read_disk.ensures.now (subst (λ o. IsWhole o c.in_ok-bytes.bytes.items) c.sync.ensures.bytes c.in_ok-bytes.ensures.bytes) (omega (arith, c.if-len-lt2.true, c.len.ensures)) c.write_and_sync.ensures.any_moment
    (λ le. some_then (g.D.Disk.seen c.write_and_sync.new.disk).bytes (g.D.Disk.may_leave c.write_and_sync.new.disk) (g.D.Disk.left_since c.write_and_sync.new.disk (g.D.Disk.moment c.read_disk.new.disk)) (λ f now. g.met.D.Disk.counts_now c.write_and_sync.new.disk (g.D.Disk.moment c.read_disk.new.disk) f le now) (g.met.D.Disk.reads_one c.write_and_sync.new.disk))
