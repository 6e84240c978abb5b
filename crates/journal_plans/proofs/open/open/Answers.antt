use Rattle.std.proofs.Common.{◌∙◌, Err, ap, arith}
use Rattle.ew_model.specs.Touches.{touches}
use Rattle.journal_plans.proofs.Opening.{events_told, judged_told, kept_told, refused_may, refused_told}
use Rattle.journal_plans.proofs.open.open.Goals as goal

pub returns-in_err-replica-in-Ok-clause-most : goal.returns-in_err-replica-in-Ok-clause-most
returns-in_err-replica-in-Ok-clause-most g c = λ j is. omega (arith, c.judge.ensures.most, ap (λ es. touches es 0) (events_told c.args.limits.now (g.D.Disk.seen c.args.disk.now).bytes j c.in-Ok.events.items is c.in-Ok.ensures.events))

pub returns-in-Open-clause-most : goal.returns-in-Open-clause-most
returns-in-Open-clause-most g c = λ j is. omega (arith, c.judge.ensures.most, ap (λ es. touches es 0) (events_told c.args.limits.now (g.D.Disk.seen c.args.disk.now).bytes j c.in-Ok.events.items is c.in-Ok.ensures.events))

pub returns-in-Refused-clause-most : goal.returns-in-Refused-clause-most
returns-in-Refused-clause-most g c = λ j is. omega (arith, c.judge.ensures.most, ap (λ es. touches es 0) (events_told c.args.limits.now (g.D.Disk.seen c.args.disk.now).bytes j c.in-Ok.events.items is c.in-Ok.ensures.events))

pub returns-in_ok-open_refusal-in-Err-clause-told : goal.returns-in_ok-open_refusal-in-Err-clause-told
returns-in_ok-open_refusal-in-Err-clause-told g c = λ j is.
    refused_told c.args.limits.now (g.D.Disk.seen c.args.disk.now).bytes j c.in-Err.fault c.in_ok-open_refusal-in-Err.field-0 is c.in_ok-open_refusal-in-Err.ensures
    (λ offset f. c.open.ensures.bad offset (c.in-Err.is ∙ ap Err f)) (λ count f. c.open.ensures.many count (c.in-Err.is ∙ ap Err f))

pub returns-in_ok-open_refusal-in-Err-clause-some : goal.returns-in_ok-open_refusal-in-Err-clause-some
returns-in_ok-open_refusal-in-Err-clause-some g c = refused_may c.args.limits.now c.in-Err.fault c.in_ok-open_refusal-in-Err.field-0 c.in_ok-open_refusal-in-Err.ensures

pub returns-in-Open-clause-told : goal.returns-in-Open-clause-told
returns-in-Open-clause-told g c = λ j is. (rw c.in-Open.is at c.in_ok-replica-in-Ok.ensures.told) ∙ judged_told c.args.limits.now (g.D.Disk.seen c.args.disk.now).bytes j c.in-Ok.events.items is c.in-Ok.ensures.events c.in-Ok.ensures.within

pub returns-in-Refused-clause-told : goal.returns-in-Refused-clause-told
returns-in-Refused-clause-told g c = λ j is. (rw c.in-Refused.is at c.in_ok-replica-in-Ok.ensures.told) ∙ judged_told c.args.limits.now (g.D.Disk.seen c.args.disk.now).bytes j c.in-Ok.events.items is c.in-Ok.ensures.events c.in-Ok.ensures.within

pub returns-in-Open-clause-kept : goal.returns-in-Open-clause-kept
returns-in-Open-clause-kept g c = λ j is.
    kept_told c.args.limits.now c.in-Ok.journal (g.D.Disk.seen c.args.disk.now).bytes (g.D.Disk.seen c.open.new.disk).bytes (g.D.Disk.may_leave c.open.new.disk) j c.in-Ok.ensures.journal.0 c.open.ensures.tells c.open.ensures.same c.in-Ok.ensures.kept is
