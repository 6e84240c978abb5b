use Rattle.std.proofs.Common.{List, sym, subst}
use Rattle.replica.specs.declared.length_runs.LengthRun.{LengthRun}
use Rattle.replica.specs.LengthRuns.{LastEndsAt, AreGrown}
use Rattle.replica.proofs.LengthRunLaws.{grown_last, grown_more}
use Rattle.replica.proofs.length_runs.begin.Goals as goal

pub returns-then-goes_on-clause-ok : goal.returns-then-goes_on-clause-ok
returns-then-goes_on-clause-ok c = λ many some fits.
    let last = subst (λ (rs : List LengthRun). LastEndsAt rs c.args.end c.args.course c.args.before) c.deref.ensures.value (c.goes_on.ensures c.if-goes_on.true) in
    grown_last c.args.runs.now.items c.args.end c.args.course c.args.before many c.requires last fits

pub returns-clause-ok : goal.returns-clause-ok
returns-clause-ok c = λ many some fits.
    subst (λ (rs : List LengthRun). AreGrown c.args.runs.now.items rs c.args.end c.args.course c.args.before many) (sym c.in_ok-push.ensures.items)
    (grown_more c.args.runs.now.items c.args.end c.args.course c.args.before many c.requires some fits)
