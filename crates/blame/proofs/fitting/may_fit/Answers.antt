use Rattle.std.proofs.Common.{sym, ◌∙◌, arith}
use Rattle.blame.proofs.Columns.{none_longer}
use Rattle.blame.proofs.fitting.may_fit.Goals as goal

pub returns-else-branch-clause-same : goal.returns-else-branch-clause-same
returns-else-branch-clause-same c =
    let text = c.args.text.now in
    let seen = c.loop-seen.seen in
    none_longer c.args.columns text seen c.loop-seen.invariant (omega (arith, c.loop-seen-test.true))
    (c.ends_printable.ensures c.if-not-ends_printable.false)
    (sym c.in_ok-fits.ensures ∙ c.if-branch.false)
