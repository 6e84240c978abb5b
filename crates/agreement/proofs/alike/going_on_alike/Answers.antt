use Rattle.std.proofs.Common.{sym, subst, arith}
use Rattle.std.specs.Prelude.{IfSome}
use Rattle.operation_runs.specs.Runs.{run_ops}
use Rattle.agreement.specs.Sharing.{GoOnAlike}
use Rattle.agreement.proofs.GoingOn.{told_alike}
use Rattle.agreement.proofs.Answered.{some_where}
use Rattle.agreement.proofs.alike.going_on_alike.Goals as goal

pub returns : goal.returns
returns c =
    let a = c.args.a.now in
    let b = c.args.b.now in
    let p = c.args.one in
    let q = c.args.other in
    let n = c.min-count.result in
    let ours = c.rest_near-ours.ensures in
    let theirs = c.rest_near-theirs.ensures in
    let first = ours.some in
    let second = theirs.some in
    let many = c.count.ensures in
    let others = c.count-2.ensures in
    let least = c.min.ensures in
    let count = c.min-count.ensures in
    subst (λ o. IfSome o (GoOnAlike a p b q)) (sym c.then_some.ensures)
    (some_where c.begin_alike.result n (GoOnAlike a p b q)
    (λ t. told_alike a b p q n c.next_ids-ids.result (run_ops c.rest_near-ours.result) (run_ops c.rest_near-theirs.result)
    (omega (arith, first, second, many, others, least, count))
    (omega (arith, many, others, least, count))
    (omega (arith, many, others, least, count))
    (omega (arith, count))
    ours.within theirs.within ours.changes theirs.changes ours.chain theirs.chain
    c.next_ids-ids.ensures.ours c.next_ids-ids.ensures.theirs (c.begin_alike.ensures t)))
