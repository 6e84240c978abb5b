use Rattle.std.proofs.Common.{◌≡◌, ◌+◌, arith}
use Rattle.std.proofs.lemmas.Bool.{eqb-true}
use Rattle.operation_runs.proofs.StoredLaws.{back_on}
use Rattle.operation_runs.proofs.stored.StoredRun.goes_back_to.Goals as goal

pub returns : goal.returns
returns c = λ same.
    let met = eqb-true (c.from.result + c.from-2.result) c.from-3.result same in
    back_on c.args.self c.args.next (c.goes_back.ensures c.if-not-goes_back.false) (c.goes_back-else-not-goes_back.ensures c.if-not-goes_back-2.false) (omega (arith, met, c.from.ensures, c.from-2.ensures, c.from-3.ensures))
