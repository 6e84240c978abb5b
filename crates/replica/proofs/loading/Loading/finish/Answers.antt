use Rattle.std.proofs.Common.{arith, sym, subst}
use Rattle.replica.specs.Giving.{WereGiven}
use Rattle.replica.proofs.Giving.{touches_given}
use Rattle.replica.proofs.loading.Loading.finish.Goals as goal

pub returns-in_err-text-clause-touches : goal.returns-in_err-text-clause-touches
returns-in_err-text-clause-touches g c events were =
    omega (arith, c.load.ensures.touches, touches_given events _ (subst (WereGiven events) (sym c.self.view_is) were))
