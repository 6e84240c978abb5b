use Rattle.std.proofs.Common.{arith, sym, subst}
use Rattle.replica.specs.Giving.{WereGiven}
use Rattle.replica.proofs.Giving.{touches_given}
use Rattle.replica.proofs.loading.Loading.finish_graph.Goals as goal

pub returns-clause-touches : goal.returns-clause-touches
returns-clause-touches g c events were =
    omega (arith, c.walk_good.ensures.touches, touches_given events _ (subst (WereGiven events) (sym c.self.view_is) were))

pub returns-in_err-walk_good-clause-touches : goal.returns-in_err-walk_good-clause-touches
returns-in_err-walk_good-clause-touches g c events were =
    omega (arith, c.walk_good.ensures.touches, touches_given events _ (subst (WereGiven events) (sym c.self.view_is) were))
