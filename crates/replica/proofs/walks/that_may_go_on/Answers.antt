use Rattle.std.proofs.Common.{IfSome, length, ap, subst, length-append, arith}
use Rattle.transform.specs.Keeping.{IsWalkOf}
use Rattle.replica.proofs.walks.that_may_go_on.Goals as goal

pub is_worth_keeping-requires-clause-known : goal.is_worth_keeping-requires-clause-known
is_worth_keeping-requires-clause-known c =
    let within = c.requires.within in
    let is = subst (λ o. IfSome o (IsWalkOf within.0)) c.in_ok-walk.was within.2 in
    is.stands.behind.low

pub is_worth_keeping-requires-clause-within : goal.is_worth_keeping-requires-clause-within
is_worth_keeping-requires-clause-within c =
    let within = c.requires.within in
    let is = subst (λ o. IfSome o (IsWalkOf within.0)) c.in_ok-walk.was within.2 in
    let later = within.1 in
    omega (arith, is.within, ap length later.1, length-append within.0 later.0, c.count.ensures.count)
