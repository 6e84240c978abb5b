use Rattle.std.proofs.Common.{sym, ap, ◌∙◌, rules}
use Rattle.std.proofs.lemmas.Iterator.{cases_from_all, YieldsList-from_slice}
use Rattle.peer_definitions.specs.Machine.{Peer, all_agree}
use Rattle.net_core.proofs.Agreeing.{SameHeld, told_by_first}
use Rattle.net_core.proofs.comparing.all_agree.Goals as goal

pub returns-in-Some : goal.returns-in-Some
returns-in-Some c =
    let first = c.in-Some.first.now in
    let others = c.in-Some.others.now in
    told_by_first first others c.all.result
    (cases_from_all _ _ _ (SameHeld first) (λ (q : Peer). SameHeld first q → ⊥) c.all.ensures.ran (YieldsList-from_slice others cc)
    (λ x q k. search rules) (λ x q k. search rules))
    ∙ ap all_agree (sym c.in-Some.ensures.cases.0)
