use Rattle.std.proofs.Common.{◌≡◌, ℕ, None, Option, IfSome, sym, ◌∙◌, subst}
use Rattle.transform.specs.declared.kept.KeptWalk.{KeptWalk}
use Rattle.transform.specs.Keeping.{IsWalkOf}
use Rattle.replica.specs.Walks.{held_after}
use Rattle.replica.proofs.KeptWalks.{if_goes}
use Rattle.replica.proofs.RoundParts.{none_by}
use Rattle.replica.proofs.walks.Walks.walk.Goals as goal

pub returns-clause-kept : goal.returns-clause-kept
returns-clause-kept g c = λ held front are.
    let graph = c.args.graph.now in
    let none : c.in_ok-walked.walked.stopped ≡ None = none_by c.in_ok-walked.walked.stopped (sym c.is_some.ensures ∙ c.if-is_some.false) in
    let latest = c.that_may_go_on-latest.ensures held (subst (λ (o : Option KeptWalk). IfSome o (IsWalkOf held)) (sym c.take.ensures.value) are.0) in
    let other = c.that_may_go_on-other.ensures held (subst (λ (o : Option KeptWalk). IfSome o (IsWalkOf held)) (sym c.take-2.ensures.value) are.1) in
    let rest = if_goes held graph front c.choose-walk.result.other (c.choose-walk.ensures.other held graph latest other) in
    subst (λ (o : Option (ℕ × ℕ)). IsWalkOf (held_after held graph o) c.go_on.new.self × IfSome c.choose-walk.result.other (IsWalkOf (held_after held graph o))) (sym none) (c.in_ok-walked.ensures.walk none, rest)
