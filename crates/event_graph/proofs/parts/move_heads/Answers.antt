use Rattle.std.proofs.Common.{◌∙◌, ◌∷◌, [], sym, ap, subst}
use Rattle.ew_model.specs.Positions.{AreParents}
use Rattle.event_graph.specs.Afters.{StandsOn}
use Rattle.event_graph.specs.declared.parts.After.{After}
use Rattle.event_graph.proofs.OneHead.{one_head}
use Rattle.event_graph.proofs.parts.move_heads.Goals as goal

pub returns-in_ok-push_on_last-in-Last-clause-heads : goal.returns-in_ok-push_on_last-in-Last-clause-heads
returns-in_ok-push_on_last-in-Last-clause-heads c history good count front stands =
    let parents = c.args.parents.now in
    let on = subst (λ (a : After). StandsOn a c.args.count c.args.heads.now parents) c.in-Last.is stands in
    c.in_ok-next-in-Last.ensures ∙ ap (λ n. n ∷ []) count ∙ sym (one_head history parents good (subst (λ n. AreParents n parents) count c.requires.parents) (sym front ∙ sym on.0))

pub returns-in_ok-push-in-Heads-clause-heads : goal.returns-in_ok-push-in-Heads-clause-heads
returns-in_ok-push-in-Heads-clause-heads c history good count front stands =
    let parents = c.args.parents.now in
    let on = subst (λ (a : After). StandsOn a c.args.count c.args.heads.now parents) c.in-Heads.is stands in
    c.in_ok-next-in-Heads.ensures ∙ ap (λ n. n ∷ []) count ∙ sym (one_head history parents good (subst (λ n. AreParents n parents) count c.requires.parents) (sym front ∙ sym on))
