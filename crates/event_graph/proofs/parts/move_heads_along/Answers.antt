use Rattle.std.proofs.Common.{◌∙◌, ◌-◌, ◌+◌, ◌∷◌, [], sym, ap, arith}
use Rattle.frontier.specs.Heads.{heads_after}
use Rattle.event_graph.proofs.Chains.{only_along, others_along}
use Rattle.event_graph.proofs.parts.move_heads_along.Goals as goal

pub returns-then-equals-clause-heads : goal.returns-then-equals-clause-heads
returns-then-equals-clause-heads c history good count front =
    c.in_ok-next.ensures ∙ sym (only_along c.args.more history (c.args.count - 1) good (omega (arith, count, c.requires.some)) (sym front ∙ c.equals.ensures.0 c.if-equals.true))

pub returns-clause-heads : goal.returns-clause-heads
returns-clause-heads c history good count front =
    let last = c.args.count - 1 in
    c.in_ok-insert_event.ensures.ok ∙ ap (λ hs. heads_after hs (last + c.args.more) (last ∷ [])) front
    ∙ others_along c.args.more history last good (omega (arith, count, c.requires.some)) (omega arith)
