use Rattle.std.proofs.Common.{◌||◌, ◌&&◌, ap, ◌∙◌}
use Rattle.ancestors.specs.Sides.{has_left, has_right, on_left, on_right}
use Rattle.ancestors.proofs.PendingLists.{cut_names}
use Rattle.ancestors.proofs.difference.take_chain.Goals as goal

pub returns-in_ok-put-in-Some-highest-clause-left : goal.returns-in_ok-put-in-Some-highest-clause-left
returns-in_ok-put-in-Some-highest-clause-left g c = λ q.
    c.in_ok-put-in-Some-highest.ensures.left q
    ∙ ap (λ b. on_left c.args.sides.now q || (has_left c.args.side && b))
    (cut_names (g.G.Parentage.parents c.args.g.now) c.in-Some.chain.first c.in-Some-highest.other c.args.lv c.in-Some.ensures.chain c.if-chain-other.true (c.requires.lower c.in-Some-highest.other c.in-Some-highest.ensures.highest.either) q)

pub returns-in_ok-put-in-Some-highest-clause-right : goal.returns-in_ok-put-in-Some-highest-clause-right
returns-in_ok-put-in-Some-highest-clause-right g c = λ q.
    c.in_ok-put-in-Some-highest.ensures.right q
    ∙ ap (λ b. on_right c.args.sides.now q || (has_right c.args.side && b))
    (cut_names (g.G.Parentage.parents c.args.g.now) c.in-Some.chain.first c.in-Some-highest.other c.args.lv c.in-Some.ensures.chain c.if-chain-other.true (c.requires.lower c.in-Some-highest.other c.in-Some-highest.ensures.highest.either) q)
