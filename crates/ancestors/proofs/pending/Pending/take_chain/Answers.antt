use Rattle.std.proofs.Common.{nat_eq}
use Rattle.ew_model.specs.Graph.{is_named}
use Rattle.ancestors.proofs.PendingLists.{cut_puts}
use Rattle.ancestors.proofs.pending.Pending.take_chain.Goals as goal

pub returns-in-Some-highest-clause-put : goal.returns-in-Some-highest-clause-put
returns-in-Some-highest-clause-put g c =
    cut_puts (g.G.Parentage.parents c.args.g.now) c.args.floor c.in-Some.chain.first c.in-Some-highest.other c.args.lv (is_named nat_eq c.args.self.now) c.in-Some.ensures.chain c.if-chain-other.true
    (c.requires.lower c.in-Some-highest.other c.in-Some-highest.ensures.member) c.in-Some-highest.ensures.member
