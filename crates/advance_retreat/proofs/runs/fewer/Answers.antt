use Rattle.std.proofs.Common.{◌++◌, List, [], ◌∷◌, ◌-◌, arith, subst}
use Rattle.advance_retreat.specs.declared.run.Run.{Run}
use Rattle.advance_retreat.specs.Runs.{HaveFewer}
use Rattle.advance_retreat.proofs.RunChanges.{shortened, dropped}
use Rattle.advance_retreat.proofs.runs.fewer.Goals as goal

pub returns-then-last-eq0-clause-events : goal.returns-then-last-eq0-clause-events
returns-then-last-eq0-clause-events c =
    subst (λ (rs : List Run). HaveFewer rs (c.args.before.now.items ++ c.args.last ∷ [])) c.pop.ensures.items
    (dropped c.args.before.now.items c.args.last c.requires c.if-last-eq0.true)

pub returns-clause-events : goal.returns-clause-events
returns-clause-events c = shortened c.args.before.now.items c.args.last (c.args.last.more - 1) c.requires (omega (arith, c.if-last-eq0.false))
