use Rattle.replica.specs.Walks.{CameBehind, MayGoOn}
use Rattle.replica.proofs.RoundParts.{if_both}
use Rattle.replica.proofs.walks.choose.Goals as goal

pub returns-then-came_behind-clause-walk : goal.returns-then-came_behind-clause-walk
returns-then-came_behind-clause-walk c = λ held graph latest other.
    if_both c.args.latest (MayGoOn held graph) (CameBehind c.args.cut) (λ w. MayGoOn held graph w × CameBehind c.args.cut w) (λ w may behind. (may, behind)) latest (c.came_behind.ensures c.if-came_behind.true)

pub returns-then-came_behind-2-clause-walk : goal.returns-then-came_behind-2-clause-walk
returns-then-came_behind-2-clause-walk c = λ held graph latest other.
    if_both c.args.other (MayGoOn held graph) (CameBehind c.args.cut) (λ w. MayGoOn held graph w × CameBehind c.args.cut w) (λ w may behind. (may, behind)) other (c.came_behind-2.ensures c.if-came_behind-2.true)
