use Rattle.std.proofs.Common.{IfSome, subst}
use Rattle.advance_retreat.specs.Hanging.{InTree}
use Rattle.right_children.specs.Rights.{counted}
use Rattle.character_runs.specs.Spots.{IsSlot}
use Rattle.advance_retreat.specs.Hanging.{has_known_right}
use Rattle.advance_retreat.proofs.Hanging.{slot_is}
use Rattle.advance_retreat.proofs.tree.Tree.slot_at.Goals as goal

pub returns-clause-some : goal.returns-clause-some
returns-clause-some c =
    let t = c.self.inside in
    subst (λ (s : InTree). IfSome c.slot_at.result (IsSlot (has_known_right c.args.base s.records s.attached) s.records c.args.at)) c.self.view_is
    (slot_is t.characters.records t.siblings (counted t.rights) c.self.invariant.rights c.args.base c.args.at c.slot_at.result c.slot_at.ensures.some)
