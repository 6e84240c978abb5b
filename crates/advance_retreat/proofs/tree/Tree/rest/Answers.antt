use Rattle.std.proofs.Common.{List, sym, subst}
use Rattle.walker_record.specs.Stretches.{Stretch}
use Rattle.character_runs.specs.States.{knows}
use Rattle.advance_retreat.specs.Hanging.{InTree}
use Rattle.right_children.specs.Rights.{AreRights, HangWithin, counted}
use Rattle.advance_retreat.proofs.TreeMoves.{at_rest_known}
use Rattle.advance_retreat.proofs.tree.Tree.rest.Goals as goal

pub invariant_of-self : goal.invariant_of-self
invariant_of-self c =
    let t = c.self.inside in
    let within = subst (λ (s : InTree). HangWithin c.args.at.from c.args.at.to s.attached) (sym c.self.view_is) c.requires.within in
    record {
      rights = subst (λ (xs : List Stretch). AreRights (knows xs) t.siblings (counted c.rest-2.new.self)) (sym c.rest.ensures.records)
          (at_rest_known t.characters.records t.siblings c.args.at.from c.args.at.to (counted c.rest-2.new.self) within (c.rest-2.ensures.rights (knows t.characters.records) t.siblings c.self.invariant.rights within));
      whole = c.rest-2.ensures.whole;
    }
