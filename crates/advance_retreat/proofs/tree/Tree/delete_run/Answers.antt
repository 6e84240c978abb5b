use Rattle.std.proofs.Common.{◌≡◌, Bool, sym, subst}
use Rattle.ew_model.specs.declared.node.Node.{Node}
use Rattle.character_runs.specs.States.{knows}
use Rattle.right_children.specs.Rights.{AreRights, counted}
use Rattle.advance_retreat.proofs.tree.Tree.delete_run.Goals as goal

pub invariant_of-self : goal.invariant_of-self
invariant_of-self c =
    let t = c.self.inside in
    let same : knows t.characters.records ≡ knows c.delete_run.new.self.records = λ i v. sym (c.delete_run.ensures.known v) i in
    record {
      rights = subst (λ (f : Node → Bool). AreRights f t.siblings (counted t.rights)) same c.self.invariant.rights;
      whole = c.self.invariant.whole;
    }
