use Rattle.std.proofs.Common.{◌≤◌, ◌^◌, [], length, sym, ap, ◌∙◌, subst}
use Rattle.fugue_place.specs.Attachments.{is_there, AreAttached}
use Rattle.advance_retreat.specs.Hanging.{InTree}
use Rattle.right_children.specs.Rights.{counted}
use Rattle.advance_retreat.proofs.TreeMoves.{change_may, change_kept}
use Rattle.advance_retreat.proofs.tree.Tree.change.Goals as goal

pub shift-requires-clause-may : goal.shift-requires-clause-may
shift-requires-clause-may c =
    let t = c.self.inside in
    let read = c.self.view_is in
    change_may t.characters.records c.change.new.self.records t.siblings (counted t.rights) c.args.node c.args.change c.self.invariant.rights
    (subst (λ (s : InTree). AreAttached [] s.attached) (sym read) c.requires.sound) (ap (λ (s : InTree). is_there s.attached c.args.node) read ∙ c.requires.there)
    c.in_ok-known.ensures.ok c.in_ok-known.known.was c.in_ok-known.known.is c.in_ok-known.ensures.was c.in_ok-known.ensures.is
    (subst (λ (s : InTree). length s.records ≤ 2 ^ 25) (sym read) c.requires.few)

pub invariant_of-self-2 : goal.invariant_of-self-2
invariant_of-self-2 c =
    let t = c.self.inside in
    let read = c.self.view_is in
    record {
      rights = change_kept t.characters.records c.change.new.self.records t.siblings (counted t.rights) c.args.node c.args.change c.self.invariant.rights
          (subst (λ (s : InTree). AreAttached [] s.attached) (sym read) c.requires.sound) (ap (λ (s : InTree). is_there s.attached c.args.node) read ∙ c.requires.there)
          c.in_ok-known.ensures.ok c.in_ok-known.known.was c.in_ok-known.known.is c.in_ok-known.ensures.was c.in_ok-known.ensures.is (counted c.shift.new.self) c.shift.ensures.shifts;
      whole = c.shift.ensures.whole;
    }
