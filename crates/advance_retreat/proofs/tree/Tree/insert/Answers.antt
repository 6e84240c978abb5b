use Rattle.std.proofs.Common.{◌<◌, ◌^◌, List, [], length, refl, sym, ap, ◌∙◌, subst}
use Rattle.ew_model.specs.declared.node.Node.TheVariants.{Event}
use Rattle.walker_record.specs.Stretches.{Stretch}
use Rattle.fugue_place.specs.declared.child.Attached.{Attached}
use Rattle.fugue_place.specs.Attachments.{is_attached, AreAttached}
use Rattle.character_runs.specs.States.{knows}
use Rattle.advance_retreat.specs.Hanging.{InTree}
use Rattle.right_children.specs.Rights.{AreRights, counted}
use Rattle.right_children.proofs.RightMoves.{noted}
use Rattle.advance_retreat.proofs.TreeMoves.{join_may, join_kept}
use Rattle.advance_retreat.proofs.tree.Tree.insert.Goals as goal

pub invariant_of-self : goal.invariant_of-self
invariant_of-self c =
    let t = c.self.inside in
    let new = ap (λ (s : InTree). is_attached s.attached (Event c.args.lv)) c.self.view_is ∙ c.requires.new in
    record {
      rights = noted (knows t.characters.records) t.siblings (counted t.rights) (counted c.note.new.self) c.args.lv c.self.invariant.rights new c.note.ensures.others c.note.ensures.counts;
      whole = c.note.ensures.whole;
    }

pub invariant_of-self-in_err-at : goal.invariant_of-self-in_err-at
invariant_of-self-in_err-at c =
    let t = c.self.inside in
    let new = ap (λ (s : InTree). is_attached s.attached (Event c.args.lv)) c.self.view_is ∙ c.requires.new in
    let told = noted (knows t.characters.records) t.siblings (counted t.rights) (counted c.note.new.self) c.args.lv c.self.invariant.rights new c.note.ensures.others c.note.ensures.counts in
    record {
      rights = subst (λ (rs : List Stretch). AreRights (knows rs) c.insert.new.siblings (counted c.note.new.self)) (sym c.in_err-at.ensures.err)
          (subst (λ (xs : List Attached). AreRights (knows t.characters.records) xs (counted c.note.new.self)) (sym c.in_err-at.ensures.detached) told);
      whole = c.note.ensures.whole;
    }

pub shift-requires-clause-may : goal.shift-requires-clause-may
shift-requires-clause-may c =
    let t = c.self.inside in
    let read = c.self.view_is in
    let a : Attached = record { parent = c.args.slot.parent; side = c.args.slot.side; id = c.args.id; node = Event c.args.lv } in
    join_may t.characters.records c.insert.new.self.records t.siblings (counted t.rights) (counted c.note.new.self) c.position-place.result c.args.lv c.in_ok-at.at c.in_ok-at.ensures.comes a refl
    c.self.invariant.rights (ap (λ (s : InTree). is_attached s.attached (Event c.args.lv)) read ∙ c.requires.new) c.in_ok-note.ensures.parent c.note.ensures.others c.note.ensures.counts
    (subst (λ (s : InTree). AreAttached [] s.attached) (sym read) c.requires.sound) (subst (λ (s : InTree). length s.records < 2 ^ 25) (sym read) c.requires.room)

pub invariant_of-self-2 : goal.invariant_of-self-2
invariant_of-self-2 c =
    let t = c.self.inside in
    let ks = c.insert.new.self.records in
    let a : Attached = record { parent = c.args.slot.parent; side = c.args.slot.side; id = c.args.id; node = Event c.args.lv } in
    record {
      rights = subst (λ (xs : List Attached). AreRights (knows ks) xs (counted c.shift.new.self)) (sym c.in_ok-at.ensures.attached)
          (join_kept t.characters.records ks t.siblings (counted t.rights) (counted c.note.new.self) c.position-place.result c.args.lv c.in_ok-at.at c.in_ok-at.ensures.comes a refl
          c.self.invariant.rights (ap (λ (s : InTree). is_attached s.attached (Event c.args.lv)) c.self.view_is ∙ c.requires.new) c.in_ok-note.ensures.parent c.note.ensures.others c.note.ensures.counts
          (counted c.shift.new.self) c.shift.ensures.shifts);
      whole = c.shift.ensures.whole;
    }
