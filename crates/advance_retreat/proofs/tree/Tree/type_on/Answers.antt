use Rattle.std.proofs.Common.{ℕ, ◌+◌, ◌<◌, ◌≤◌, ◌^◌, List, [], length, sym, ap, ◌∙◌, subst}
use Rattle.std.specs.List.{list_any}
use Rattle.ew_model.specs.declared.node.Node.TheVariants.{Event}
use Rattle.fugue_place.specs.declared.child.Attached.{Attached}
use Rattle.fugue_place.specs.Attachments.{AreAttached}
use Rattle.fugue_place.specs.Heirs.{AreNew}
use Rattle.character_runs.specs.States.{is_of, knows}
use Rattle.character_runs.specs.Laid.{InRuns}
use Rattle.right_children.specs.Rights.{AreRights, counted}
use Rattle.advance_retreat.specs.Hanging.{InTree}
use Rattle.advance_retreat.proofs.TreeTyping.{still_told, before_known, typed_shift}
use Rattle.advance_retreat.proofs.tree.Tree.type_on.Goals as goal

pub invariant_of-self : goal.invariant_of-self
invariant_of-self c =
    let t = c.self.inside in
    record {
      rights = still_told t.characters.records t.siblings (counted t.rights) (counted c.note_heirs.new.self) c.args.newest c.args.count c.self.invariant.rights
          (subst (λ (s : InTree). AreNew s.attached c.args.newest c.args.count) (sym c.self.view_is) c.requires.new) c.note_heirs.ensures.others c.note_heirs.ensures.counts;
      whole = c.note_heirs.ensures.whole;
    }

pub invariant_of-self-in_err-first : goal.invariant_of-self-in_err-first
invariant_of-self-in_err-first c =
    let t = c.self.inside in
    let told = still_told t.characters.records t.siblings (counted t.rights) (counted c.note_heirs.new.self) c.args.newest c.args.count c.self.invariant.rights
    (subst (λ (s : InTree). AreNew s.attached c.args.newest c.args.count) (sym c.self.view_is) c.requires.new) c.note_heirs.ensures.others c.note_heirs.ensures.counts in
    record {
      rights = subst (λ (cs : InRuns). AreRights (knows cs.records) c.type_on.new.siblings (counted c.note_heirs.new.self)) (sym c.in_err-first.ensures.same)
          (subst (λ (xs : List Attached). AreRights (knows t.characters.records) xs (counted c.note_heirs.new.self)) (sym c.in_err-first.ensures.detached) told);
      whole = c.note_heirs.ensures.whole;
    }

pub shift_each-requires-clause-may : goal.shift_each-requires-clause-may
shift_each-requires-clause-may c =
    let t = c.self.inside in
    let read = c.self.view_is in
    let new = subst (λ (s : InTree). AreNew s.attached c.args.newest c.args.count) (sym read) c.requires.new in
    let sound = subst (λ (s : InTree). AreAttached [] s.attached) (sym read) c.requires.sound in
    let none = λ (k : ℕ) (lt : k < c.args.count). ap (λ (s : InTree). list_any (is_of (Event (c.args.newest + k + 1))) s.records) read ∙ c.requires.unrecorded k lt in
    let room = subst (λ (s : InTree). length s.records + c.args.count ≤ 2 ^ 25) (sym read) c.requires.room in
    let have = c.in_ok-first.ensures.attached in (
      knows t.characters.records,
      knows c.type_on.new.self.records,
      c.type_on.new.siblings,
      before_known t.characters.records t.siblings (counted t.rights) (counted c.note_heirs.new.self) c.args.newest c.args.count c.self.invariant.rights new c.note_heirs.ensures.others c.note_heirs.ensures.counts
          c.in-Ok.ensures.parents sound c.type_on.new.siblings have none,
      typed_shift t.characters.records t.siblings (counted t.rights) (counted c.note_heirs.new.self) c.args.newest c.args.count c.self.invariant.rights new c.note_heirs.ensures.others c.note_heirs.ensures.counts
          c.in-Ok.ensures.parents sound c.type_on.new.siblings have none c.type_on.new.self.records c.args.at c.in_ok-first.first c.in_ok-first.ensures.come room,
    )

pub invariant_of-self-2 : goal.invariant_of-self-2
invariant_of-self-2 c =
    let t = c.self.inside in
    let read = c.self.view_is in
    let new = subst (λ (s : InTree). AreNew s.attached c.args.newest c.args.count) (sym read) c.requires.new in
    let sound = subst (λ (s : InTree). AreAttached [] s.attached) (sym read) c.requires.sound in
    let none = λ (k : ℕ) (lt : k < c.args.count). ap (λ (s : InTree). list_any (is_of (Event (c.args.newest + k + 1))) s.records) read ∙ c.requires.unrecorded k lt in
    let room = subst (λ (s : InTree). length s.records + c.args.count ≤ 2 ^ 25) (sym read) c.requires.room in
    let have = c.in_ok-first.ensures.attached in
    record {
      rights = c.shift_each.ensures.rights (knows t.characters.records) (knows c.type_on.new.self.records) c.type_on.new.siblings
          (before_known t.characters.records t.siblings (counted t.rights) (counted c.note_heirs.new.self) c.args.newest c.args.count c.self.invariant.rights new c.note_heirs.ensures.others c.note_heirs.ensures.counts
          c.in-Ok.ensures.parents sound c.type_on.new.siblings have none)
          (typed_shift t.characters.records t.siblings (counted t.rights) (counted c.note_heirs.new.self) c.args.newest c.args.count c.self.invariant.rights new c.note_heirs.ensures.others c.note_heirs.ensures.counts
          c.in-Ok.ensures.parents sound c.type_on.new.siblings have none c.type_on.new.self.records c.args.at c.in_ok-first.first c.in_ok-first.ensures.come room);
      whole = c.shift_each.ensures.whole;
    }
