use Rattle.std.proofs.Common.{◌≡◌, List, [], ◌++◌, refl, sym, subst, arith}
use Rattle.ew_model.specs.declared.id.Id.{Id}
use Rattle.fugue_place.specs.Attachments.{AreAttached}
use Rattle.fugue_place.specs.Heirs.{AreNew}
use Rattle.advance_retreat.specs.declared.target.Target.{Target}
use Rattle.advance_retreat.specs.Kept.{Kept, typed_targets}
use Rattle.advance_retreat.specs.Refusals.{is_told, FewLoose}
use Rattle.advance_retreat.specs.Hanging.{IsNewest, PutEach}
use Rattle.advance_retreat.proofs.LooseEvents.{many_few}
use Rattle.advance_retreat.proofs.PuttingEach.{kept_on, puts_each}
use Rattle.advance_retreat.proofs.TypedTargets.{typed_told}
use Rattle.advance_retreat.proofs.state.State.put_typed.Goals as goal

pub invariant_of-self-in-Some : goal.invariant_of-self-in-Some
invariant_of-self-in-Some c =
    let inside = c.self.inside in
    let ts = inside.targets in
    let us = typed_targets c.args.newest c.args.count in
    subst (λ (vs : List Target). FewLoose vs c.type_on.new.self.runs inside.lost) (sym (c.add_typed.ensures.yes c.if-not-add_typed.false))
    (many_few ts us inside.tree.runs c.type_on.new.self.runs inside.lost c.self.invariant (c.in-Some.ensures.told (is_told (ts ++ us)) (λ k lt. typed_told ts c.args.newest c.args.count k lt)))

pub returns-in-Some-clause-some : goal.returns-in-Some-clause-some
returns-in-Some-clause-some c =
    let inside = c.self.inside in
    let old : Kept = record { base = inside.base; records = inside.tree.records; attached = inside.tree.attached; targets = inside.targets; lost = inside.lost } in
    let tree = c.type_on.new.self in
    let new : Kept = record { base = inside.base; records = tree.records; attached = tree.attached; targets = c.add_typed.new.self; lost = inside.lost } in
    let have = c.in-Some.ensures.attached in
    let x : Id = have.newest.id in
    let newest : IsNewest old.attached c.args.newest x = (have.newest, have.last, have.node, refl) in
    let sound = subst (λ (s : Kept). AreAttached [] s.attached) (sym c.self.view_is) c.requires.sound in
    let all_new = subst (λ (s : Kept). AreNew s.attached c.args.newest c.args.count) (sym c.self.view_is) c.requires.new in
    let told = c.add_typed.ensures.yes c.if-not-add_typed.false in
    let made = puts_each old x c.args.newest c.args.count sound newest all_new c.args.count c.args.at c.in-Some.first tree.records (omega arith) c.in-Some.ensures.come in
    let is : kept_on old x c.args.newest c.args.count sound newest all_new tree.records c.args.count ≡ new = λ i. record { base = inside.base; records = tree.records; attached = sym have.after i; targets = sym told i; lost = inside.lost } in
    subst (λ (s : Kept). (y : Id) × IsNewest s.attached c.args.newest y × PutEach s new y c.args.newest c.args.at c.args.count c.in-Some.first) c.self.view_is
    (x, newest, subst (λ (s : Kept). PutEach old s x c.args.newest c.args.at c.args.count c.in-Some.first) is made)
