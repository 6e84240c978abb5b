use Rattle.std.proofs.Common.{List, [], ◌∷◌, ◌++◌, sym, subst}
use Rattle.ew_model.specs.declared.node.Node.TheVariants.{Event}
use Rattle.advance_retreat.specs.declared.target.Target.{Target}
use Rattle.advance_retreat.specs.Kept.{Kept}
use Rattle.advance_retreat.specs.Refusals.{is_told, FewLoose}
use Rattle.advance_retreat.specs.Hanging.{Puts}
use Rattle.advance_retreat.proofs.LooseEvents.{last_told, told_few}
use Rattle.advance_retreat.proofs.Putting.{puts_by}
use Rattle.advance_retreat.proofs.state.State.put.Goals as goal

pub invariant_of-self-in-Ok : goal.invariant_of-self-in-Ok
invariant_of-self-in-Ok c =
    let inside = c.self.inside in
    let ts = inside.targets in
    let t : Target = record { lv = c.args.lv; node = Event c.args.lv } in
    subst (λ (us : List Target). FewLoose us c.insert.new.self.runs inside.lost) (sym c.in_default.ensures.ok)
    (told_few ts t inside.tree.runs c.insert.new.self.runs inside.lost c.self.invariant (c.in-Ok.ensures.told (is_told (ts ++ t ∷ [])) (last_told ts t)))

pub returns-in-Ok-clause-ok : goal.returns-in-Ok-clause-ok
returns-in-Ok-clause-ok c =
    let inside = c.self.inside in
    let old : Kept = record { base = inside.base; records = inside.tree.records; attached = inside.tree.attached; targets = inside.targets; lost = inside.lost } in
    let tree = c.insert.new.self in
    let came = c.in-Ok.ensures.comes in
    let new : Kept = record { base = inside.base; records = tree.records; attached = tree.attached; targets = c.add.new.self; lost = inside.lost } in
    subst (λ (s : Kept). Puts s new c.args.lv c.args.id c.args.slot c.in-Ok.at) c.self.view_is
    (puts_by old tree.records tree.attached c.add.new.self c.args.lv c.args.id c.args.slot came.0 c.in-Ok.at came.1 came.2 c.in-Ok.ensures.attached c.in_default.ensures.ok)
