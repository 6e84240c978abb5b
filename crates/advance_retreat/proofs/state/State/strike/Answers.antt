use Rattle.std.proofs.Common.{List, [], ◌∷◌, ◌++◌, sym, subst}
use Rattle.advance_retreat.specs.declared.target.Target.{Target}
use Rattle.advance_retreat.specs.Refusals.{is_told, FewLoose}
use Rattle.advance_retreat.proofs.LooseEvents.{last_told, told_few}
use Rattle.advance_retreat.proofs.state.State.strike.Goals as goal

pub invariant_of-self-in-Ok : goal.invariant_of-self-in-Ok
invariant_of-self-in-Ok c =
    let inside = c.self.inside in
    let ts = inside.targets in
    let t : Target = record { lv = c.args.lv; node = c.args.node } in
    subst (λ (us : List Target). FewLoose us c.change.new.self.runs inside.lost) (sym c.in_default.ensures.ok)
    (told_few ts t inside.tree.runs c.change.new.self.runs inside.lost c.self.invariant (c.change.ensures.told (is_told (ts ++ t ∷ [])) (last_told ts t)))
