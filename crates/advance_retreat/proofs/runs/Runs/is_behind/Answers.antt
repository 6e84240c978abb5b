use Rattle.std.proofs.Common.{◌≡◌, ◌++◌, [], ◌∷◌, sym, ap, ◌∙◌, subst}
use Rattle.std.specs.Option.{option_to_list}
use Rattle.advance_retreat.specs.Runs.{AreRuns, AreBelow}
use Rattle.advance_retreat.proofs.RunLaws.{below_last}
use Rattle.advance_retreat.proofs.runs.Runs.is_behind.Goals as goal

pub returns-in-Some : goal.returns-in-Some
returns-in-Some c = λ so.
    let is : c.self.inside.before.items ++ c.in-Some.run' ∷ [] ≡ c.args.self.now = ap (λ o. c.self.inside.before.items ++ option_to_list o) (sym c.in-Some.is) ∙ c.self.view_is in
    subst (AreBelow c.args.lv) is (below_last c.self.inside.before.items c.args.lv c.in-Some.run' (subst (AreRuns 0) (c.self.view_is ∙ sym is) c.self.invariant.0) (c.is_before.ensures so))
