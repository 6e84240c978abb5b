use Rattle.std.proofs.Common.{◌+◌, ◌<◌, ◌^◌, ◌++◌, [], ◌∷◌, length, sym, ap, ◌∙◌, refl, subst, arith}
use Rattle.std.specs.Option.{option_to_list}
use Rattle.character_runs.proofs.Lists.{length-push}
use Rattle.advance_retreat.specs.declared.target.Target.{Target}
use Rattle.advance_retreat.specs.Runs.{AreRuns, events_in, HaveMore}
use Rattle.advance_retreat.proofs.RunLaws.{few}
use Rattle.advance_retreat.proofs.RunChanges.{lengthened, with_more}
use Rattle.advance_retreat.proofs.runs.Runs.lengthen.Goals.{Else-not-goes_on}
use Rattle.advance_retreat.proofs.runs.Runs.lengthen.Goals as goal

pub overflow_add-self : goal.overflow_add-self
overflow_add-self c =
    let all = few (c.self.inside.before.items ++ option_to_list c.self.inside.last) c.self.invariant.0 in
    let is = c.self.invariant.2 in
    omega (arith, all, is)

more : (c : Else-not-goes_on) → HaveMore (c.self.inside.before.items ++ with_more c.in-Some.run' (c.in-Some.run'.more + 1) ∷ []) (c.self.inside.before.items ++ c.in-Some.run' ∷ []) c.args.lv c.args.node
more c =
    let rs = c.self.inside.before.items in
    let run = c.in-Some.run' in
    let fits : c.args.lv < 2 ^ 32 = omega (arith, c.ranges.lv.fits) in
    lengthened rs run run c.args.lv (run.more + 1) c.args.node (subst (λ o. AreRuns 0 (rs ++ option_to_list o)) c.in-Some.is c.self.invariant.0) refl refl fits (c.goes_on.ensures c.if-not-goes_on.false) (omega arith)

pub invariant_of-self-2 : goal.invariant_of-self-2
invariant_of-self-2 c =
    let rs = c.self.inside.before.items in
    let t : Target = record { lv = c.args.lv; node = c.args.node } in
    let now = (more (goal.at.invariant_of-self-2 c).Else-not-goes_on).1 in
    let old = ap (λ o. events_in (rs ++ option_to_list o)) (sym c.in-Some.is) in
    let long = ap length (now ∙ ap (λ ts. ts ++ t ∷ []) old) ∙ length-push (events_in (rs ++ option_to_list c.self.inside.last)) t in
    let is = c.self.invariant.2 in
    ((more (goal.at.invariant_of-self-2 c).Else-not-goes_on).0, λ none. absurd cc, omega (arith, long, is))

pub returns-clause-yes : goal.returns-clause-yes
returns-clause-yes c = λ _. (more (goal.at.returns-clause-yes c).Else-not-goes_on).1 ∙ ap (λ rs. events_in rs ++ record { lv = c.args.lv; node = c.args.node } ∷ []) (ap (λ o. c.self.inside.before.items ++ option_to_list o) (sym c.in-Some.is) ∙ c.self.view_is)
